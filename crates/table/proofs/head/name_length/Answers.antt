use Rattle.std.proofs.Common.{◌≡◌, not, eqb, ltb, cond, Some, None, rules, tests, refl, sym, ap, ◌∙◌, length, arith}
use Rattle.std.specs.List.{position_or_len}
use Rattle.std.specs.Option.{unwrap_or}
use Rattle.std.proofs.lemmas.Bool.{cond_both, ltb-false}
use Rattle.std.proofs.lemmas.Iterator.{YieldsList-from_slice}
use Rattle.std.proofs.lemmas.Iterator.Search.{position_from_yields_List}
use Rattle.std.proofs.lemmas.List.Sums.{prefix_len-le-length}
use Rattle.std.proofs.lemmas.List.Recursion.{is_position_or_len}
use Rattle.table.specs.Head.{name_length}
use Rattle.table.proofs.head.name_length.Goals as goal

pub returns-clause-value : goal.returns-clause-value
returns-clause-value c =
    let line = c.args.line.now in
    let n = length line in
    let p = position_or_len (λ b. eqb b 58) line in
    let same : name_length line ≡ p = is_position_or_len name_length (λ b. eqb b 58) refl (λ _ _. refl) line in
    let found : c.position.result ≡ cond (ltb p n) (Some p) None =
    position_from_yields_List (λ b. eqb b 58) _ _ c.position.result c.position.ensures.ran (YieldsList-from_slice line cc) (λ x b q k. search (rules, tests)) in
    c.unwrap_or.ensures ∙ ap (λ o. unwrap_or o n) found
    ∙ cond_both (ltb p n) (Some p) None (λ o. unwrap_or o n ≡ name_length line) (λ _. sym same)
    (λ e. omega (arith, ltb-false p n e, prefix_len-le-length (λ b. not (eqb b 58)) line))
