use Rattle.std.proofs.Common.{◌≡◌, ◌+◌, ◌==◌, take, drop, ap, sym, ◌∙◌, rules, tests, arith}
use Rattle.std.proofs.lemmas.List.{take_all, drop_all}
use Rattle.std.proofs.lemmas.Iterator.{YieldsList-from_slice}
use Rattle.std.proofs.lemmas.Iterator.Search.{position_from_yields_List}
use Rattle.std.specs.List.{position_or_len}
use Rattle.trace.proofs.Cuts.{found, not_found, whole_rest}
use Rattle.trace.proofs.script.first_line.Goals as goal

pub returns-in-Some : goal.returns-in-Some
returns-in-Some c =
    let s = c.args.text.now in
    let i = c.in-Some.i in
    let answer = position_from_yields_List (λ b. b == 10) _ _ c.position.result c.position.ensures.ran (YieldsList-from_slice s cc) (λ x b q k. search (rules, tests)) in
    let here : i ≡ position_or_len (λ b. b == 10) s = sym (found _ s i (sym answer ∙ c.in-Some.is)) in
    record { line = ap (λ k. take k s) here; behind = whole_rest s (i + 1) ∙ ap (λ k. drop (k + 1) s) here }

pub returns-in-None : goal.returns-in-None
returns-in-None c =
    let s = c.args.text.now in
    let answer = position_from_yields_List (λ b. b == 10) _ _ c.position.result c.position.ensures.ran (YieldsList-from_slice s cc) (λ x b q k. search (rules, tests)) in
    let past = not_found (λ b. b == 10) s (sym answer ∙ c.in-None.is) in
    record { line = sym (take_all _ s past); behind = sym (drop_all _ s (omega (arith, past))) }
