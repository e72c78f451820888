use Rattle.std.proofs.Common.{◌≡◌, ◌+◌, take, drop, ap, sym, ◌∙◌, rules, tests, arith}
use Rattle.std.proofs.lemmas.List.{take_all, drop_all}
use Rattle.std.proofs.lemmas.Iterator.Search.{position_from_yields_List}
use Rattle.std.specs.List.{position_or_len}
use Rattle.trace.proofs.Cuts.{pairs, windows_are_pairs, two_ends, cut_behind, not_opened, found, not_found, length-pairs, whole_rest}
use Rattle.trace.proofs.script.at_empty_line.Goals as goal

pub returns-in-Some-position : goal.returns-in-Some-position
returns-in-Some-position c =
    let s = c.args.input.now in
    let i = c.in-Some-position.i in
    let answer = position_from_yields_List two_ends _ _ c.position.result c.position.ensures.ran (windows_are_pairs s c.windows.ensures.rest c.windows.ensures.size) (λ x b q k. search (rules, tests)) in
    let here : position_or_len two_ends (pairs s) ≡ i = found two_ends (pairs s) i (sym answer ∙ c.in-Some-position.is) in
    let front = not_opened s c.in_default.ensures.cases in
    record {
      table = sym (front.0 ∙ (cut_behind s).0 ∙ ap (λ k. take (k + 1) s) here);
      behind = whole_rest s (i + 2) ∙ sym (front.1 ∙ (cut_behind s).1 ∙ ap (λ k. drop (k + 2) s) here);
    }

pub returns-in-None : goal.returns-in-None
returns-in-None c =
    let s = c.args.input.now in
    let answer = position_from_yields_List two_ends _ _ c.position.result c.position.ensures.ran (windows_are_pairs s c.windows.ensures.rest c.windows.ensures.size) (λ x b q k. search (rules, tests)) in
    let past = not_found two_ends (pairs s) (sym answer ∙ c.in-None.is) in
    let front = not_opened s c.in_default.ensures.cases in
    record {
      table = sym (front.0 ∙ (cut_behind s).0 ∙ take_all _ s (omega (arith, past, length-pairs s)));
      behind = sym (front.1 ∙ (cut_behind s).1 ∙ drop_all _ s (omega (arith, past, length-pairs s)));
    }
