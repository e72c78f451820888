use Rattle.std.proofs.Common.{◌≡◌, ◌+◌, ◌^◌, ◌<◌, ◌∷◌, [], ◌++◌, length, drop, Ok, sym, ap, ◌∙◌, subst, arith, rules, tests}
use Rattle.std.proofs.lemmas.List.{length-append}
use Rattle.std.proofs.iter.Serving.{serving}
use Rattle.table.specs.Lines.{lines_of}
use Rattle.table.specs.Judged.{lines_judged}
use Rattle.table.proofs.Bounds.{FaultBelow, line_below}
use Rattle.table.proofs.Split.{line_turn, line_end}
use Rattle.table.proofs.Turns.{go_on, in_text}
use Rattle.table.proofs.check.check_lines.Goals as goal

pub overflow_add-tasks : goal.overflow_add-tasks
overflow_add-tasks c =
    let turn =
    line_turn _ _ _ _ c.loop-line.yielded_by c.into_iter-line-iterator.ensures.into_iter_gives c.split_inclusive-line-items.ensures.rest
    c.split_inclusive-line-items.ensures.closure (λ x b q k. search (rules, tests)) _ _ c.in-Some.line c.in-Some.is c.next.ensures.steps in
    omega arith

pub loop-line-preserved : goal.loop-line-preserved
loop-line-preserved c =
    let turn =
    line_turn _ _ _ _ c.loop-line.yielded_by c.into_iter-line-iterator.ensures.into_iter_gives c.split_inclusive-line-items.ensures.rest
    c.split_inclusive-line-items.ensures.closure (λ x b q k. search (rules, tests)) _ _ c.in-Some.line c.in-Some.is c.next.ensures.steps in
    let n : length (c.loop-line.yielded ++ c.in-Some.line ∷ []) ≡ length c.loop-line.yielded + 1 = length-append c.loop-line.yielded (c.in-Some.line ∷ []) in
    let same : c.check_line.result ≡ Ok c.in_ok-sections.sections = search rules in (
      omega arith,
      ap (λ k. lines_judged c.args.room (record { tasks = c.loop-line.read.tasks + 1; sections = c.in_ok-sections.sections }) (drop k (lines_of c.args.text.now))) n
          ∙ ap (λ r. go_on c.args.room c.loop-line.read r (drop (length c.loop-line.yielded + 1) (lines_of c.args.text.now))) (sym same ∙ c.check_line.ensures)
          ∙ ap (lines_judged c.args.room c.loop-line.read) (sym turn.more) ∙ c.loop-line.invariant.1,
    )

pub map_err-requires : goal.map_err-requires
map_err-requires c =
    let turn =
    line_turn _ _ _ _ c.loop-line.yielded_by c.into_iter-line-iterator.ensures.into_iter_gives c.split_inclusive-line-items.ensures.rest
    c.split_inclusive-line-items.ensures.closure (λ x b q k. search (rules, tests)) _ _ c.in-Some.line c.in-Some.is c.next.ensures.steps in
    λ e is.
    let below = subst (FaultBelow _) (sym c.check_line.ensures ∙ is) (line_below c.args.room c.loop-line.read c.in-Some.line.now) in
    let fits : e.place + 1 < 2 ^ 64 = omega arith in
    grind serving

pub returns-in_err-sections : goal.returns-in_err-sections
returns-in_err-sections c =
    let turn =
    line_turn _ _ _ _ c.loop-line.yielded_by c.into_iter-line-iterator.ensures.into_iter_gives c.split_inclusive-line-items.ensures.rest
    c.split_inclusive-line-items.ensures.closure (λ x b q k. search (rules, tests)) _ _ c.in-Some.line c.in-Some.is c.next.ensures.steps in
    let same : c.map_err.result ≡ in_text (c.loop-line.read.tasks + 1) c.check_line.result = search rules in
    let gone : c.from_residual.result ≡ go_on c.args.room c.loop-line.read c.check_line.result (drop (length c.loop-line.yielded + 1) (lines_of c.args.text.now)) = search rules in
    gone ∙ ap (λ r. go_on c.args.room c.loop-line.read r (drop (length c.loop-line.yielded + 1) (lines_of c.args.text.now))) c.check_line.ensures
    ∙ ap (lines_judged c.args.room c.loop-line.read) (sym turn.more) ∙ c.loop-line.invariant.1

pub returns : goal.returns
returns c =
    ap (lines_judged c.args.room c.loop-line.read)
    (sym (line_end _ _ _ _ c.loop-line.yielded_by c.into_iter-line-iterator.ensures.into_iter_gives c.split_inclusive-line-items.ensures.rest
    c.split_inclusive-line-items.ensures.closure (λ x b q k. search (rules, tests)) _ _ c.in-None.is c.next.ensures.steps))
    ∙ c.loop-line.invariant.1
