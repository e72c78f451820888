use Rattle.std.proofs.Common.{eqb, sym, ap, ◌∙◌, arith}
use Rattle.std.proofs.lemmas.Bool.{eq-eqb, ne_eqb, or_from}
use Rattle.std.proofs.lemmas.List.{take_all}
use Rattle.std.specs.List.{list_any}
use Rattle.std.proofs.lemmas.List.Folds.{list_any_at, list_any_more}
use Rattle.queue.proofs.Queued.{queued_is}
use Rattle.queue.proofs.scan.holds.Goals as goal

pub returns-then-task : goal.returns-then-task
returns-then-task g c =
    let task = g.E.QueueEntry.order.task_of in
    let t = c.args.task in
    let xs = c.args.used.now in
    let e = c.e-item.result in
    sym (list_any_at (λ x. eqb (task x) t) xs c.loop-e.e-index e c.loop-e-test.true
    (ap (λ x. eqb (task x) t) (sym c.e-item.is) ∙ eq-eqb _ _ (sym c.task.ensures ∙ c.if-task.true)))
    ∙ queued_is task t xs

pub loop-e-preserved : goal.loop-e-preserved
loop-e-preserved g c =
    let task = g.E.QueueEntry.order.task_of in
    let t = c.args.task in
    let xs = c.args.used.now in
    let e = c.e-item.result in
    list_any_more (λ x. eqb (task x) t) xs c.loop-e.e-index e c.loop-e-test.true
    ∙ or_from _ _ c.loop-e.invariant (ap (λ x. eqb (task x) t) (sym c.e-item.is) ∙ ne_eqb _ _ (λ h. c.if-task.false (c.task.ensures ∙ h)))

pub returns : goal.returns
returns g c =
    let task = g.E.QueueEntry.order.task_of in
    let t = c.args.task in
    let xs = c.args.used.now in
    sym c.loop-e.invariant ∙ ap (list_any (λ x. eqb (task x) t)) (take_all c.loop-e.e-index xs (omega arith)) ∙ queued_is task t xs
