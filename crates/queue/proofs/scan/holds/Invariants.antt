use Rattle.std.proofs.Common.{◌≡◌, false, eqb, take}
use Rattle.std.specs.List.{list_any}
use Rattle.queue.proofs.scan.holds.Given as goal

abbrev pub invariant-loop-e : goal.invariant-loop-e
invariant-loop-e g l = list_any (λ x. eqb (g.E.QueueEntry.order.task_of x) l.task) (take l.e-index l.used) ≡ false
