use Rattle.std.proofs.Common.{◌≡◌, ◌-◌, true, length, take, drop}
use Rattle.std.specs.List.{AllByRecursion}
use Rattle.queue.proofs.Putting.{Moved}
use Rattle.queue.proofs.list_queue.put.Given as goal

abbrev pub invariant-loop-i : goal.invariant-loop-i
invariant-loop-i g l =
    let n = length l.initial.entries - 1 in
    Moved l.entries l.initial.entries n l.i × AllByRecursion (λ y. g.E.QueueEntry.order.before l.e y ≡ true) (drop l.i (take n l.initial.entries))

abbrev pub decreases-loop-i : goal.decreases-loop-i
decreases-loop-i g l = l.i
