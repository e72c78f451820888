use Rattle.std.proofs.Common.{◌≡◌, ◌-◌, ◌≤◌, length}
use Rattle.queue.specs.Order.{sorted}
use Rattle.queue.specs.Heaps.{Above, Across}
use Rattle.queue.proofs.heap_queue.sift_up.Given as goal

abbrev pub invariant-loop-i : goal.invariant-loop-i
invariant-loop-i g l =
    let b = g.E.QueueEntry.order.before in
    let n = length l.initial.entries in
    (l.i ≤ n - 1) × Above b l.entries n l.i × Across b l.entries n l.i × (sorted b l.entries ≡ sorted b l.initial.entries)

abbrev pub decreases-loop-i : goal.decreases-loop-i
decreases-loop-i g l = l.i
