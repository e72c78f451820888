use Rattle.std.proofs.Common.{◌≡◌}
use Rattle.queue.specs.Entries.{waiting_order}
use Rattle.machine.specs.State.{first_releases}
use Rattle.scheduler.proofs.run_core.make.fill.Given as goal

abbrev pub invariant-loop-task : goal.invariant-loop-task
invariant-loop-task g l =
    let w = g.W.Queue in
    w.ordered waiting_order l.waiting × (w.capacity l.waiting ≡ w.capacity l.initial.waiting) × (w.list l.waiting ≡ first_releases 0 l.task)
