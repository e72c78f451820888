use Rattle.std.proofs.Common.{◌≡◌, ◌+◌, ◌<◌, ◌≤◌, length}
use Rattle.table.specs.Limits.{most_tasks}
use Rattle.machine.specs.Step.{released_at}
use Rattle.scheduler.specs.View.{table_of}
use Rattle.scheduler.specs.Parts.{state_in}
use Rattle.scheduler.proofs.engine.Engine.release.Given as goal

abbrev pub invariant-loop-out : goal.invariant-loop-out
invariant-loop-out g l =
    let w = g.W.Queue in
    let r = g.R.Queue in
    let k = table_of l.initial.self.records in
    (l.self.records ≡ l.initial.self.records)
    × (l.self.inner.counts.releases ≡ l.initial.self.inner.counts.releases + l.out)
    × (l.self.inner.counts.expiries ≡ l.initial.self.inner.counts.expiries)
    × (l.out + length (w.list l.self.waiting) ≡ length (w.list l.initial.self.waiting))
    × (0 < l.out → length (w.list l.initial.self.waiting) ≤ most_tasks)
    × (released_at k l.t (state_in w r l.self) (w.list l.self.waiting) ≡ released_at k l.t (state_in w r l.initial.self) (w.list l.initial.self.waiting))

abbrev pub decreases-loop-out : goal.decreases-loop-out
decreases-loop-out g l = length (g.W.Queue.list l.self.waiting)
