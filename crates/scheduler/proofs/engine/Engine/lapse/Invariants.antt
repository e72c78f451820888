use Rattle.std.proofs.Common.{◌≡◌, ◌+◌, ◌<◌, ◌≤◌, length}
use Rattle.table.specs.Limits.{most_tasks}
use Rattle.machine.specs.Step.{lapsed}
use Rattle.scheduler.specs.View.{table_of}
use Rattle.scheduler.specs.Parts.{state_in}
use Rattle.scheduler.proofs.engine.Engine.lapse.Given as goal

abbrev pub invariant-loop-ended : goal.invariant-loop-ended
invariant-loop-ended g l =
    let w = g.W.Queue in
    let r = g.R.Queue in
    let k = table_of l.initial.self.records in
    (l.self.records ≡ l.initial.self.records)
    × (l.self.inner.counts.expiries ≡ l.initial.self.inner.counts.expiries + l.ended)
    × (l.self.inner.counts.releases ≡ l.initial.self.inner.counts.releases)
    × (l.ended + length (r.list l.self.released) ≡ length (r.list l.initial.self.released))
    × (0 < l.ended → length (r.list l.initial.self.released) ≤ most_tasks)
    × (lapsed k l.t (state_in w r l.self) (r.list l.self.released) ≡ lapsed k l.t (state_in w r l.initial.self) (r.list l.initial.self.released))

abbrev pub decreases-loop-ended : goal.decreases-loop-ended
decreases-loop-ended g l = length (g.R.Queue.list l.self.released)
