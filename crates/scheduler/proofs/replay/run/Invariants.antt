use Rattle.std.proofs.Common.{◌≡◌, false, ◌++◌, take, drop}
use Rattle.scheduler.specs.View.{table_of}
use Rattle.scheduler.specs.Parts.{view}
use Rattle.scheduler.specs.Replayed.{answers_from, state_from}
use Rattle.scheduler.proofs.replay.run.Given as goal

abbrev pub invariant-loop-i : goal.invariant-loop-i
invariant-loop-i g l =
    let see = view g.W.Queue g.R.Queue in
    let live = l.initial.core.live in
    let k = table_of l.initial.core.records in
    (l.core.live ≡ live)
    × (l.core.records ≡ l.initial.core.records)
    × (see l.core ≡ state_from live k (take l.i l.calls) (see l.initial.core))
    × (l.answers ≡ answers_from live k (take l.i l.calls) (see l.initial.core) ++ drop l.i l.initial.answers)
    × (live ≡ false → l.core ≡ l.initial.core)
