use Rattle.std.proofs.Common.{◌≡◌, ℕ, ◌-◌, ◌≤◌}
use Rattle.admission.specs.Demand.{workload}
use Rattle.admission.proofs.check.Sound.idle_instant.Given as goal

abbrev pub invariant-loop-ticks : goal.invariant-loop-ticks
invariant-loop-ticks l =
    (1 ≤ l.ticks) × (l.ticks ≤ workload l.self.tasks.now l.ticks) × ((u : ℕ) → 1 ≤ u → workload l.self.tasks.now u ≡ u → l.ticks ≤ u)

abbrev pub decreases-loop-ticks : goal.decreases-loop-ticks
decreases-loop-ticks l = 1048577 - l.ticks
