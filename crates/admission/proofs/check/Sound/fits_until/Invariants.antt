use Rattle.std.proofs.Common.{ℕ, ◌+◌, ◌-◌, ◌<◌, ◌≤◌}
use Rattle.admission.specs.Verdict.{Fits}
use Rattle.admission.proofs.check.Sound.fits_until.Given as goal

abbrev pub invariant-loop-ticks : goal.invariant-loop-ticks
invariant-loop-ticks l = (1 ≤ l.ticks) × ((u : ℕ) → u < l.ticks → Fits l.self.tasks.now l.self.sections.now u)

abbrev pub decreases-loop-ticks : goal.decreases-loop-ticks
decreases-loop-ticks l = l.last.ticks + 1 - l.ticks
