-- Judging up to an instant: either every instant from 1 to it fits, or the least that does not is named, with all that is asked
-- for there. It speaks of every instant, though the code looks at few.
use Rattle.std.specs.Prelude.{◌≡◌, ℕ, ◌<◌, ◌≤◌, List}
use Rattle.table.specs.declared.records.TaskRecord.{TaskRecord}
use Rattle.table.specs.declared.records.SectionRecord.{SectionRecord}
use Rattle.admission.specs.declared.refusal.Refusal.{Refusal}
use Rattle.admission.specs.declared.refusal.Refusal.TheVariants.{Records, Demand, Undecided as NotDecided}
use Rattle.admission.specs.Verdict.{asked, Fits}

-- the records fit at every instant up to the last
abbrev pub FitsUntil : List TaskRecord → List SectionRecord → ℕ → Type 0
FitsUntil tasks sections last = (t : ℕ) → 1 ≤ t → t ≤ last → Fits tasks sections t

-- t is the least instant, and no later than the last, at which they do not fit
pub record FirstOver (tasks : List TaskRecord) (sections : List SectionRecord) (last t all : ℕ) : Type 0 where
  pub positive : 1 ≤ t
  pub within : t ≤ last
  pub value : all ≡ asked tasks sections t
  pub over : t < all
  pub before : (u : ℕ) → 1 ≤ u → u < t → Fits tasks sections u

-- the refusal that says so
abbrev pub RefusedBy : List TaskRecord → List SectionRecord → ℕ → Refusal → Type 0
RefusedBy tasks sections last Records = ⊥
RefusedBy tasks sections last (Demand t all) = FirstOver tasks sections last t all
RefusedBy tasks sections last NotDecided = ⊥
