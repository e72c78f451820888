-- A law of admission. Only deadlines have to be judged: where the least instant at which the records do not fit lies, some task is due.
use Rattle.std.specs.Prelude.{◌≡◌, ℕ, ◌<◌, ◌≤◌, true, List}
use Rattle.table.specs.declared.records.TaskRecord.{TaskRecord}
use Rattle.table.specs.declared.records.SectionRecord.{SectionRecord}
use Rattle.admission.specs.Due.{Due}
use Rattle.admission.specs.Sound.{sound}
use Rattle.admission.specs.Verdict.{asked, Fits}

-- more is asked for than fits, for the first time, only at a deadline
abbrev pub OnlyAtDeadlines : Type 0
OnlyAtDeadlines =
    (tasks : List TaskRecord) (sections : List SectionRecord) → sound tasks sections ≡ true
    → (t : ℕ) → 1 ≤ t → t < asked tasks sections t → ((u : ℕ) → 1 ≤ u → u < t → Fits tasks sections u) → Due tasks t
