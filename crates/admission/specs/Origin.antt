-- Where records that break no rule come from: they are, but for the names of tasks, exactly the records that some text reads to.
use Rattle.std.specs.Prelude.{◌≡◌, ℕ, true, List, map, length, Ok}
use Rattle.table.specs.declared.records.Counts.{Counts}
use Rattle.table.specs.declared.records.TaskRecord.{TaskRecord}
use Rattle.table.specs.declared.records.SectionRecord.{SectionRecord}
use Rattle.table.specs.Judged.{judged}
use Rattle.table.specs.Record.{text_tasks, text_sections}
use Rattle.admission.specs.Sound.{sound}

-- a task without its name
abbrev pub nameless : TaskRecord → TaskRecord
nameless t = record {
  name = record { first = 0; count = 0 };
  deadline = t.deadline;
  period = t.period;
  cost = t.cost;
  sections = t.sections;
}

-- the same tasks but for their names
abbrev pub Alike : List TaskRecord → List TaskRecord → Type 0
Alike tasks others = map nameless tasks ≡ map nameless others

-- how many records there are
abbrev pub counted : List TaskRecord → List SectionRecord → Counts
counted tasks sections = record { tasks = length tasks; sections = length sections }

-- the records of a text that is read break no rule
abbrev pub ReadIsSound : Type 0
ReadIsSound =
    (text : List ℕ) (tasks sections : ℕ) (counts : Counts) → judged text tasks sections ≡ Ok counts
    → sound (text_tasks text) (text_sections text) ≡ true

-- records that break no rule are read from some text, all of them and no others
abbrev pub SoundIsRead : Type 0
SoundIsRead =
    (tasks : List TaskRecord) (sections : List SectionRecord) → sound tasks sections ≡ true
    → (text : List ℕ) × (judged text (length tasks) (length sections) ≡ Ok (counted tasks sections))
    × Alike tasks (text_tasks text) × (text_sections text ≡ sections)
