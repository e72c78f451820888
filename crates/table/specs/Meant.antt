-- The records that lines stand for, by what the lines consist of. Tasks are numbered by line, sections by opening brace over all lines.
use Rattle.std.specs.Prelude.{ℕ, ◌+◌, ◌^◌, cond, List, [], ◌∷◌, ◌++◌, length, Some, None, Option, bit_or}
use Rattle.table.specs.declared.records.TaskRecord.{TaskRecord}
use Rattle.table.specs.declared.records.SectionRecord.{SectionRecord}
use Rattle.table.specs.Byte.{is_small}
use Rattle.table.specs.Grammar.{Letter, Byte, Numeral, Sections, none, section, Line, render}
use Rattle.table.specs.Breach.{value, resource, count}

-- the small letters among these, and the capitals, as sets, added to what a set has already
abbrev pub small_set : ℕ → List (Byte Letter) → ℕ
small_set set [] = set
small_set set (l ∷ ls) = small_set (cond (is_small l.byte) (bit_or set (2 ^ resource l)) set) ls

abbrev pub capital_set : ℕ → List (Byte Letter) → ℕ
capital_set set [] = set
capital_set set (l ∷ ls) = capital_set (cond (is_small l.byte) set (bit_or set (2 ^ resource l))) ls

-- a section by itself, without its level
abbrev pub section_meant : ℕ → Option ℕ → Numeral → List (Byte Letter) → SectionRecord
section_meant task around n ls = record {
  task = task;
  around = around;
  small = small_set 0 ls;
  capital = capital_set 0 ls;
  length = value n;
  level = None;
}

-- sections side by side, numbered from k on, right inside the one named
abbrev pub sections_meant : ℕ → ℕ → Option ℕ → Sections → List SectionRecord
sections_meant task k around none = []
sections_meant task k around (section n ls inner after) =
    section_meant task around n ls ∷ (sections_meant task (k + 1) (Some k) inner ++ sections_meant task (k + 1 + count inner) around after)

-- the task of a line that begins at a place of the text, with its sections numbered from k on
abbrev pub task_meant : ℕ → ℕ → Line → TaskRecord
task_meant place k l = record {
  name = record { first = place; count = length l.name };
  deadline = value l.deadline;
  period = value l.period;
  cost = value l.cost;
  sections = record { first = k; count = count l.sections };
}

-- the tasks of lines
abbrev pub tasks_meant : ℕ → ℕ → List Line → List TaskRecord
tasks_meant place k [] = []
tasks_meant place k (l ∷ ls) = task_meant place k l ∷ tasks_meant (place + length (render l)) (k + count l.sections) ls

-- their sections
abbrev pub all_sections_meant : ℕ → ℕ → List Line → List SectionRecord
all_sections_meant task k [] = []
all_sections_meant task k (l ∷ ls) = sections_meant task k None l.sections ++ all_sections_meant (task + 1) (k + count l.sections) ls
