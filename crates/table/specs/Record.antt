-- The records of a text: a task record for each line, a section record for each opening brace, in order. A section's own letters
-- come right behind its brace. Levels depend on the whole table, so they are filled in last.
use Rattle.std.specs.Prelude.{ℕ, ◌+◌, cond, List, [], ◌∷◌, ◌++◌, map, length, take, drop, None, Ok, Err, Option, Result, bit_or}
use Rattle.table.specs.declared.line.Item.{Item}
use Rattle.table.specs.declared.line.Item.TheVariants.{Open, Named, Close}
use Rattle.table.specs.declared.fill.Letters.{Letters}
use Rattle.table.specs.declared.records.Counts.{Counts}
use Rattle.table.specs.declared.refusal.Refusal.{Refusal}
use Rattle.table.specs.declared.records.TaskRecord.{TaskRecord}
use Rattle.table.specs.declared.records.SectionRecord.{SectionRecord}
use Rattle.table.specs.Number.{ticks_of}
use Rattle.table.specs.Nest.{top, outer}
use Rattle.table.specs.Head.{name_length, head_of, line_items}
use Rattle.table.specs.Rule.{opens}
use Rattle.table.specs.Level.{letter_levels, least_level}
use Rattle.table.specs.Lines.{lines_of}

-- the sets of letters that items begin with, after what has been read of them
abbrev pub letters_from : ℕ → ℕ → List Item → Letters
letters_from small capital [] = record { small = small; capital = capital }
letters_from small capital (Open n ∷ is) = record { small = small; capital = capital }
letters_from small capital (Named l ∷ is) = letters_from (cond l.capital small (bit_or small l.bit)) (cond l.capital (bit_or capital l.bit) capital) is
letters_from small capital (Close ∷ is) = record { small = small; capital = capital }

-- a section without its level
abbrev pub section_of : ℕ → Option ℕ → Letters → ℕ → SectionRecord
section_of task around letters ticks = record {
  task = task;
  around = around;
  small = letters.small;
  capital = letters.capital;
  length = ticks;
  level = None;
}

-- the sections of a task, numbered from n on, inside these that are open
abbrev pub sections_in : ℕ → ℕ → List ℕ → List Item → List SectionRecord
sections_in task n around [] = []
sections_in task n around (Open m ∷ is) = section_of task (top around) (letters_from 0 0 is) (ticks_of m) ∷ sections_in task (n + 1) (n ∷ around) is
sections_in task n around (Named l ∷ is) = sections_in task n around is
sections_in task n around (Close ∷ is) = sections_in task n (outer around) is

-- the task of a line that begins at a place of the text, with its sections numbered from n on
abbrev pub task_of : ℕ → ℕ → List ℕ → TaskRecord
task_of place n line = record {
  name = record { first = place; count = name_length line };
  deadline = ticks_of (head_of line).deadline;
  period = ticks_of (head_of line).period;
  cost = ticks_of (head_of line).cost;
  sections = record { first = n; count = opens (line_items line) };
}

abbrev pub tasks_of : ℕ → ℕ → List (List ℕ) → List TaskRecord
tasks_of place n [] = []
tasks_of place n (line ∷ lines) = task_of place n line ∷ tasks_of (place + length line) (n + opens (line_items line)) lines

abbrev pub sections_of : ℕ → ℕ → List (List ℕ) → List SectionRecord
sections_of task n [] = []
sections_of task n (line ∷ lines) = sections_in task n [] (line_items line) ++ sections_of (task + 1) (n + opens (line_items line)) lines

-- a section with its level
abbrev pub leveled : List (Option ℕ) → SectionRecord → SectionRecord
leveled levels s = record s { level = least_level levels 0 s }

-- the records of a text
abbrev pub text_tasks : List ℕ → List TaskRecord
text_tasks text = tasks_of 0 0 (lines_of text)

abbrev pub bare_sections : List ℕ → List SectionRecord
bare_sections text = sections_of 0 0 (lines_of text)

abbrev pub text_sections : List ℕ → List SectionRecord
text_sections text = map (leveled (letter_levels (text_tasks text) (bare_sections text))) (bare_sections text)

-- a list with records written into it from place n on
abbrev pub written : {X : Type 0} → ℕ → List X → List X → List X
written n new old = take n old ++ (new ++ drop (n + length new) old)

-- what a slice holds after reading: the records, and behind them what it held; on a refusal all that it held
abbrev pub filled : {X : Type 0} → Result Counts Refusal → List X → List X → List X
filled (Ok counts) new old = new ++ drop (length new) old
filled (Err refusal) new old = old
