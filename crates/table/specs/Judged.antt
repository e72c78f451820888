-- The verdict on a text. Its length comes first. Then its lines go in order, and within a line the rule with the lowest number wins, at
-- its earliest place. A text that breaks no rule has as many tasks as lines, and as many sections as opening braces.
use Rattle.std.specs.Prelude.{ℕ, ◌+◌, min, cond, List, [], ◌∷◌, length, Some, None, Ok, Err, Option, Result, ◌==◌, nat_lt}
use Rattle.table.specs.declared.refusal.Rule.{Rule}
use Rattle.table.specs.declared.refusal.Rule.TheVariants.{Form, Number, Times, Tasks, Sections, Repeated, Length}
use Rattle.table.specs.declared.refusal.Refusal.{Refusal}
use Rattle.table.specs.declared.refusal.Refusal.TheVariants.{TooLong, Empty, Broken}
use Rattle.table.specs.declared.check.Fault.{Fault}
use Rattle.table.specs.declared.records.Counts.{Counts}
use Rattle.table.specs.Number.{ticks_of}
use Rattle.table.specs.Limits.{longest_text, most_tasks, most_sections}
use Rattle.table.specs.Lines.{lines_of}
use Rattle.table.specs.Form.{form_fault}
use Rattle.table.specs.Head.{head_of, line_items}
use Rattle.table.specs.Rule.{head_fault, number_fault, times_fault, tasks_fault, section_fault, repeat_fault, length_fault, opens}

-- a rule's breach refuses the line; else the judgement goes on
abbrev pub unless : Rule → Option ℕ → Result ℕ Fault → Result ℕ Fault
unless rule None later = later
unless rule (Some p) later = Err (record { rule = rule; place = p })

-- one line, with room for so many tasks and sections in all, and so many of each before it: the count of sections after it, or its fault
abbrev pub line_judged : Counts → Counts → List ℕ → Result ℕ Fault
line_judged room before line =
    unless Form (form_fault line)
    (unless Number (head_fault (head_of line))
    (unless Number (number_fault (line_items line))
    (unless Times (times_fault (head_of line))
    (unless Tasks (tasks_fault room.tasks before.tasks)
    (unless Sections (section_fault room.sections before.sections 0 (line_items line))
    (unless Repeated (repeat_fault [] (line_items line))
    (unless Length (length_fault (ticks_of (head_of line).cost) [] (line_items line))
    (Ok (before.sections + opens (line_items line))))))))))

-- lines in order; the line after so many tasks is the next in number, and lines and bytes count from 1
abbrev pub lines_judged : Counts → Counts → List (List ℕ) → Result Counts Refusal
lines_judged room before [] = Ok before
lines_judged room before (line ∷ lines) =
    elim (line_judged room before line) [
      | Err f ↦ Err (Broken f.rule (record { line = before.tasks + 1; byte = f.place + 1 }))
      | Ok sections ↦ lines_judged room (record { tasks = before.tasks + 1; sections = sections }) lines
    ]

-- the room that two slices of records give
abbrev pub room_for : ℕ → ℕ → Counts
room_for tasks sections = record { tasks = min tasks most_tasks; sections = min sections most_sections }

abbrev pub nothing_read : Counts
nothing_read = record { tasks = 0; sections = 0 }

-- a text, for slices with so many task records and section records
unfoldable pub judged : List ℕ → ℕ → ℕ → Result Counts Refusal
judged text tasks sections =
    cond (nat_lt longest_text (length text)) (Err TooLong)
    (cond (length text == 0) (Err Empty) (lines_judged (room_for tasks sections) nothing_read (lines_of text)))
