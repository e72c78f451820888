-- The judgement of a text's lines, one by one.
use Rattle.std.proofs.Common.{ℕ, ◌+◌, List, Ok, Err, Result}
use Rattle.table.specs.declared.refusal.Refusal.{Refusal}
use Rattle.table.specs.declared.refusal.Refusal.TheVariants.{Broken}
use Rattle.table.specs.declared.check.Fault.{Fault}
use Rattle.table.specs.declared.records.Counts.{Counts}
use Rattle.table.specs.Judged.{lines_judged}

-- how the judgement goes on after a line's
abbrev pub go_on : Counts → Counts → Result ℕ Fault → List (List ℕ) → Result Counts Refusal
go_on room before r lines =
    elim r [
      | Err f ↦ Err (Broken f.rule (record { line = before.tasks + 1; byte = f.place + 1 }))
      | Ok sections ↦ lines_judged room (record { tasks = before.tasks + 1; sections = sections }) lines
    ]

-- a line's judgement as one of its text, where the line has this number
abbrev pub in_text : ℕ → Result ℕ Fault → Result ℕ Refusal
in_text line (Ok sections) = Ok sections
in_text line (Err f) = Err (Broken f.rule (record { line = line; byte = f.place + 1 }))
