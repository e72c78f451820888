use Rattle.std.proofs.Common.{◌≡◌, ◌+◌, ◌≤◌, true, length, drop, is_ok}
use Rattle.table.specs.Lines.{lines_of}
use Rattle.table.specs.Judged.{lines_judged, room_for}
use Rattle.table.specs.Record.{tasks_of, sections_of, text_tasks, bare_sections}
use Rattle.table.proofs.Split.{total}
use Rattle.table.proofs.Written.{Sofar}
use Rattle.table.proofs.fill.write_lines.Given as goal

abbrev pub invariant-loop-task : goal.invariant-loop-task
invariant-loop-task l =
    let rest = drop (length l.yielded) (lines_of l.text) in
    (l.place + total rest ≡ length l.text)
    × (l.first ≤ (room_for (length l.initial.tasks) (length l.initial.sections)).sections)
    × (is_ok (lines_judged (room_for (length l.initial.tasks) (length l.initial.sections)) (record { tasks = length l.yielded; sections = l.first }) rest) ≡ true)
    × Sofar l.initial.tasks 0 (text_tasks l.text) l.tasks (length l.yielded) (tasks_of l.place l.first rest)
    × Sofar l.initial.sections 0 (bare_sections l.text) l.sections l.first (sections_of (length l.yielded) l.first rest)
