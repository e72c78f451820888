use Rattle.std.proofs.Common.{◌≡◌, ◌≤◌, length, drop}
use Rattle.table.specs.Lines.{lines_of}
use Rattle.table.specs.Judged.{lines_judged, nothing_read}
use Rattle.table.proofs.check.check_lines.Given as goal

abbrev pub invariant-loop-line : goal.invariant-loop-line
invariant-loop-line l =
    (l.read.tasks ≤ length l.yielded)
    × (lines_judged l.room l.read (drop (length l.yielded) (lines_of l.text)) ≡ lines_judged l.room nothing_read (lines_of l.text))
