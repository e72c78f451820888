use Rattle.std.proofs.Common.{◌≡◌, ◌+◌, ◌-◌, ◌≤◌, min, length, drop}
use Rattle.table.specs.Number.{digit_run, decimal_from}
use Rattle.table.proofs.line.Cursor.digits.Given as goal

abbrev pub invariant-loop-d : goal.invariant-loop-d
invariant-loop-d l =
    (l.self.line.now ≡ l.initial.self.line.now)
    × (l.value ≤ 1048577)
    × (l.self.place + length (digit_run (drop l.self.place l.self.line.now)) ≡ l.initial.self.place + length (digit_run (drop l.initial.self.place l.initial.self.line.now)))
    × (min 1048577 (decimal_from l.value (digit_run (drop l.self.place l.self.line.now))) ≡ min 1048577 (decimal_from 0 (digit_run (drop l.initial.self.place l.initial.self.line.now))))

abbrev pub decreases-loop-d : goal.decreases-loop-d
decreases-loop-d l = length l.self.line.now - l.self.place
