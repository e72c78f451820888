use Rattle.std.proofs.Common.{◌≡◌, ◌≤◌, drop}
use Rattle.table.specs.Form.{depth_of, broken_at, form_fault}
use Rattle.table.proofs.form.form_fault.Given as goal

abbrev pub invariant-loop-i : goal.invariant-loop-i
invariant-loop-i l = (depth_of l.state ≤ l.i) × (broken_at l.state l.i (drop l.i l.line) ≡ form_fault l.line)
