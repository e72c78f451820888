use Rattle.std.proofs.Common.{◌≡◌, ◌≤◌, length, drop}
use Rattle.admission.specs.Sound.{tasks_sound}
use Rattle.admission.proofs.check.tasks_sound.Given as goal

abbrev pub invariant-loop-number : goal.invariant-loop-number
invariant-loop-number l = (l.next ≤ length l.sections) × (tasks_sound l.number l.next (drop l.number l.tasks) (drop l.next l.sections) ≡ tasks_sound 0 0 l.tasks l.sections)
