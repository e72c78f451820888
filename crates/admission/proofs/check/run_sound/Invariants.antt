use Rattle.std.proofs.Common.{◌≡◌, ◌+◌, [], drop}
use Rattle.admission.specs.Sound.{sections_sound}
use Rattle.admission.specs.Stack.{open_of}
use Rattle.admission.proofs.check.run_sound.Given as goal

abbrev pub invariant-loop-i : goal.invariant-loop-i
invariant-loop-i l = sections_sound l.owner l.cost (l.first + l.i) (open_of l.path) (drop l.i l.sections) ≡ sections_sound l.owner l.cost l.first [] l.sections
