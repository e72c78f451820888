use Rattle.queue.proofs.Shifting.{Shifted}
use Rattle.queue.proofs.list_queue.shift.Given as goal

abbrev pub invariant-loop-i : goal.invariant-loop-i
invariant-loop-i g l = Shifted l.entries l.initial.entries l.i
