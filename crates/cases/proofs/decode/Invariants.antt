use Rattle.std.proofs.Common.{length}
use Rattle.std.specs.Bool.{⊤}
use Rattle.std.specs.Str.Iter.{bytes_rest}
use Rattle.cases.proofs.decode.Given as goal

abbrev pub invariant-loop-b : goal.invariant-loop-b
invariant-loop-b l = ⊤

-- each byte takes one or more off what is left
abbrev pub decreases-loop-b : goal.decreases-loop-b
decreases-loop-b l = length (bytes_rest l.escaped)
