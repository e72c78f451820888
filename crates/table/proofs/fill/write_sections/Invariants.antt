use Rattle.std.proofs.Common.{◌≡◌, ◌+◌, true, [], length, reverse}
use Rattle.table.specs.Item.{left}
use Rattle.table.specs.Rule.{opens, shallow}
use Rattle.table.specs.Record.{sections_in}
use Rattle.table.proofs.Written.{Sofar}
use Rattle.table.proofs.fill.write_sections.Given as goal

abbrev pub invariant-loop-item : goal.invariant-loop-item
invariant-loop-item l =
    (shallow (length l.around.items) (left l.items) ≡ true)
    × (l.number + opens (left l.items) ≡ l.first + opens (left l.fn.nested.items))
    × Sofar l.initial.sections l.first (sections_in l.task l.first [] (left l.fn.nested.items))
    l.sections l.number (sections_in l.task l.number (reverse l.around.items) (left l.items))

abbrev pub decreases-loop-item : goal.decreases-loop-item
decreases-loop-item l = length (left l.items)
