use Rattle.std.proofs.Common.{◌≡◌, true, [], length, reverse}
use Rattle.table.specs.Item.{left}
use Rattle.table.specs.Rule.{length_fault, shallow}
use Rattle.table.proofs.rules.Nested.length_fault.Given as goal

abbrev pub invariant-loop-item : goal.invariant-loop-item
invariant-loop-item l =
    (shallow (length l.lengths.items) (left l.item-iterator) ≡ true)
    × (length_fault l.cost (reverse l.lengths.items) (left l.item-iterator) ≡ length_fault l.cost [] (left l.self.items))
