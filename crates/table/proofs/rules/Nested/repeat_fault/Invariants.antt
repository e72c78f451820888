use Rattle.std.proofs.Common.{◌≡◌, true, [], length, reverse}
use Rattle.table.specs.Item.{left}
use Rattle.table.specs.Rule.{repeat_fault, shallow}
use Rattle.table.proofs.rules.Nested.repeat_fault.Given as goal

abbrev pub invariant-loop-item : goal.invariant-loop-item
invariant-loop-item l =
    (shallow (length l.seen.items) (left l.item-iterator) ≡ true)
    × (repeat_fault (reverse l.seen.items) (left l.item-iterator) ≡ repeat_fault [] (left l.self.items))
