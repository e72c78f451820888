use Rattle.std.proofs.Common.{◌≡◌, ◌≤◌}
use Rattle.table.specs.Item.{left}
use Rattle.table.specs.Rule.{section_fault}
use Rattle.table.proofs.rules.section_fault.Given as goal

abbrev pub invariant-loop-item : goal.invariant-loop-item
invariant-loop-item l =
    (l.depth ≤ 8)
    × (section_fault l.room l.count l.depth (left l.item-iterator) ≡ section_fault l.room l.before 0 (left l.fn.items))
