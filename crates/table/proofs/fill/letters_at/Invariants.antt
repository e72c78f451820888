use Rattle.std.proofs.Common.{◌≡◌}
use Rattle.table.specs.Item.{left}
use Rattle.table.specs.Record.{letters_from}
use Rattle.table.proofs.fill.letters_at.Given as goal

abbrev pub invariant-loop-item : goal.invariant-loop-item
invariant-loop-item l = letters_from l.letters.small l.letters.capital (left l.item-iterator) ≡ letters_from 0 0 (left l.fn.items)
