use Rattle.std.proofs.Common.{sym, ◌∙◌, rules}
use Rattle.table.specs.Item.{left}
use Rattle.table.proofs.Rooms.{shallow_if, opens_within}
use Rattle.table.proofs.check.check_line.Goals as goal

pub of-nested-requires : goal.of-nested-requires
of-nested-requires c =
    shallow_if c.args.room.sections c.args.before.sections 0 (left c.at-items.result) (sym c.section_fault.ensures ∙ c.in_ok-keep-6.ensures)

pub overflow_add-result : goal.overflow_add-result
overflow_add-result c =
    let few = opens_within c.args.room.sections c.args.before.sections 0 (left c.at-items.result) (sym c.section_fault.ensures ∙ c.in_ok-keep-6.ensures) in
    let is = c.count_sections.ensures in
    search rules
