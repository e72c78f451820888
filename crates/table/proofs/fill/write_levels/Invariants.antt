use Rattle.std.proofs.Common.{◌≡◌, ◌++◌, map, take, drop}
use Rattle.table.specs.Record.{leveled}
use Rattle.table.proofs.fill.write_levels.Given as goal

abbrev pub invariant-loop-section : goal.invariant-loop-section
invariant-loop-section l = l.sections ≡ map (leveled l.levels) (take l.section-index l.initial.sections) ++ drop l.section-index l.initial.sections
