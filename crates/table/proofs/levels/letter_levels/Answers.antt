use Rattle.std.proofs.Common.{rules, tests}
use Rattle.table.specs.Level.{letter_level, letter_levels}
use Rattle.table.proofs.Filled.{made_is}
use Rattle.table.proofs.levels.letter_levels.Goals as goal

pub returns : goal.returns
unfolding letter_levels
returns c = made_is _ _ (letter_level c.args.tasks.now c.args.sections.now) (λ k y q called. search (rules, tests)) c.from_fn.result 26 c.from_fn.ensures.items
