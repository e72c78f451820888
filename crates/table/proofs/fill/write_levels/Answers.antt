use Rattle.std.proofs.Common.{ap, ◌∙◌, get_or}
use Rattle.table.specs.Record.{leveled}
use Rattle.table.proofs.Mapped.{mapped_here, mapped_more}
use Rattle.table.proofs.fill.write_levels.Goals as goal

pub loop-section-preserved : goal.loop-section-preserved
loop-section-preserved c =
    let f = leveled c.args.levels.now in
    let xs = c.args.sections.now in
    let i = c.loop-section.section-index in
    mapped_more f xs c.loop-section.sections i _ c.loop-section-test.true c.loop-section.invariant _
    (ap (λ l. record (get_or c.loop-section.sections i _) { level = l }) c.section_level-section.ensures
    ∙ ap f (mapped_here f xs c.loop-section.sections i _ c.loop-section-test.true c.loop-section.invariant))
