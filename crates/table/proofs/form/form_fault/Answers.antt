use Rattle.std.proofs.Common.{get_or, sym, ◌∙◌, arith}
use Rattle.table.proofs.Depth.{turn, kept}
use Rattle.table.proofs.form.form_fault.Goals as goal

pub loop-i-preserved : goal.loop-i-preserved
loop-i-preserved c = (
  omega (arith, kept c.loop-i.state c.in-Go.next (get_or c.args.line.now c.loop-i.i 0) c.in-Go.ensures),
  sym (turn _ _ _ _ c.loop-i-test.true c.in-Go.ensures) ∙ c.loop-i.invariant.1,
)
