use Rattle.std.proofs.Common.{sym, refl, ◌∙◌}
use Rattle.std.proofs.lemmas.List.{take_rest}
use Rattle.admission.proofs.Runs.{tasks_step, tasks_within, tasks_end}
use Rattle.admission.proofs.check.tasks_sound.Goals as goal

pub loop-number-preserved : goal.loop-number-preserved
loop-number-preserved c = (
  tasks_within c.loop-number.number c.loop-number.next c.args.tasks.now c.args.sections.now _ c.loop-number.number _
      c.loop-number-test.true _ (take_rest c.args.sections.now c.loop-number.next) c.if-not-task_sound.ensures c.loop-number.invariant.0 refl,
  sym (tasks_step c.loop-number.number c.loop-number.next c.args.tasks.now c.args.sections.now _ c.loop-number.number _
      c.loop-number-test.true _ (take_rest c.args.sections.now c.loop-number.next) c.if-not-task_sound.ensures)
      ∙ c.loop-number.invariant.1,
)

pub returns : goal.returns
returns c =
    tasks_end c.loop-number.number c.loop-number.next c.args.tasks.now c.args.sections.now c.loop-number.number
    c.loop-number-test.false c.loop-number.invariant.0
    ∙ c.loop-number.invariant.1
