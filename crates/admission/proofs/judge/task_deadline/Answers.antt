use Rattle.std.proofs.Common.{sym, ap, subst, ◌+◌, ◌*◌}
use Rattle.admission.specs.Due.{NextOf}
use Rattle.admission.proofs.Single.{due_after_next}
use Rattle.admission.proofs.judge.task_deadline.Goals as goal

pub returns : goal.returns
returns c =
    let k = c.args.task.now in
    let is = ap (λ n. k.deadline + n * k.period) c.jobs.ensures in
    record { value = is; next = subst (NextOf k c.args.t.ticks) (sym is) (due_after_next k c.requires c.args.t.ticks) }
