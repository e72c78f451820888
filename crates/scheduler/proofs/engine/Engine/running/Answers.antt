use Rattle.std.proofs.Common.{sym, ◌∙◌}
use Rattle.scheduler.specs.View.{table_of}
use Rattle.scheduler.proofs.Ghosts.{high}
use Rattle.scheduler.proofs.Picks.{none_runs, one_runs}
use Rattle.scheduler.proofs.engine.Engine.running.Goals as goal

pub returns-in_err-job : goal.returns-in_err-job
returns-in_err-job g c =
    let p = c.self.inside in
    rw (← c.self.view_is) (c.from_residual.ensures ∙ sym (none_runs (table_of p.records) p.inner c.in_err-job.ensures))

pub returns : goal.returns
returns g c =
    let p = c.self.inside in
    let k = table_of p.records in
    rw (← c.self.view_is)
    (rw (c.inherited.ensures, c.in_ok-job.ensures.1) (sym (one_runs k p.inner c.in_ok-job.ensures.0 (high c.self.invariant.steady))))
