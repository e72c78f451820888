use Rattle.std.proofs.Common.{ap, ◌∙◌, arith}
use Rattle.queue.specs.Order.{insert_sorted}
use Rattle.queue.specs.Meaning.{rest_of}
use Rattle.queue.specs.Entries.{waiting_before}
use Rattle.machine.specs.State.{State}
use Rattle.machine.specs.Step.{lapsed}
use Rattle.scheduler.specs.View.{table_of, state_of}
use Rattle.scheduler.specs.Moves.{lapsed_by}
use Rattle.scheduler.proofs.Facts.{few_tasks}
use Rattle.scheduler.proofs.Queues.{first_is}
use Rattle.scheduler.proofs.Fits.{next_wait}
use Rattle.scheduler.proofs.Events.{lapse_step, expiries_most}
use Rattle.scheduler.proofs.Steps.{Left, job_listed, gone_by}
use Rattle.scheduler.proofs.engine.Engine.lapse_first.Given.{Over}
use Rattle.scheduler.proofs.engine.Engine.lapse_first.Goals as goal

pub lapse-requires : goal.lapse-requires
lapse-requires g c =
    let p = c.self.inside in
    let first = job_listed c.self.invariant c.in-Some.e c.in-Some.ensures in
    (omega (arith, first.released.0.0, few_tasks p.records), expiries_most c.self.invariant.steady c.self.invariant.lists)

-- what is left once the job has lapsed
after : (g : Over) (c : goal.After-lapse g)
    → let p = c.self.inside in
    let e = c.in-Some.e in
    Left g.W.Queue g.R.Queue p.records c.lapse.new.self c.insert.new.self c.take.new.self
    (state_of (lapsed_by p.inner e.task) (insert_sorted waiting_before (next_wait (table_of p.records) e.task e.deadline) (g.W.Queue.list p.waiting)) (rest_of (g.R.Queue.list p.released)))
after g c =
    let p = c.self.inside in
    gone_by c.self.invariant c.in-Some.e c.in-Some.ensures c.take.ensures c.lapse.ensures c.next_release-entry.ensures.value c.insert.ensures

pub invariant_of-self : goal.invariant_of-self
invariant_of-self g c = (after g c).fits

pub returns-clause-same : goal.returns-clause-same
returns-clause-same g c =
    let p = c.self.inside in
    let e = c.in-Some.e in
    let k = table_of p.records in
    let rs = g.R.Queue.list p.released in
    rw (← c.self.view_is)
    (ap (λ (s : State). lapsed k c.args.t s s.released) (after g c).state
    ∙ lapse_step k p.inner c.args.t _ _ e (rest_of rs) (first_is rs e c.in-Some.ensures) c.if-e-t.false)
