use Rattle.std.proofs.Common.{ap, ◌∙◌, arith}
use Rattle.queue.specs.Order.{insert_sorted}
use Rattle.queue.specs.Meaning.{rest_of}
use Rattle.queue.specs.Entries.{released_before}
use Rattle.machine.specs.State.{State}
use Rattle.machine.specs.Step.{release_of, released_at}
use Rattle.scheduler.specs.View.{table_of, state_of}
use Rattle.scheduler.specs.Moves.{released_by}
use Rattle.scheduler.proofs.Facts.{few_tasks}
use Rattle.scheduler.proofs.Queues.{first_is}
use Rattle.scheduler.proofs.Events.{release_step, releases_most}
use Rattle.scheduler.proofs.Steps.{Left, task_listed, let_out}
use Rattle.scheduler.proofs.engine.Engine.release_first.Given.{Over}
use Rattle.scheduler.proofs.engine.Engine.release_first.Goals as goal

pub release-requires : goal.release-requires
release-requires g c =
    let p = c.self.inside in
    let first = task_listed c.self.invariant c.in-Some.w c.in-Some.ensures in
    (omega (arith, first.waiting.0.0, few_tasks p.records), releases_most c.self.invariant.steady c.self.invariant.lists)

-- what is left once the task is released
after : (g : Over) (c : goal.After-release g)
    → let p = c.self.inside in
    let w = c.in-Some.w in
    Left g.W.Queue g.R.Queue p.records c.release.new.self c.take.new.self c.insert.new.self
    (state_of (released_by p.inner w.task) (rest_of (g.W.Queue.list p.waiting)) (insert_sorted released_before (release_of (table_of p.records) w) (g.R.Queue.list p.released)))
after g c =
    let p = c.self.inside in
    let_out c.self.invariant c.in-Some.w c.in-Some.ensures (omega (arith, c.if-w-t.false, c.requires))
    c.release.ensures c.take.ensures c.released-entry.ensures.value c.insert.ensures

pub invariant_of-self : goal.invariant_of-self
invariant_of-self g c = (after g c).fits

pub returns-clause-same : goal.returns-clause-same
returns-clause-same g c =
    let p = c.self.inside in
    let w = c.in-Some.w in
    let k = table_of p.records in
    let ws = g.W.Queue.list p.waiting in
    rw (← c.self.view_is)
    (ap (λ (s : State). released_at k c.args.t s s.waiting) (after g c).state
    ∙ release_step k p.inner c.args.t _ _ w (rest_of ws) (first_is ws w c.in-Some.ensures) c.if-w-t.false)
