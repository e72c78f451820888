use Rattle.std.proofs.Common.{sym, ◌∙◌, arith}
use Rattle.queue.specs.Meaning.{rest_of}
use Rattle.scheduler.specs.View.{table_of, state_of}
use Rattle.scheduler.specs.Moves.{pushed}
use Rattle.scheduler.proofs.Queues.{first_is, none_first}
use Rattle.scheduler.proofs.Picks.{goes_over_lem, pick_yes, pick_no, pick_none}
use Rattle.scheduler.proofs.Ghosts.{high}
use Rattle.scheduler.proofs.Steps.{Left, job_room, picked_up}
use Rattle.scheduler.proofs.engine.Engine.select.Given.{Over}
use Rattle.scheduler.proofs.engine.Engine.select.Goals as goal

-- what is left once the job is pushed
after : (g : Over) (c : goal.After-push g)
    → let p = c.self.inside in
    let e = c.in-Some.e in
    Left g.W.Queue g.R.Queue p.records c.push.new.self p.waiting c.take.new.self
    (state_of (pushed p.inner e.task e.deadline) (g.W.Queue.list p.waiting) (rest_of (g.R.Queue.list p.released)))
after g c =
    let p = c.self.inside in
    picked_up c.self.invariant c.in-Some.e c.in-Some.ensures c.take.ensures c.push.ensures

pub invariant_of-self : goal.invariant_of-self
invariant_of-self g c = (after g c).fits

pub returns-then-goes-clause-after : goal.returns-then-goes-clause-after
returns-then-goes-clause-after g c =
    let p = c.self.inside in
    let e = c.in-Some.e in
    let k = table_of p.records in
    let steady = c.self.invariant.steady in
    let rs = g.R.Queue.list p.released in
    let goes = rw (← c.self.view_is) at c.goes.ensures in
    let room = job_room c.self.invariant e c.in-Some.ensures in
    rw (← c.self.view_is)
    ((after g c).state
    ∙ pick_yes k p.inner _ rs e (rest_of rs) (first_is rs e c.in-Some.ensures)
    (sym (goes_over_lem k p.inner e (high steady)) ∙ sym goes ∙ c.if-goes.true) (omega (arith, room, steady.tall.0)))

pub returns-else-goes-clause-after : goal.returns-else-goes-clause-after
returns-else-goes-clause-after g c =
    let p = c.self.inside in
    let e = c.in-Some.e in
    let k = table_of p.records in
    let rs = g.R.Queue.list p.released in
    let goes = rw (← c.self.view_is) at c.goes.ensures in
    rw (← c.self.view_is)
    (pick_no k p.inner _ rs e (rest_of rs) (first_is rs e c.in-Some.ensures)
    (sym (goes_over_lem k p.inner e (high c.self.invariant.steady)) ∙ sym goes ∙ c.if-goes.false))

pub returns-in_default-clause-after : goal.returns-in_default-clause-after
returns-in_default-clause-after g c =
    let p = c.self.inside in
    let rs = g.R.Queue.list p.released in
    rw (← c.self.view_is) (pick_none (table_of p.records) p.inner _ rs (none_first rs c.in_default.ensures))
