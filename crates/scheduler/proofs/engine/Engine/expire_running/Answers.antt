use Rattle.std.proofs.Common.{refl, ◌∙◌, arith}
use Rattle.queue.specs.Order.{insert_sorted}
use Rattle.queue.specs.Entries.{waiting_before}
use Rattle.scheduler.specs.declared.stack.Inner.{Inner}
use Rattle.scheduler.specs.View.{table_of, state_of}
use Rattle.scheduler.specs.Moves.{expired_by, again_of}
use Rattle.scheduler.proofs.Ghosts.{top_open}
use Rattle.scheduler.proofs.Events.{due_some, expire_yes, expire_no, expiries_most}
use Rattle.scheduler.proofs.Steps.{Left, ended}
use Rattle.scheduler.proofs.engine.Engine.expire_running.Given.{Over}
use Rattle.scheduler.proofs.engine.Engine.expire_running.Goals as goal

pub returns-then-not-is_due-clause-after : goal.returns-then-not-is_due-clause-after
returns-then-not-is_due-clause-after g c = rw (← c.self.view_is) (expire_no c.self.invariant.steady c.args.t _ _ c.if-not-is_due.ensures)

pub expire-requires-clause-counts : goal.expire-requires-clause-counts
expire-requires-clause-counts g c =
    let steady = c.self.invariant.steady in
    let some = due_some steady c.args.t c.if-not-is_due.ensures in (
      expiries_most steady c.self.invariant.lists,
      omega (arith, steady.balanced.0, steady.balanced.1, top_open steady some),
    )

-- what is left once the running job has ended
module _ (g : Over) (c : goal.After-expire g) where
  abbrev i : Inner
  i = c.self.inside.inner

  after :
      let p = c.self.inside in
      Left g.W.Queue g.R.Queue p.records c.expire.new.self c.insert.new.self p.released
      (state_of (expired_by i) (insert_sorted waiting_before (again_of (table_of p.records) i) (g.W.Queue.list p.waiting)) (g.R.Queue.list p.released))
  after =
      let p = c.self.inside in
      let entry = rw (← c.self.view_is) at c.again-entry.ensures in
      ended c.self.invariant (expired_by i).counts
      (due_some c.self.invariant.steady c.args.t c.if-not-is_due.ensures) refl (omega arith) refl refl refl c.expire.ensures entry c.insert.ensures

pub invariant_of-self : goal.invariant_of-self
invariant_of-self g c = (after g c).fits

pub returns-clause-after : goal.returns-clause-after
returns-clause-after g c = rw (← c.self.view_is) ((after g c).state ∙ expire_yes c.self.invariant.steady c.args.t _ _ c.if-not-is_due.ensures)
