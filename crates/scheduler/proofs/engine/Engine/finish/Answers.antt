use Rattle.std.proofs.Common.{rules, ◌≡◌, Err, sym, refl, ap, ◌∙◌, arith}
use Rattle.machine.specs.declared.call.Call.TheVariants.{Finish}
use Rattle.machine.specs.declared.call.Answer.TheVariants.{Running}
use Rattle.machine.specs.State.{State, running}
use Rattle.machine.specs.Step.{Outcome, step, refused, selected}
use Rattle.scheduler.specs.View.{table_of, state_of}
use Rattle.scheduler.specs.Moves.{finished_by}
use Rattle.scheduler.specs.Parts.{state_in}
use Rattle.scheduler.specs.Calls.{of_finish}
use Rattle.scheduler.proofs.Ghosts.{high}
use Rattle.scheduler.proofs.Picks.{running_over}
use Rattle.scheduler.proofs.Events.{finishes_most}
use Rattle.scheduler.proofs.Steps.{ended}
use Rattle.scheduler.proofs.Calls.{done, finish_is, finish_some}
use Rattle.scheduler.proofs.engine.Engine.finish.Given.{Over}
use Rattle.scheduler.proofs.engine.Engine.finish.Goals as goal

-- a refused finish is the machine's
refused_is : (g : Over) (c : goal.After-from_residual g)
    → let p = c.self.inside in let s = state_of p.inner (g.W.Queue.list p.waiting) (g.R.Queue.list p.released) in
    step (table_of p.records) Finish s ≡ refused s c.in_err-check_finish.field-0.0
refused_is g c = let p = c.self.inside in finish_is c.self.invariant.steady _ _ (rw (← c.self.view_is) at c.in_err-check_finish.ensures)

pub returns-in_err-check_finish-clause-value : goal.returns-in_err-check_finish-clause-value
returns-in_err-check_finish-clause-value g c =
    let err : c.from_residual.result ≡ Err c.in_err-check_finish.field-0.0 = search rules in
    rw (← c.self.view_is) (ap of_finish err ∙ ap (λ (o : Outcome). o.answer) (sym (refused_is g c)))

pub returns-in_err-check_finish-clause-after : goal.returns-in_err-check_finish-clause-after
returns-in_err-check_finish-clause-after g c = rw (← c.self.view_is) (ap (λ (o : Outcome). o.state) (sym (refused_is g c)))

pub finish-requires-clause-counts : goal.finish-requires-clause-counts
finish-requires-clause-counts g c =
    let p = c.self.inside in
    finishes_most c.self.invariant.steady c.self.invariant.lists

pub invariant_of-self : goal.invariant_of-self
invariant_of-self g c =
    let p = c.self.inside in
    let some = finish_some p.inner (rw (← c.self.view_is) at c.in_ok-check_finish.ensures) in
    (ended c.self.invariant (finished_by p.inner).counts some.0 refl (omega arith) refl refl (omega (arith, some.1))
    c.finish.ensures (rw (← c.self.view_is) at c.again-entry.ensures) c.insert.ensures).fits

-- a finish that is not refused is the machine's, and leaves its state
module _ (g : Over) (c : goal.After-running g) where
  ended_is :
      let p = c.self.inside in let ws = g.W.Queue.list p.waiting in let rs = g.R.Queue.list p.released in
      step (table_of p.records) Finish (state_of p.inner ws rs) ≡ done p.records p.inner ws rs
  ended_is = let p = c.self.inside in finish_is c.self.invariant.steady _ _ (rw (← c.self.view_is) at c.in_ok-check_finish.ensures)

  reached :
      let p = c.self.inside in let ws = g.W.Queue.list p.waiting in let rs = g.R.Queue.list p.released in
      state_in g.W.Queue g.R.Queue c.select.new.self ≡ (done p.records p.inner ws rs).state
  reached =
      let p = c.self.inside in
      let some = finish_some p.inner (rw (← c.self.view_is) at c.in_ok-check_finish.ensures) in
      let left = ended c.self.invariant (finished_by p.inner).counts some.0 refl (omega arith) refl refl (omega (arith, some.1))
      c.finish.ensures (rw (← c.self.view_is) at c.again-entry.ensures) c.insert.ensures in
      c.select.ensures.after ∙ ap (selected (table_of p.records)) left.state

pub returns-clause-value : goal.returns-clause-value
returns-clause-value g c =
    let runs = c.running.ensures ∙ running_over c.self-2.inside.inner (high c.self-2.invariant.steady) ∙ ap (λ (x : State). running x.stack) (rw (← c.self-2.view_is) at (reached g c)) in
    rw (← c.self.view_is) (ap Running runs ∙ ap (λ (o : Outcome). o.answer) (sym (ended_is g c)))

pub returns-clause-after : goal.returns-clause-after
returns-clause-after g c = rw (← c.self.view_is) (reached g c ∙ ap (λ (o : Outcome). o.state) (sym (ended_is g c)))
