use Rattle.std.proofs.Common.{rules, ◌≡◌, ◌+◌, ◌-◌, Err, sym, ap, ◌∙◌, arith}
use Rattle.machine.specs.declared.call.Call.TheVariants.{Advance}
use Rattle.machine.specs.declared.call.Answer.TheVariants.{Advanced}
use Rattle.machine.specs.State.{State, running}
use Rattle.machine.specs.Step.{Outcome, step, refused, advanced, advanced_answer}
use Rattle.scheduler.specs.declared.question.Counts.{Counts}
use Rattle.scheduler.specs.declared.stack.Inner.{Inner}
use Rattle.scheduler.specs.View.{table_of, state_of}
use Rattle.scheduler.specs.Parts.{state_in}
use Rattle.scheduler.specs.Calls.{of_advance}
use Rattle.scheduler.proofs.Ghosts.{high}
use Rattle.scheduler.proofs.Picks.{running_over}
use Rattle.scheduler.proofs.Calls.{passed, advance_is, advance_parts}
use Rattle.scheduler.proofs.engine.Engine.advance.Given.{Over}
use Rattle.scheduler.proofs.engine.Engine.advance.Goals as goal

-- a refused advance is the machine's
refused_is : (g : Over) (c : goal.After-from_residual g)
    → let p = c.self.inside in let s = state_of p.inner (g.W.Queue.list p.waiting) (g.R.Queue.list p.released) in
    step (table_of p.records) (Advance c.args.t) s ≡ refused s c.in_err-check_instant.field-0.0
refused_is g c = advance_is _ c.args.t _ (rw (c.clock.ensures, c.due.ensures, ← c.self.view_is) at c.in_err-check_instant.ensures)

pub returns-in_err-check_instant-clause-value : goal.returns-in_err-check_instant-clause-value
returns-in_err-check_instant-clause-value g c =
    let err : c.from_residual.result ≡ Err c.in_err-check_instant.field-0.0 = search rules in
    rw (← c.self.view_is) (ap of_advance err ∙ ap (λ (o : Outcome). o.answer) (sym (refused_is g c)))

pub returns-in_err-check_instant-clause-after : goal.returns-in_err-check_instant-clause-after
returns-in_err-check_instant-clause-after g c = rw (← c.self.view_is) (ap (λ (o : Outcome). o.state) (sym (refused_is g c)))

-- an advance that is not refused is the machine's, and leaves its state
module _ (g : Over) (c : goal.After-running g) where
  abbrev start : State
  start = state_of c.self.inside.inner (g.W.Queue.list c.self.inside.waiting) (g.R.Queue.list c.self.inside.released)

  abbrev end : State
  end = state_in g.W.Queue g.R.Queue c.select.new.self

  done_is : step (table_of c.self.inside.records) (Advance c.args.t) start ≡ passed (table_of c.self.inside.records) c.args.t start
  done_is = advance_is _ c.args.t _ (rw (c.clock.ensures, c.due.ensures, ← c.self.view_is) at c.in_ok-check_instant.ensures)

  reached : end ≡ advanced (table_of c.self.inside.records) c.args.t start
  reached =
      let t = c.args.t in
      let see = state_in g.W.Queue g.R.Queue in
      let s1 = see c.expire_running-ended.new.self in
      let s2 = see c.lapse-lapsed.new.self in
      let s3 = see c.release-released.new.self in
      let r1 = c.expire_running-ended.ensures.records in
      let r2 = c.lapse-lapsed.ensures.records ∙ r1 in
      let r3 = c.release-released.ensures.records ∙ r2 in
      advance_parts (table_of c.self.inside.records) t start s1 s2 s3 end (rw c.set_clock.ensures at c.expire_running-ended.ensures.after) (rw r1 at c.lapse-lapsed.ensures.after)
      (rw r2 at c.release-released.ensures.after) (rw r3 at c.select.ensures.after)

pub returns-clause-value : goal.returns-clause-value
returns-clause-value g c =
    let s = start g c in
    let s4 = end g c in
    let clock = c.set_clock.ensures in
    let expired = c.expire_running-ended.ensures.counts in
    let lapsed = c.lapse-lapsed.ensures.counts in
    let released = c.release-released.ensures.counts in
    let selected = c.select.ensures.counts in
    let ends : c.expire_running-ended.result + c.lapse-lapsed.result ≡ s4.counts.expiries - s.counts.expiries =
    omega (arith, ap (λ (i : Inner). i.counts.expiries) clock, ap (λ (n : Counts). n.expiries) selected) in
    let outs : c.release-released.result ≡ s4.counts.releases - s.counts.releases =
    omega (arith, ap (λ (i : Inner). i.counts.releases) clock, ap (λ (n : Counts). n.releases) selected) in
    let runs : c.running.result ≡ running s4.stack =
    rw (← c.self-2.view_is) (c.running.ensures ∙ running_over c.self-2.inside.inner (high c.self-2.invariant.steady)) in
    rw (← c.self.view_is)
    (ap (λ n. Advanced (n, c.release-released.result, c.running.result)) ends
    ∙ ap (λ n. Advanced (s4.counts.expiries - s.counts.expiries, n, c.running.result)) outs
    ∙ ap (λ n. Advanced (s4.counts.expiries - s.counts.expiries, s4.counts.releases - s.counts.releases, n)) runs
    ∙ ap (λ (x : State). advanced_answer s x) (reached g c)
    ∙ ap (λ (o : Outcome). o.answer) (sym (done_is g c)))

pub returns-clause-after : goal.returns-clause-after
returns-clause-after g c = rw (← c.self.view_is) (reached g c ∙ ap (λ (o : Outcome). o.state) (sym (done_is g c)))
