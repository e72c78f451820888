use Rattle.std.proofs.Common.{◌≡◌, ◌-◌, ◌<◌, length, take, sym, refl, ap, ◌∙◌, arith}
use Rattle.std.proofs.lemmas.List.{length-take-le}
use Rattle.machine.specs.declared.call.Call.TheVariants.{Leave}
use Rattle.machine.specs.declared.call.Answer.TheVariants.{Running}
use Rattle.machine.specs.declared.call.Refusal.TheVariants.{NotInnermost, NotOpen}
use Rattle.machine.specs.State.{State, running}
use Rattle.machine.specs.Step.{Outcome, step, refused, selected}
use Rattle.machine.proofs.Cases.{chosen}
use Rattle.scheduler.specs.declared.stack.Inner.{Inner}
use Rattle.scheduler.specs.Answered.{told}
use Rattle.scheduler.specs.View.{table_of, open_of, opens_of, state_of}
use Rattle.scheduler.specs.Moves.{top_of, no_open, last_open, with_closed, left_by}
use Rattle.scheduler.specs.Parts.{state_in}
use Rattle.scheduler.proofs.Jobs.{opens_top}
use Rattle.scheduler.proofs.Facts.{chained_parts}
use Rattle.scheduler.proofs.Ghosts.{high, top_open, top_ghosts}
use Rattle.scheduler.proofs.Fits.{top_listed}
use Rattle.scheduler.proofs.Steps.{left}
use Rattle.scheduler.proofs.Picks.{running_over}
use Rattle.scheduler.proofs.Grants.{leave_some, leave_is}
use Rattle.scheduler.proofs.engine.Engine.leave.Given.{Over}
use Rattle.scheduler.proofs.engine.Engine.leave.Goals as goal

-- a grant that is open, but not the innermost
kept_is : (g : Over) (c : goal.Then-is_open g)
    → let p = c.self.inside in let s = state_of p.inner (g.W.Queue.list p.waiting) (g.R.Queue.list p.released) in
    step (table_of p.records) (Leave c.args.grant.ticket) s ≡ refused s (NotInnermost c.args.grant.ticket)
kept_is g c =
    let p = c.self.inside in
    leave_is c.self.invariant.steady c.args.grant.ticket _ _ c.if-not-is_innermost.ensures (rw (← c.self.view_is) at c.if-is_open.ensures)

pub returns-then-is_open-clause-value : goal.returns-then-is_open-clause-value
returns-then-is_open-clause-value g c = rw (← c.self.view_is) (ap (λ (o : Outcome). told o.answer) (sym (kept_is g c)))

pub returns-then-is_open-clause-after : goal.returns-then-is_open-clause-after
returns-then-is_open-clause-after g c = rw (← c.self.view_is) (ap (λ (o : Outcome). o.state) (sym (kept_is g c)))

-- a grant that is not open
spent_is : (g : Over) (c : goal.Else-is_open g)
    → let p = c.self.inside in let s = state_of p.inner (g.W.Queue.list p.waiting) (g.R.Queue.list p.released) in
    step (table_of p.records) (Leave c.args.grant.ticket) s ≡ refused s NotOpen
spent_is g c =
    let p = c.self.inside in
    leave_is c.self.invariant.steady c.args.grant.ticket _ _ c.if-not-is_innermost.ensures (rw (← c.self.view_is) at c.if-is_open.ensures)

pub returns-then-not-is_innermost-clause-value : goal.returns-then-not-is_innermost-clause-value
returns-then-not-is_innermost-clause-value g c = rw (← c.self.view_is) (ap (λ (o : Outcome). told o.answer) (sym (spent_is g c)))

pub returns-then-not-is_innermost-clause-after : goal.returns-then-not-is_innermost-clause-after
returns-then-not-is_innermost-clause-after g c = rw (← c.self.view_is) (ap (λ (o : Outcome). o.state) (sym (spent_is g c)))

pub leave-requires-clause-counts : goal.leave-requires-clause-counts
leave-requires-clause-counts g c =
    let p = c.self.inside in
    let steady = c.self.invariant.steady in
    let some = leave_some steady c.args.grant.ticket c.if-not-is_innermost.ensures in
    omega (arith, steady.balanced.0, steady.balanced.1, top_open steady some.0, some.1)

pub invariant_of-self : goal.invariant_of-self
invariant_of-self g c =
    let k = table_of c.self.inside.records in
    let i = c.self.inside.inner in
    let top = top_of i in
    let steady = c.self.invariant.steady in
    let some = leave_some steady c.args.grant.ticket c.if-not-is_innermost.ensures in
    let last : i.depth - 1 < i.depth = omega (arith, some.0) in
    let nest = (chained_parts k (open_of (last_open top)) (opens_of (take (length top.opened.items - 1) top.opened.items))
    (rw (opens_top top.opened.items no_open some.1) at (steady.nested (i.depth - 1) last))).1 in
    (left c.leave.ensures refl refl refl refl c.self.invariant.waiting c.self.invariant.released
    (top_ghosts steady (with_closed top) some.0 (left_by i).counts refl refl nest (omega (arith, some.1, length-take-le (length top.opened.items - 1) top.opened.items (omega arith))) steady.balanced.1)
    (top_listed steady c.self.invariant.lists (with_closed top) (left_by i).counts some.0 refl refl refl refl refl)).fits

-- a leave that is not refused is the machine's, and leaves its state
module _ (g : Over) (c : goal.After-running g) where
  abbrev freed : State
  freed = state_of (left_by c.self.inside.inner) (g.W.Queue.list c.self.inside.waiting) (g.R.Queue.list c.self.inside.released)

  gone_is :
      let p = c.self.inside in
      step (table_of p.records) (Leave c.args.grant.ticket) (state_of p.inner (g.W.Queue.list p.waiting) (g.R.Queue.list p.released)) ≡ chosen (table_of p.records) freed
  gone_is = let p = c.self.inside in leave_is c.self.invariant.steady c.args.grant.ticket _ _ c.if-not-is_innermost.ensures refl

  reached : state_in g.W.Queue g.R.Queue c.select.new.self ≡ selected (table_of c.self.inside.records) freed
  reached =
      let p = c.self.inside in
      c.select.ensures.after ∙ ap (λ (i : Inner). selected (table_of p.records) (state_of i (g.W.Queue.list p.waiting) (g.R.Queue.list p.released))) c.leave.ensures

pub returns-clause-value : goal.returns-clause-value
returns-clause-value g c =
    let runs = c.running.ensures ∙ running_over c.self-2.inside.inner (high c.self-2.invariant.steady) ∙ ap (λ (x : State). running x.stack) (rw (← c.self-2.view_is) at (reached g c)) in
    rw (← c.self.view_is) (ap Running runs ∙ ap (λ (o : Outcome). told o.answer) (sym (gone_is g c)))

pub returns-clause-after : goal.returns-clause-after
returns-clause-after g c = rw (← c.self.view_is) (reached g c ∙ ap (λ (o : Outcome). o.state) (sym (gone_is g c)))
