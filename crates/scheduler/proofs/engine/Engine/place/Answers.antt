use Rattle.std.proofs.Common.{Some, refl, ap, ◌∙◌, arith}
use Rattle.scheduler.specs.declared.stack.Inner.{Inner}
use Rattle.scheduler.specs.Steady.{spot_at}
use Rattle.scheduler.specs.Moves.{place_from}
use Rattle.scheduler.proofs.Places.{place_by, place_none}
use Rattle.scheduler.proofs.engine.Engine.place.Goals as goal

pub returns-then-task-len : goal.returns-then-task-len
returns-then-task-len g c =
    let p = c.self.inside in
    let lists = c.self.invariant.lists in
    rw (← c.self.view_is) (place_none c.self.invariant.steady lists c.args.task (omega (arith, c.if-task-len.true, c.len.ensures)))

pub returns : goal.returns
returns g c =
    let p = c.self.inside in
    let lists = c.self.invariant.lists in
    let spot = ap (λ (i : Inner). place_from (spot_at i c.args.task)) c.inner.view_is in
    rw (← c.self.view_is)
    (ap Some (c.from.ensures ∙ spot) ∙ place_by c.self.invariant.steady lists c.args.task (omega (arith, c.if-task-len.false, c.len.ensures)) (spot_at p.inner c.args.task) refl)
