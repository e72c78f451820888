use Rattle.std.proofs.Common.{rules, ◌≡◌, ℕ, [], ◌∷◌, Err, sym, refl, ap, ◌∙◌, arith, length-append}
use Rattle.admission.proofs.SoundFacts.{few_sections}
use Rattle.machine.specs.declared.call.Call.TheVariants.{Enter}
use Rattle.machine.specs.declared.call.Answer.TheVariants.{Granted}
use Rattle.machine.specs.Step.{Outcome, step, refused}
use Rattle.scheduler.specs.declared.stack.Inner.{Inner}
use Rattle.scheduler.specs.View.{table_of, state_of}
use Rattle.scheduler.specs.Moves.{top_of, with_open, entered_by}
use Rattle.scheduler.specs.Calls.{of_enter}
use Rattle.scheduler.proofs.Jobs.{opens_push}
use Rattle.scheduler.proofs.Ghosts.{top_ghosts}
use Rattle.scheduler.proofs.Fits.{top_listed}
use Rattle.scheduler.proofs.Steps.{left}
use Rattle.scheduler.proofs.Calls.{granted, enter_is, enter_some}
use Rattle.scheduler.proofs.engine.Engine.enter.Given.{Over}
use Rattle.scheduler.proofs.engine.Engine.enter.Goals as goal

-- a refused entry is the machine's
refused_is : (g : Over) (c : goal.After-from_residual g)
    → let p = c.self.inside in let s = state_of p.inner (g.W.Queue.list p.waiting) (g.R.Queue.list p.released) in
    step (table_of p.records) (Enter c.args.section) s ≡ refused s c.in_err-task.field-0.0
refused_is g c = let p = c.self.inside in enter_is c.self.invariant.steady _ _ c.args.section (rw (← c.self.view_is) at c.in_err-task.ensures)

pub returns-in_err-task-clause-value : goal.returns-in_err-task-clause-value
returns-in_err-task-clause-value g c =
    let err : c.from_residual.result ≡ Err c.in_err-task.field-0.0 = search rules in
    rw (← c.self.view_is) (ap of_enter err ∙ ap (λ (o : Outcome). o.answer) (sym (refused_is g c)))

pub returns-in_err-task-clause-after : goal.returns-in_err-task-clause-after
returns-in_err-task-clause-after g c = rw (← c.self.view_is) (ap (λ (o : Outcome). o.state) (sym (refused_is g c)))

pub overflow_cast-section : goal.overflow_cast-section
overflow_cast-section g c =
    let open-to = enter_some c.self.invariant.steady c.args.section (rw (← c.self.view_is) at c.in_ok-task.ensures.0) in
    omega (arith, open-to.in_table, few_sections _ _ c.self.inside.records.copied)

pub enter-serial-requires-clause-top : goal.enter-serial-requires-clause-top
enter-serial-requires-clause-top g c =
    let p = c.self.inside in
    let open-to = enter_some c.self.invariant.steady c.args.section (rw (← c.self.view_is) at c.in_ok-task.ensures.0) in
    (open-to.some, open-to.room)

pub invariant_of-self : goal.invariant_of-self
invariant_of-self g c =
    let i = c.self.inside.inner in
    let x = c.args.section in
    let top = top_of i in
    let steady = c.self.invariant.steady in
    let open-to = enter_some steady x (rw (← c.self.view_is) at c.in_ok-task.ensures.0) in
    (left c.enter-serial.ensures.after refl refl refl refl c.self.invariant.waiting c.self.invariant.released
    (top_ghosts steady (with_open x i.counts.entries top) open-to.some (entered_by i x).counts refl refl
    (rw (opens_push top.opened.items (record { section = x; serial = i.counts.entries })) open-to.nested) (omega (arith, length-append top.opened.items (record { section = x; serial = i.counts.entries } ∷ []))) (omega (arith, open-to.counted)))
    (top_listed steady c.self.invariant.lists (with_open x i.counts.entries top) (entered_by i x).counts open-to.some refl refl refl refl refl)).fits

-- an entry that is not refused is the machine's
granted_is : (g : Over) (c : goal.After-enter-serial g)
    → let p = c.self.inside in let ws = g.W.Queue.list p.waiting in let rs = g.R.Queue.list p.released in
    step (table_of p.records) (Enter c.args.section) (state_of p.inner ws rs) ≡ granted p.records p.inner ws rs c.args.section
granted_is g c = let p = c.self.inside in enter_is c.self.invariant.steady _ _ c.args.section (rw (← c.self.view_is) at c.in_ok-task.ensures.0)

pub returns-clause-value : goal.returns-clause-value
returns-clause-value g c =
    let p = c.self.inside in
    let x = c.args.section in
    let task = rw (← c.self.view_is) at c.in_ok-task.ensures.1 in
    rw (← c.self.view_is)
    (ap (λ (n : ℕ). Granted (record { task = n; section = x; serial = c.enter-serial.result })) task
    ∙ ap (λ (n : ℕ). Granted (record { task = (top_of p.inner).task; section = x; serial = n })) c.enter-serial.ensures.serial
    ∙ ap (λ (o : Outcome). o.answer) (sym (granted_is g c)))

pub returns-clause-after : goal.returns-clause-after
returns-clause-after g c =
    let p = c.self.inside in
    rw (← c.self.view_is)
    (ap (λ (j : Inner). state_of j (g.W.Queue.list p.waiting) (g.R.Queue.list p.released)) c.enter-serial.ensures.after ∙ ap (λ (o : Outcome). o.state) (sym (granted_is g c)))
