use Rattle.std.proofs.Common.{◌≡◌, List, ℕ, Some, Option, Bor, sym, subst}
use Rattle.std.proofs.lemmas.Str.Pattern.{IsSplitOnceResult}
use Rattle.machine.specs.declared.call.Ticket.{Ticket}
use Rattle.trace.specs.Line.{Number, Three, Names}
use Rattle.trace.proofs.Words.{Cuts, three_cut}
use Rattle.trace.proofs.script.ticket.Goals as goal

pub returns-in_err-task : goal.returns-in_err-task
returns-in_err-task c = subst (Names c.args.words.now) (sym c.from_residual.ensures) (λ g h. subst (Cuts _) c.in_err-task.was (three_cut c.args.words.now c.split_once.result g c.split_once.ensures.cases h))

pub returns-in_err-section : goal.returns-in_err-section
returns-in_err-section c =
    subst (Names c.args.words.now) (sym c.from_residual-in_err-section.ensures)
    (λ g h. subst (Cuts _) c.in_err-section.was (subst (Cuts _) c.in_ok-task.was (three_cut c.args.words.now c.split_once.result g c.split_once.ensures.cases h) c.split_once-2.result c.split_once-2.ensures.cases))

-- where both cuts are made, the three words are the numbers of any grant that is named
parts :
    (words : List ℕ) (r s : Option (Bor (List ℕ) × Bor (List ℕ))) (x y : Bor (List ℕ) × Bor (List ℕ)) → IsSplitOnceResult 32 words r → r ≡ Some x → IsSplitOnceResult 32 x.1.now s → s ≡ Some y
    → (g : Ticket) → Three words g → Number 64 x.0.now g.task × Number 64 y.0.now g.section × Number 32 y.1.now g.serial
parts words r s x y h e h' e' g t = subst (Cuts _) e' (subst (Cuts _) e (three_cut words r g h t) s h')

pub returns-in_err-number : goal.returns-in_err-number
returns-in_err-number c =
    subst (Names c.args.words.now) (sym c.from_residual-in_err-number.ensures)
    (λ g h. c.in_err-number.ensures g.task (parts c.args.words.now c.split_once.result c.split_once-2.result (c.in_ok-task.task, c.in_ok-task.rest) (c.in_ok-section.section, c.in_ok-section.serial) c.split_once.ensures.cases c.in_ok-task.was c.split_once-2.ensures.cases c.in_ok-section.was g h).0)

pub returns-in_err-number-2 : goal.returns-in_err-number-2
returns-in_err-number-2 c =
    subst (Names c.args.words.now) (sym c.from_residual-in_err-number-2.ensures)
    (λ g h. c.in_err-number-2.ensures g.section (parts c.args.words.now c.split_once.result c.split_once-2.result (c.in_ok-task.task, c.in_ok-task.rest) (c.in_ok-section.section, c.in_ok-section.serial) c.split_once.ensures.cases c.in_ok-task.was c.split_once-2.ensures.cases c.in_ok-section.was g h).1)

pub returns-in_err-small_number : goal.returns-in_err-small_number
returns-in_err-small_number c =
    subst (Names c.args.words.now) (sym c.from_residual-in_err-small_number.ensures)
    (λ g h. c.in_err-small_number.ensures g.serial (parts c.args.words.now c.split_once.result c.split_once-2.result (c.in_ok-task.task, c.in_ok-task.rest) (c.in_ok-section.section, c.in_ok-section.serial) c.split_once.ensures.cases c.in_ok-task.was c.split_once-2.ensures.cases c.in_ok-section.was g h).2)
