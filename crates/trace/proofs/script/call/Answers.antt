use Rattle.std.proofs.Common.{sym, subst, rules}
use Rattle.trace.specs.Line.{Says}
use Rattle.trace.proofs.Words.{no_leave}
use Rattle.trace.proofs.script.call.Goals as goal

pub returns-in_err-ticket : goal.returns-in_err-ticket
returns-in_err-ticket c =
    let text = c.args.text.now in
    subst (Says text) (sym c.from_residual-in_err-ticket.ensures) (no_leave text c.in_ok-words.words.now (search rules) c.in_err-ticket.ensures)
