use Rattle.std.proofs.Common.{length, sym, ap, ◌∙◌, arith}
use Rattle.table.proofs.Listed.{number_left}
use Rattle.table.proofs.line.CursorIterator.next.Goals as goal

pub returns-then-is_some-clause-steps : goal.returns-then-is_some-clause-steps
returns-then-is_some-clause-steps c =
    sym c.loop-b.invariant
    ∙ number_left c.loop-b.self c.number.new.self c.digit.result c.number.result c.digit.ensures (sym c.is_some.ensures ∙ c.if-is_some.true)
    c.number.ensures.value c.number.ensures.after c.number.ensures.same

pub returns-then-is_some-clause-goes : goal.returns-then-is_some-clause-goes
returns-then-is_some-clause-goes c =
    let fewer = ap length (returns-then-is_some-clause-steps c) in
    record { on = λ _. (tt, tt, omega arith); keeps = tt; rests = λ _. tt }
