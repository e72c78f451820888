use Rattle.std.proofs.Common.{eqb, ap, ◌∙◌, arith}
use Rattle.std.proofs.lemmas.Bool.Decides.{nat_tests}
use Rattle.std.proofs.lemmas.Nat.Bits.{bit_at_or, bit_at-lt}
use Rattle.table.proofs.levels.names_it.Goals as goal

pub returns : goal.returns
returns c =
    let section = c.args.section.now in
    let small = bit_at-lt section.small c.args.resource in
    let capital = bit_at-lt section.capital c.args.resource in
    c.has.ensures ∙ ap (λ x. eqb x 1) (bit_at_or section.small section.capital c.args.resource) ∙ grind (arith, nat_tests)
