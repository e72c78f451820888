use Rattle.std.proofs.Common.{length, inl, ap, ◌∙◌, refl, arith, rules, tests}
use Rattle.std.proofs.lemmas.Iterator.Consumers.{YieldsList-at, YieldsList-from_first, YieldsList-from_filter, count_from_yields_List}
use Rattle.table.specs.declared.line.Cursor.{Cursor}
use Rattle.table.specs.declared.line.Item.{Item}
use Rattle.table.specs.Item.{left}
use Rattle.table.proofs.Listed.{left_short}
use Rattle.table.proofs.Writes.{is_open, opens_filter}
use Rattle.table.proofs.rules.count_sections.Goals as goal

pub count-requires-clause-fits : goal.count-requires-clause-fits
count-requires-clause-fits c =
    let same = ap (λ (x : Cursor). length (left x)) c.filter.ensures.source in
    inl (omega (arith, left_short c.args.items))

pub returns : goal.returns
returns c =
    count_from_yields_List c.filter.result _ c.count.ensures.ran
    (YieldsList-from_filter _ is_open (YieldsList-at c.filter.ensures.source (YieldsList-from_first (λ (x : Item). x) left (left c.args.items) refl)) c.filter.ensures.closure (λ x b q k. search (rules, tests)))
    ∙ opens_filter (left c.args.items)
