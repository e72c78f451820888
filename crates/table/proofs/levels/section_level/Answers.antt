use Rattle.std.proofs.Common.{ℕ, Option, sym, ◌∙◌, rules, tests}
use Rattle.std.proofs.lemmas.Iterator.{YieldsList-from_slice}
use Rattle.std.proofs.lemmas.Iterator.Consumers.{YieldsList-at, YieldsList-from_enumerate, YieldsList-from_filter, YieldsList-from_filter_map, min_from_yields_List}
use Rattle.std.proofs.lemmas.Iterator.Adapters.{option_map_id}
use Rattle.table.specs.Level.{names}
use Rattle.table.proofs.Least.{least_is}
use Rattle.table.proofs.levels.section_level.Goals as goal

pub returns : goal.returns
returns c =
    sym (option_map_id _)
    ∙ min_from_yields_List c.filter_map.result _ c.min.ensures.ran
    (YieldsList-from_filter_map _ (λ (p : ℕ × Option ℕ). p.1)
    (YieldsList-at c.filter_map.ensures.source (YieldsList-from_filter _ (λ (p : ℕ × Option ℕ). names c.args.section.now p.0)
    (YieldsList-at c.filter.ensures.source (YieldsList-from_enumerate (YieldsList-at c.enumerate.ensures.source (YieldsList-from_slice c.args.levels.now cc)) c.enumerate.ensures.count)) c.filter.ensures.closure (λ x b q k. search (rules, tests))))
    c.filter_map.ensures.closure (λ x r q k. search (rules, tests)))
    ∙ least_is c.args.section.now 0 c.args.levels.now
