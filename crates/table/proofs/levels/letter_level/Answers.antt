use Rattle.std.proofs.Common.{sym, ◌∙◌, rules, tests}
use Rattle.std.proofs.lemmas.Iterator.{YieldsList-from_slice}
use Rattle.std.proofs.lemmas.Iterator.Consumers.{YieldsList-at, YieldsList-from_filter, YieldsList-from_filter_map, min_from_yields_List}
use Rattle.std.proofs.lemmas.Iterator.Adapters.{option_map_id}
use Rattle.table.specs.declared.records.SectionRecord.{SectionRecord}
use Rattle.table.specs.Level.{names, deadline_of}
use Rattle.table.proofs.Least.{letter_is}
use Rattle.table.proofs.levels.letter_level.Goals as goal

pub returns : goal.returns
returns c =
    sym (option_map_id _)
    ∙ min_from_yields_List c.filter_map.result _ c.min.ensures.ran
    (YieldsList-from_filter_map _ (λ (s : SectionRecord). deadline_of c.args.tasks.now s.task)
    (YieldsList-at c.filter_map.ensures.source (YieldsList-from_filter _ (λ (s : SectionRecord). names s c.args.resource) (YieldsList-from_slice c.args.sections.now cc) c.filter.ensures.closure (λ x b q k. search (rules, tests))))
    c.filter_map.ensures.closure (λ x r q k. search (rules, tests)))
    ∙ letter_is c.args.tasks.now c.args.resource c.args.sections.now
