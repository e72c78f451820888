use Rattle.std.proofs.Common.{rules, sym, ap, ◌∙◌, unwrap_or, tests}
use Rattle.std.proofs.lemmas.Iterator.{YieldsList-from_slice, YieldsList-from_map}
use Rattle.std.proofs.lemmas.Iterator.Adapters.{option_map_id}
use Rattle.std.proofs.lemmas.Iterator.Consumers.{YieldsList-at, YieldsList-from_filter, max_from_yields_List}
use Rattle.admission.specs.Demand.{blocks}
use Rattle.table.specs.declared.records.SectionRecord.{SectionRecord}
use Rattle.admission.proofs.Blocked.{blocking_is}
use Rattle.admission.proofs.check.Sound.blocking_at.Goals as goal

pub returns : goal.returns
returns c =
    let s = c.args.self.now in
    c.unwrap_or.ensures
    ∙ ap (λ o. unwrap_or o 0)
    (sym (option_map_id c.max.result)
    ∙ max_from_yields_List c.map.result c.max.result c.max.ensures.ran
    (YieldsList-from_map _ (λ (s : SectionRecord). s.length)
    (YieldsList-at c.map.ensures.source
    (YieldsList-from_filter _ (λ x. blocks s.tasks.now x c.args.t.ticks) (YieldsList-from_slice s.sections.now cc) c.filter.ensures.closure
    (λ x r q k. search (rules, tests))))
    c.map.ensures.closure (λ x r q k. search (rules, tests))))
    ∙ blocking_is s.tasks.now c.args.t.ticks s.sections.now
