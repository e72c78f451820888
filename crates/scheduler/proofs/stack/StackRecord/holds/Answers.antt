use Rattle.std.proofs.Common.{rules, List, ap, ◌∙◌}
use Rattle.std.proofs.lemmas.Iterator.{YieldsList-from_slice}
use Rattle.std.proofs.lemmas.Iterator.Search.{any_from_yields_List}
use Rattle.std.specs.List.{list_any}
use Rattle.scheduler.specs.declared.stack.OpenSection.{OpenSection}
use Rattle.scheduler.proofs.Jobs.{for_grant, among_any}
use Rattle.scheduler.proofs.stack.StackRecord.holds.Goals as goal
use borrow.Author.Tests.{tests}

pub returns : goal.returns
returns c =
    let job = c.args.self.now in
    let test = for_grant c.args.ticket in
    any_from_yields_List test _ _ c.any.result c.any.ensures.ran (YieldsList-from_slice _ cc) (λ x b q k. search (rules, tests))
    ∙ ap (λ (os : List OpenSection). list_any test os) c.deref.ensures.0 ∙ among_any c.args.ticket job.opened.items
