use Rattle.std.proofs.Common.{◌&&◌, ◌∙◌, rules, tests, refl}
use Rattle.std.specs.List.{list_all}
use Rattle.std.proofs.lemmas.Iterator.{YieldsList-from_slice}
use Rattle.std.proofs.lemmas.Iterator.Search.{all_from_yields_List}
use Rattle.std.proofs.lemmas.List.Recursion.{same_from_clauses}
use Rattle.admission.specs.Sound.{level_sound, levels_sound}
use Rattle.admission.proofs.check.levels_sound.Goals as goal

pub returns : goal.returns
returns c =
    let ts = c.args.tasks.now in
    let ss = c.args.sections.now in
    all_from_yields_List (level_sound ts ss) _ _ _ c.all.ensures.ran (YieldsList-from_slice ss cc) (λ x b q k. search (rules, tests))
    ∙ same_from_clauses (list_all (level_sound ts ss)) (levels_sound ts ss) (λ s b. level_sound ts ss s && b) refl (λ _ _. refl) (λ _ _. refl) ss
