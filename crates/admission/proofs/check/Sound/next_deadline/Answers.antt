use Rattle.std.proofs.Common.{IsSome, refl, sym, subst, ◌∙◌, rules, tests}
use Rattle.std.proofs.lemmas.Iterator.{YieldsList-from_slice, YieldsList-from_map}
use Rattle.std.proofs.lemmas.Iterator.Adapters.{serves_from_places, option_map_id}
use Rattle.std.proofs.lemmas.Iterator.Consumers.{min_from_yields_List}
use Rattle.admission.proofs.SoundFacts.{judgeable_if_sound}
use Rattle.admission.proofs.Single.{due_after}
use Rattle.admission.proofs.Several.{timed_at, next_some, next_of}
use Rattle.admission.proofs.check.Sound.next_deadline.Goals as goal

pub min-requires-clause-can : goal.min-requires-clause-can
min-requires-clause-can c =
    let s = c.args.self.now in (
      tt,
      serves_from_places (YieldsList-from_slice s.tasks.now cc) (λ x q e. search (rules, tests))
          (λ x k h is. let ok = timed_at s.tasks.now s.sections.now s.rules x.now k h is in search (rules, tests)),
    )

pub unwrap-requires : goal.unwrap-requires
unwrap-requires c =
    let s = c.args.self.now in
    let some = next_some c.args.t.ticks s.tasks.now (judgeable_if_sound s.tasks.now s.sections.now s.rules).any in
    let is = sym (option_map_id c.min.result)
    ∙ min_from_yields_List c.map.result c.min.result c.min.ensures.ran
    (YieldsList-from_map _ (λ k. due_after k c.args.t.ticks) (YieldsList-from_slice s.tasks.now cc) c.map.ensures.closure (λ x r q k. search (rules, tests)))
    ∙ some.1 in
    subst IsSome (sym is) refl

pub returns : goal.returns
returns c =
    let s = c.args.self.now in
    next_of c.args.t.ticks s.tasks.now c.unwrap.result (judgeable_if_sound s.tasks.now s.sections.now s.rules).timed
    (sym (min_from_yields_List c.map.result c.min.result c.min.ensures.ran
    (YieldsList-from_map _ (λ k. due_after k c.args.t.ticks) (YieldsList-from_slice s.tasks.now cc) c.map.ensures.closure (λ x r q k. search (rules, tests))))
    ∙ option_map_id c.min.result ∙ c.unwrap.ensures)
