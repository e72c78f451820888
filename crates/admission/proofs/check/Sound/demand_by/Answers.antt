use Rattle.std.proofs.Common.{◌<◌, sym, ◌∙◌, rules, tests, arith}
use Rattle.std.proofs.lemmas.Iterator.{YieldsList-from_slice, YieldsList-from_map}
use Rattle.std.proofs.lemmas.Iterator.Adapters.{serves_from_places}
use Rattle.std.proofs.lemmas.Iterator.Consumers.{sum_by_from_yields_List, fits_by_from_yields_list}
use Rattle.admission.specs.Demand.{demand_of}
use Rattle.admission.proofs.Single.{demand_of_le}
use Rattle.admission.proofs.Several.{timed_at, demand_is, sum_fits}
use Rattle.admission.proofs.check.Sound.demand_by.Goals as goal

pub sum-requires-clause-can : goal.sum-requires-clause-can
sum-requires-clause-can c =
    let s = c.args.self.now in
    let t = c.args.t.ticks in (
      tt,
      serves_from_places (YieldsList-from_slice s.tasks.now cc) (λ x q e. search (rules, tests))
          (λ x k h is.
          let ok = timed_at s.tasks.now s.sections.now s.rules x.now k h is in
          let short : demand_of x.now t < 4294967296 = omega (arith, demand_of_le x.now ok t) in
          search (rules, tests)),
    )

pub sum-requires-clause-fits : goal.sum-requires-clause-fits
sum-requires-clause-fits c =
    let s = c.args.self.now in
    let t = c.args.t.ticks in
    fits_by_from_yields_list _ _ c.map.result _ (YieldsList-from_map _ (λ k. demand_of k t) (YieldsList-from_slice s.tasks.now cc) c.map.ensures.closure (λ x r q k. search (rules, tests)))
    (sum_fits (λ k. demand_of k t) t c.args.t.near (λ k ok. demand_of_le k ok t) s.tasks.now s.sections.now s.rules)

pub returns : goal.returns
returns c =
    let s = c.args.self.now in
    let t = c.args.t.ticks in
    sum_by_from_yields_List _ _ c.map.result _ c.sum.ensures.ran (YieldsList-from_map _ (λ k. demand_of k t) (YieldsList-from_slice s.tasks.now cc) c.map.ensures.closure (λ x r q k. search (rules, tests)))
    ∙ sym (demand_is s.tasks.now t)
