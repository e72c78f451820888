use Rattle.std.proofs.Common.{arith}
use Rattle.admission.proofs.SoundFacts.{judgeable_if_sound}
use Rattle.admission.proofs.Several.{demand_is, sum_le}
use Rattle.admission.proofs.Single.{demand_of_le}
use Rattle.admission.specs.Demand.{demand_of}
use Rattle.admission.proofs.Blocked.{blocking_short}
use Rattle.admission.proofs.Rises.{fits_first, fits_more}
use Rattle.admission.proofs.check.Sound.fits_until.Goals as goal

pub loop-ticks-init : goal.loop-ticks-init
loop-ticks-init c =
    let s = c.args.self.now in (
      c.next_deadline-ticks.ensures.past,
      fits_first s.tasks.now s.sections.now (judgeable_if_sound s.tasks.now s.sections.now s.rules) c.next_deadline-ticks.result c.next_deadline-ticks.ensures,
    )

pub overflow_add-all : goal.overflow_add-all
overflow_add-all c =
    let s = c.args.self.now in
    let ok = judgeable_if_sound s.tasks.now s.sections.now s.rules in
    let t = c.loop-ticks.ticks in
    omega (
      arith,
      ok.few,
      c.demand_by.ensures,
      c.blocking_at.ensures,
      demand_is s.tasks.now t,
      sum_le (λ k. demand_of k t) t (omega arith) (λ k own. demand_of_le k own t) s.tasks.now ok.timed,
      blocking_short s.tasks.now s.sections.now t ok.timed ok.owned,
    )

pub loop-ticks-preserved : goal.loop-ticks-preserved
loop-ticks-preserved c =
    let s = c.args.self.now in (
      omega (arith, c.next_deadline-ticks-in-loop-ticks.ensures.past),
      fits_more s.tasks.now s.sections.now (judgeable_if_sound s.tasks.now s.sections.now s.rules) c.loop-ticks.ticks
          c.next_deadline-ticks-in-loop-ticks.result c.next_deadline-ticks-in-loop-ticks.ensures
          c.loop-ticks.invariant.1 (omega (arith, c.if-all-ticks.false, c.demand_by.ensures, c.blocking_at.ensures)),
    )
