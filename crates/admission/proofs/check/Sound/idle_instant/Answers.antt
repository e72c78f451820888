use Rattle.std.proofs.Common.{ℕ, ◌≤◌, arith}
use Rattle.admission.specs.Demand.{workload}
use Rattle.admission.proofs.SoundFacts.{judgeable_if_sound}
use Rattle.admission.proofs.Several.{workload_mono, workload_pos}
use Rattle.admission.proofs.check.Sound.idle_instant.Goals as goal

pub loop-ticks-init : goal.loop-ticks-init
loop-ticks-init c =
    let s = c.args.self.now in
    let ok = judgeable_if_sound s.tasks.now s.sections.now s.rules in
    (omega arith, workload_pos s.tasks.now ok.any ok.timed, λ u p is. p)

pub loop-ticks-preserved : goal.loop-ticks-preserved
loop-ticks-preserved c =
    let s = c.args.self.now in
    let ok = judgeable_if_sound s.tasks.now s.sections.now s.rules in
    let t = c.loop-ticks.ticks in
    let mono : (u : ℕ) → t ≤ u → workload s.tasks.now t ≤ workload s.tasks.now u = λ u h. workload_mono s.tasks.now t u h ok.timed in (
      omega (arith, c.loop-ticks.invariant.0, c.loop-ticks.invariant.1, c.workload_by-work.ensures),
      omega (arith, c.workload_by-work.ensures, mono c.workload_by-work.result (omega (arith, c.loop-ticks.invariant.1, c.workload_by-work.ensures))),
      λ u p is. omega (arith, c.workload_by-work.ensures, is, mono u (c.loop-ticks.invariant.2 u p is)),
    )
