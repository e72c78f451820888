-- Beyond the idle instant: what fits up to it fits for ever.
use Rattle.std.proofs.Common.{◌≡◌, ℕ, zero, suc, ◌-◌, ◌<◌, ◌≤◌, true, List, sym, ap, ◌∙◌, inl, inr, arith}
use Rattle.std.specs.Option.{option_map}
use Rattle.std.proofs.ByRecursion.{All-weaker}
use Rattle.std.proofs.lemmas.Bool.{cases_lt, and_parts, ltb-true}
use Rattle.table.specs.declared.records.TaskRecord.{TaskRecord}
use Rattle.table.specs.declared.records.SectionRecord.{SectionRecord}
use Rattle.table.specs.Level.{deadline_of}
use Rattle.admission.specs.Demand.{demand, reaches, later, blocks}
use Rattle.admission.specs.Facts.{Judgeable, Owned}
use Rattle.admission.specs.Verdict.{Fits, Admitted, FitsEver}
use Rattle.admission.proofs.SoundFacts.{judgeable_if_sound}
use Rattle.admission.proofs.Several.{demand_idle, demand_idle_spare}
use Rattle.admission.proofs.Blocked.{blocking_le}

-- a section that blocks belongs to a task that is not yet due
blocks_far : (tasks : List TaskRecord) (s : SectionRecord) (t : ℕ) (own : Owned tasks s) → blocks tasks s t ≡ true → t < own.owner.deadline
blocks_far tasks s t own e =
    let p = and_parts (reaches s.level t) (later (deadline_of tasks s.task) t) e in
    let d = ap (λ o. later (option_map (λ (k : TaskRecord). k.deadline) o) t) own.found in
    ltb-true t own.owner.deadline (sym d ∙ p.1)

module _ (tasks : List TaskRecord) (sections : List SectionRecord) (ok : Judgeable tasks sections) (idle : ℕ) (ad : Admitted tasks sections idle) where
  demand_ever : (n t : ℕ) → t ≤ n → 1 ≤ t → demand tasks t ≤ t
  demand_ever zero t h p = omega arith
  demand_ever (suc n) t h p =
      elim (cases_lt idle t) [
        | inr le ↦ omega (arith, ad.fits t p le)
        | inl gt ↦ omega (arith, demand_idle tasks t idle (omega arith) ok.timed, demand_ever n (t - idle) (omega (arith, ad.until.positive)) (omega arith), ad.until.idle)
      ]

  section_ever : (t : ℕ) → idle < t → (s : SectionRecord) → Owned tasks s → blocks tasks s t ≡ true → s.length ≤ t - demand tasks t
  section_ever t gt s own e =
      omega (
        arith,
        own.short,
        ad.until.idle,
        demand_ever (t - idle) (t - idle) (omega arith) (omega arith),
        demand_idle_spare tasks t idle s.task own.owner ad.until.positive (omega arith) own.found (blocks_far tasks s t own e) ok.timed,
      )

  fits_at : (t : ℕ) → 1 ≤ t → Fits tasks sections t
  fits_at t p =
      elim (cases_lt idle t) [
        | inr le ↦ ad.fits t p le
        | inl gt ↦ omega (
          arith,
          demand_ever t t (omega arith) p,
          blocking_le tasks sections t (t - demand tasks t) (All-weaker (Owned tasks) (λ s. blocks tasks s t ≡ true → s.length ≤ t - demand tasks t) (section_ever t gt) sections ok.owned),
        )
      ]

pub fits_ever : (tasks : List TaskRecord) (sections : List SectionRecord) (idle : ℕ) → Admitted tasks sections idle → FitsEver tasks sections
fits_ever tasks sections idle ad = fits_at tasks sections (judgeable_if_sound tasks sections ad.rules) idle ad
