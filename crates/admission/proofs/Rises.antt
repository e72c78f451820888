-- Where more is asked for than at the instant before: only at a deadline.
use Rattle.std.proofs.Common.{ℕ, zero, suc, ◌<◌, ◌≤◌, ◌⊎◌, List, subst, inl, inr, add-one, arith, below_more}
use Rattle.std.proofs.lemmas.Bool.{cases_lt}
use Rattle.table.specs.declared.records.TaskRecord.{TaskRecord}
use Rattle.table.specs.declared.records.SectionRecord.{SectionRecord}
use Rattle.admission.specs.Due.{Due, Next}
use Rattle.admission.specs.Facts.{Judgeable}
use Rattle.admission.specs.Laws.{OnlyAtDeadlines}
use Rattle.admission.specs.Verdict.{asked, Fits}
use Rattle.admission.proofs.SoundFacts.{judgeable_if_sound}
use Rattle.admission.proofs.Several.{demand_zero, demand_quiet}
use Rattle.admission.proofs.Blocked.{blocking_zero, blocking_quiet}

module _ (tasks : List TaskRecord) (sections : List SectionRecord) (ok : Judgeable tasks sections) where
  fits_zero : Fits tasks sections 0
  fits_zero = omega (arith, demand_zero tasks ok.timed, blocking_zero tasks sections ok.timed ok.leveled)

  -- what fits at one instant fits at the next, unless a task is due there
  fits_next : (t : ℕ) → Fits tasks sections t → Fits tasks sections (suc t) ⊎ Due tasks (suc t)
  fits_next t h =
      let P : ℕ → Type 0 = λ n. Fits tasks sections n ⊎ Due tasks n in
      subst P (add-one t)
      (elim (demand_quiet tasks t ok.timed) [
        | inr due ↦ inr due
        | inl same ↦ elim (blocking_quiet tasks sections t ok.leveled) [ inr due ↦ inr due | inl less ↦ inl (omega arith) ]
      ])

  -- what fits up to a fits up to b, if no task is due between
  fits_across : (a b : ℕ) → ((u : ℕ) → 1 ≤ u → u ≤ a → Fits tasks sections u) → ((u : ℕ) → a < u → Due tasks u → b ≤ u) → (u : ℕ) → u < b → Fits tasks sections u
  fits_across a b upto clear zero h = fits_zero
  fits_across a b upto clear (suc u) h =
      elim (cases_lt a (suc u)) [
        | inr le ↦ upto (suc u) (omega arith) le
        | inl gt ↦ elim (fits_next u (fits_across a b upto clear u (omega arith))) [
          | inl fits ↦ fits
          | inr due ↦ absurd (omega (arith, clear (suc u) gt due))
        ]
      ]

  -- one deadline after the other
  pub fits_first : (r : ℕ) → Next tasks 0 r → (u : ℕ) → u < r → Fits tasks sections u
  fits_first r next = fits_across 0 r (λ u p h. absurd (omega arith)) next.first

  pub fits_more : (t r : ℕ) → Next tasks t r → ((u : ℕ) → u < t → Fits tasks sections u) → Fits tasks sections t → (u : ℕ) → u < r → Fits tasks sections u
  fits_more t r next before here =
      fits_across t r (λ u p h. below_more (Fits tasks sections) t before here u (omega arith)) next.first

  first_over : (t : ℕ) → 1 ≤ t → t < asked tasks sections t → ((u : ℕ) → 1 ≤ u → u < t → Fits tasks sections u) → Due tasks t
  first_over zero p over before = absurd (omega arith)
  first_over (suc t) p over before =
      let fits : Fits tasks sections t = fits_across t (suc t) (λ u q h. before u q (omega arith)) (λ u h due. omega arith) t (omega arith) in
      elim (fits_next t fits) [ inr due ↦ due | inl next ↦ absurd (omega arith) ]

pub only_at_deadlines : OnlyAtDeadlines
only_at_deadlines tasks sections ok = first_over tasks sections (judgeable_if_sound tasks sections ok)
