-- The walk over the instants keeps its word, and no two answers do: so an answer that keeps it is the walk's.
use Rattle.std.proofs.Common.{◌≡◌, ℕ, zero, suc, ◌+◌, ◌<◌, ◌≤◌, true, false, eqb, ltb, List, Ok, Err, Result, sym, refl, ap, subst, ◌∙◌, inl, inr, arith, below_more}
use Rattle.std.proofs.lemmas.Bool.{cond_both, cases_lt, ltb-true, ltb-false, eqb-true, eqb-false, both_ways}
use Rattle.table.specs.declared.records.TaskRecord.{TaskRecord}
use Rattle.table.specs.declared.records.SectionRecord.{SectionRecord}
use Rattle.admission.specs.declared.refusal.Refusal.{Refusal}
use Rattle.admission.specs.declared.refusal.Refusal.TheVariants.{Records, Demand, Undecided as NotDecided}
use Rattle.admission.specs.Demand.{workload}
use Rattle.admission.specs.Sound.{sound}
use Rattle.admission.specs.Verdict.{horizon, asked, judged_from, judged, Fits, Admitted, Refused, Verdict}

module _ (tasks : List TaskRecord) (sections : List SectionRecord) (rules : sound tasks sections ≡ true) where
  -- the walk from t on, where everything before t fits and none is idle
  walk : (left t : ℕ) → left + t ≡ 1048577 → 1 ≤ t → ((u : ℕ) → u < t → 1 ≤ u → Fits tasks sections u) → ((u : ℕ) → u < t → 1 ≤ u → workload tasks u ≡ u → ⊥) → Verdict tasks sections (judged_from tasks sections left t)
  walk zero t e p fits busy = record {
    rules = rules;
    fits = λ u q h. fits u (omega arith) q;
    busy = λ i is. elim (cases_lt 1048576 i) [ inl gt ↦ gt | inr le ↦ absurd (busy i (omega arith) is.positive is.idle) ];
  }
  walk (suc left) t e p fits busy =
      cond_both (ltb t (asked tasks sections t)) _ _ (Verdict tasks sections)
      (λ over. record {
        rules = rules;
        positive = p;
        within = omega arith;
        value = refl;
        over = ltb-true t (asked tasks sections t) over;
        before = λ u q h. fits u h q;
        until = λ i is. elim (cases_lt i t) [ inl lt ↦ absurd (busy i lt is.positive is.idle) | inr ge ↦ ge ];
      })
      (λ under.
      let here : Fits tasks sections t = ltb-false t (asked tasks sections t) under in
      let more = below_more (λ u. 1 ≤ u → Fits tasks sections u) t fits (λ _. here) in
      cond_both (eqb (workload tasks t) t) _ _ (Verdict tasks sections)
      (λ idle. record {
        rules = rules;
        until = record {
          positive = p;
          idle = eqb-true (workload tasks t) t idle;
          least = λ u q is. elim (cases_lt u t) [ inl lt ↦ absurd (busy u lt q is) | inr ge ↦ ge ];
        };
        within = omega arith;
        fits = λ u q h. more u (omega arith) q;
      })
      (λ not. walk left (t + 1) (omega arith) (omega arith) more
      (below_more (λ u. 1 ≤ u → workload tasks u ≡ u → ⊥) t busy (λ _. eqb-false (workload tasks t) t not))))

  same : (r q : Result ℕ Refusal) → Verdict tasks sections r → Verdict tasks sections q → r ≡ q
  same (Ok i) (Ok j) a b =
      ap Ok (omega (arith, a.until.least j b.until.positive b.until.idle, b.until.least i a.until.positive a.until.idle))
  same (Ok i) (Err Records) a b = absurd (both_ways _ b rules)
  same (Ok i) (Err (Demand t x)) a b = absurd (omega (arith, a.fits t b.positive (b.until i a.until), b.value, b.over))
  same (Ok i) (Err NotDecided) a b = absurd (omega (arith, a.within, b.busy i a.until))
  same (Err Records) q a b = absurd (both_ways _ a rules)
  same (Err (Demand t x)) (Ok i) a b = absurd (omega (arith, b.fits t a.positive (a.until i b.until), a.value, a.over))
  same (Err (Demand t x)) (Err Records) a b = absurd (both_ways _ b rules)
  same (Err (Demand t x)) (Err (Demand u y)) a b =
      let ge : u ≤ t = elim (cases_lt t u) [ inl lt ↦ absurd (omega (arith, b.before t a.positive lt, a.value, a.over)) | inr le ↦ le ] in
      let le : t ≤ u = elim (cases_lt u t) [ inl lt ↦ absurd (omega (arith, a.before u b.positive lt, b.value, b.over)) | inr h ↦ h ] in
      let at : t ≡ u = omega arith in
      let of = a.value ∙ ap (asked tasks sections) at ∙ sym b.value in
      ap (λ n. Err (Demand n x)) at ∙ ap (λ n. Err (Demand u n)) of
  same (Err (Demand t x)) (Err NotDecided) a b = absurd (omega (arith, b.fits t a.positive a.within, a.value, a.over))
  same (Err NotDecided) (Ok i) a b = absurd (omega (arith, b.within, a.busy i b.until))
  same (Err NotDecided) (Err Records) a b = absurd (both_ways _ b rules)
  same (Err NotDecided) (Err (Demand t x)) a b = absurd (omega (arith, a.fits t b.positive b.within, b.value, b.over))
  same (Err NotDecided) (Err NotDecided) a b = refl

  walk_all : (n : ℕ) → n ≡ 1048576 → Verdict tasks sections (judged_from tasks sections n 1)
  walk_all n e = walk n 1 (omega arith) (omega arith) (λ u h p. absurd (omega arith)) (λ u h p is. omega arith)

  -- an answer that keeps the verdict's word is the walk's
  is_walk : (r : Result ℕ Refusal) → Verdict tasks sections r → r ≡ judged_from tasks sections horizon 1
  is_walk r v = same r (judged_from tasks sections horizon 1) v (walk_all horizon refl)

unsound : (tasks : List TaskRecord) (sections : List SectionRecord) (r : Result ℕ Refusal) → sound tasks sections ≡ false → Verdict tasks sections r → r ≡ Err Records
unsound tasks sections (Ok i) e v = absurd (both_ways _ e v.rules)
unsound tasks sections (Err Records) e v = refl
unsound tasks sections (Err (Demand t x)) e v = absurd (both_ways _ e v.rules)
unsound tasks sections (Err NotDecided) e v = absurd (both_ways _ e v.rules)

-- an answer that keeps the verdict's word is the verdict, whether or not the records are sound
pub is_judged : (tasks : List TaskRecord) (sections : List SectionRecord) (r : Result ℕ Refusal) → Verdict tasks sections r → r ≡ judged tasks sections
unfolding judged
is_judged tasks sections r v =
    cond_both (sound tasks sections) (judged_from tasks sections horizon 1) (Err Records) (λ z. r ≡ z) (λ is. is_walk tasks sections is r v) (λ not. unsound tasks sections r not v)

-- what is said of some records is said of the same ones
module _ (tasks others : List TaskRecord) (sections more : List SectionRecord) (alike : (others ≡ tasks) × (more ≡ sections)) where
  pub admitted_as : (idle : ℕ) → Admitted others more idle → Admitted tasks sections idle
  admitted_as idle v = subst (λ l. Admitted l sections idle) alike.0 (subst (λ l. Admitted others l idle) alike.1 v)

  pub refused_as : (why : Refusal) → Refused others more why → Refused tasks sections why
  refused_as why v = subst (λ l. Refused l sections why) alike.0 (subst (λ l. Refused others l why) alike.1 v)
