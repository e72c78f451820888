-- Blocking: the longest section that can hold up jobs due by an instant.
use Rattle.std.proofs.Common.{fold, map, filter, unwrap_or, ◌≡◌, ℕ, ◌+◌, ◌≤◌, max, true, false, cond, ◌⊎◌, List, [], ◌∷◌, Some, None, Option, refl, ap, ◌∙◌, inl, inr, arith}
use Rattle.std.specs.List.{AllByRecursion, reduce}
use Rattle.std.proofs.ByRecursion.{All-weaker}
use Rattle.std.proofs.lemmas.Bool.{cond_both, cond-true, cond-false, cases_lt, le-leb, lt-leb, leb-true, lt-ltb, ltb-true, and_parts, and_from, and_left}
use Rattle.table.specs.declared.records.TaskRecord.{TaskRecord}
use Rattle.table.specs.declared.records.SectionRecord.{SectionRecord}
use Rattle.table.specs.Level.{deadline_of}
use Rattle.admission.specs.Demand.{reaches, later, blocks, blocking}
use Rattle.admission.specs.Due.{Due}
use Rattle.admission.specs.Facts.{Timed, Owned, LevelOf, Leveled}
use Rattle.admission.proofs.Several.{relative_due, due_pos, nth_all}

-- the lengths of the sections that can block, and the greatest of them
abbrev pub lengths_of : List TaskRecord → ℕ → List SectionRecord → List ℕ
lengths_of tasks t ss = map (λ (s : SectionRecord). s.length) (filter (λ s. blocks tasks s t) ss)

greatest : (tasks : List TaskRecord) (t : ℕ) (ss : List SectionRecord) (m : ℕ) → fold max m (lengths_of tasks t ss) ≡ max m (blocking tasks ss t)
greatest tasks t [] m = omega arith
greatest tasks t (s ∷ ss) m =
    elim (blocks tasks s t) as (λ b. fold max m (map (λ (s : SectionRecord). s.length) (cond b (s ∷ filter (λ s. blocks tasks s t) ss) (filter (λ s. blocks tasks s t) ss))) ≡ max m (max (cond b s.length 0) (blocking tasks ss t))) [
      | true ↦ omega (arith, greatest tasks t ss (max m s.length))
      | false ↦ omega (arith, greatest tasks t ss m)
    ]

pub blocking_is : (tasks : List TaskRecord) (t : ℕ) (ss : List SectionRecord) → unwrap_or (reduce max (lengths_of tasks t ss)) 0 ≡ blocking tasks ss t
blocking_is tasks t [] = refl
blocking_is tasks t (s ∷ ss) =
    elim (blocks tasks s t) as (λ b. unwrap_or (reduce max (map (λ (s : SectionRecord). s.length) (cond b (s ∷ filter (λ s. blocks tasks s t) ss) (filter (λ s. blocks tasks s t) ss)))) 0 ≡ max (cond b s.length 0) (blocking tasks ss t)) [
      | true ↦ greatest tasks t ss s.length
      | false ↦ omega (arith, blocking_is tasks t ss)
    ]

-- it is at most b where each section that can block is

pub blocking_le : (tasks : List TaskRecord) (ss : List SectionRecord) (t b : ℕ) → AllByRecursion (λ s. blocks tasks s t ≡ true → s.length ≤ b) ss → blocking tasks ss t ≤ b
blocking_le tasks [] t b a = omega arith
blocking_le tasks (s ∷ ss) t b a =
    let one : cond (blocks tasks s t) s.length 0 ≤ b = cond_both (blocks tasks s t) s.length 0 (λ n. n ≤ b) a.0 (λ e. omega arith) in
    omega (arith, blocking_le tasks ss t b a.1)

later_before : (o : Option ℕ) (t : ℕ) → later o (t + 1) ≡ true → later o t ≡ true
later_before None t e = e
later_before (Some d) t e = lt-ltb t d (omega (arith, ltb-true (t + 1) d e))

module _ (tasks : List TaskRecord) where
  -- from one instant to the next no more levels are reached, unless a task is due
  reaches_quiet : (o : Option ℕ) (t : ℕ) → LevelOf tasks o → (reaches o (t + 1) ≡ true → reaches o t ≡ true) ⊎ Due tasks (t + 1)
  reaches_quiet None t at = inl (λ e. e)
  reaches_quiet (Some l) t at =
      elim (cases_lt l (t + 1)) [
        | inl lt ↦ inl (λ e. le-leb l t (omega arith))
        | inr ge ↦ elim (cases_lt (t + 1) l) [
          | inl gt ↦ inl (λ e. absurd (omega (arith, leb-true l (t + 1) e)))
          | inr le ↦ let is : l ≡ t + 1 = omega arith in inr (relative_due tasks at.0 (t + 1) (at.1 ∙ ap Some is))
        ]
      ]

  reaches_zero : (o : Option ℕ) → AllByRecursion Timed tasks → LevelOf tasks o → reaches o 0 ≡ false
  reaches_zero None timed at = refl
  reaches_zero (Some l) timed at = lt-leb l 0 (due_pos tasks l timed (relative_due tasks at.0 l at.1))

  length-quiet : (s : SectionRecord) (t : ℕ) → Leveled tasks s → (cond (blocks tasks s (t + 1)) s.length 0 ≤ cond (blocks tasks s t) s.length 0) ⊎ Due tasks (t + 1)
  length-quiet s t at =
      elim (reaches_quiet s.level t at) [
        | inr due ↦ inr due
        | inl back ↦ inl (cond_both (blocks tasks s (t + 1)) s.length 0 (λ n. n ≤ cond (blocks tasks s t) s.length 0)
            (λ e.
            let p = and_parts (reaches s.level (t + 1)) (later (deadline_of tasks s.task) (t + 1)) e in
            let both = and_from (reaches s.level t) (later (deadline_of tasks s.task) t) (back p.0) (later_before (deadline_of tasks s.task) t p.1) in
            omega (arith, cond-true (blocks tasks s t) s.length 0 both))
            (λ e. omega arith))
      ]

  pub blocking_quiet : (ss : List SectionRecord) (t : ℕ) → AllByRecursion (Leveled tasks) ss → (blocking tasks ss (t + 1) ≤ blocking tasks ss t) ⊎ Due tasks (t + 1)
  blocking_quiet [] t a = inl (omega arith)
  blocking_quiet (s ∷ ss) t a =
      elim (length-quiet s t a.0) [
        | inr due ↦ inr due
        | inl one ↦ elim (blocking_quiet ss t a.1) [ inr due ↦ inr due | inl more ↦ inl (omega arith) ]
      ]

  pub blocking_zero : (ss : List SectionRecord) → AllByRecursion Timed tasks → AllByRecursion (Leveled tasks) ss → blocking tasks ss 0 ≡ 0
  blocking_zero [] timed a = refl
  blocking_zero (s ∷ ss) timed a =
      let none = and_left (reaches s.level 0) (later (deadline_of tasks s.task) 0) (reaches_zero s.level timed a.0) in
      omega (arith, cond-false (blocks tasks s 0) s.length 0 none, blocking_zero ss timed a.1)

  pub blocking_short : (ss : List SectionRecord) (t : ℕ) → AllByRecursion Timed tasks → AllByRecursion (Owned tasks) ss → blocking tasks ss t ≤ 1048576
  blocking_short ss t timed a =
      blocking_le tasks ss t 1048576 (All-weaker (Owned tasks) (λ s. blocks tasks s t ≡ true → s.length ≤ 1048576)
      (λ s own e. let k = nth_all Timed tasks s.task own.owner own.found timed in omega (arith, own.short, k.early, k.cyclic, k.near)) ss a)
