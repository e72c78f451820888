-- Several tasks: what they ask for together, and when one of them is due.
use Rattle.std.proofs.Common.{true, map, fold, sum_by, sym, ◌≡◌, ℕ, zero, suc, ◌+◌, ◌-◌, ◌*◌, ◌<◌, ◌≤◌, min, ◌⊎◌, List, [], ◌∷◌, length, get_or, drop, Some, refl, ap, subst, inl, inr, arith}
use Rattle.std.specs.List.{AllByRecursion, slice_get, reduce}
use Rattle.std.proofs.ByRecursion.{All-get_or}
use Rattle.std.proofs.lemmas.List.{at_drop_more}
use Rattle.std.proofs.lemmas.List.Recursion.{is_sum_by}
use Rattle.std.proofs.lemmas.List.Sums.{sum_by-cons}
use Rattle.std.proofs.lemmas.Option.{get_or_from_slice_get, slice_get_within}
use Rattle.admission.specs.Sound.{sound}
use Rattle.table.specs.declared.records.SectionRecord.{SectionRecord}
use Rattle.admission.proofs.SoundFacts.{judgeable_if_sound}
use Rattle.std.proofs.lemmas.Bool.{cases_lt}
use Rattle.table.specs.declared.records.TaskRecord.{TaskRecord}
use Rattle.table.specs.Level.{deadline_of}
use Rattle.admission.specs.Demand.{demand_of, workload_of, demand, workload}
use Rattle.admission.specs.Due.{DueOf, Due, Next}
use Rattle.admission.specs.Facts.{Timed}
use Rattle.admission.proofs.Single.{due_after, due_after_next, workload_of_mono, cost_le_workload_of, demand_of_none, demand_of_idle, demand_of_quiet}

-- what stands past the end of a slice of tasks
abbrev pub no_task_lem : TaskRecord
no_task_lem = record { name = record { first = 0; count = 0 }; deadline = 0; period = 0; cost = 0; sections = record { first = 0; count = 0 } }

-- one more task
pub demand_more : (ks : List TaskRecord) (i t : ℕ) → i < length ks → demand (drop i ks) t ≡ demand_of (get_or ks i no_task_lem) t + demand (drop (i + 1) ks) t
demand_more ks i t h = at_drop_more (λ l. demand l t) ks i no_task_lem h

-- demand and workload as sums of std
pub demand_is : (ks : List TaskRecord) (t : ℕ) → demand ks t ≡ sum_by (λ k. demand_of k t) ks
demand_is ks t = is_sum_by (λ l. demand l t) (λ k. demand_of k t) refl (λ _ _. refl) ks

pub workload_is : (ks : List TaskRecord) (t : ℕ) → workload ks t ≡ sum_by (λ k. workload_of k t) ks
workload_is ks t = is_sum_by (λ l. workload l t) (λ k. workload_of k t) refl (λ _ _. refl) ks

-- a sum over tasks each of which asks for no more than the time up to an instant and its period
module _ (f : TaskRecord → ℕ) (t : ℕ) (near : t ≤ 1048576) (le : (k : TaskRecord) → Timed k → f k ≤ t + k.period) where
  pub sum_le : (ks : List TaskRecord) → AllByRecursion Timed ks → sum_by f ks ≤ length ks * 2097152
  sum_le [] a = omega arith
  sum_le (k ∷ ks) a = omega (arith, sum_by-cons f k ks, le k a.0, a.0.near, sum_le ks a.1)

  pub sum_fits : (ks : List TaskRecord) (ss : List SectionRecord) → sound ks ss ≡ true → sum_by f ks < 4294967296
  sum_fits ks ss ok =
      let all = judgeable_if_sound ks ss ok in
      omega (arith, sum_le ks all.timed, all.few)

pub workload_mono : (ks : List TaskRecord) (t u : ℕ) → t ≤ u → AllByRecursion Timed ks → workload ks t ≤ workload ks u
workload_mono [] t u h a = omega arith
workload_mono (k ∷ ks) t u h a = omega (arith, workload_of_mono k a.0 t u h, workload_mono ks t u h a.1)

pub workload_pos : (ks : List TaskRecord) → 1 ≤ length ks → AllByRecursion Timed ks → 1 ≤ workload ks 1
workload_pos [] h a = absurd (omega arith)
workload_pos (k ∷ ks) h a = omega (arith, a.0.works, cost_le_workload_of k a.0 1 (omega arith))

pub demand_zero : (ks : List TaskRecord) → AllByRecursion Timed ks → demand ks 0 ≡ 0
demand_zero [] a = refl
demand_zero (k ∷ ks) a = omega (arith, demand_of_none k a.0 0 (omega (arith, a.0.works, a.0.early)), demand_zero ks a.1)

pub demand_idle : (ks : List TaskRecord) (l i : ℕ) → i ≤ l → AllByRecursion Timed ks → demand ks l ≤ workload ks i + demand ks (l - i)
demand_idle [] l i h a = omega arith
demand_idle (k ∷ ks) l i h a = omega (arith, demand_of_idle k a.0 l i h, demand_idle ks l i h a.1)

-- a task that is not yet due asks for nothing, and takes its C off the work up to the idle instant
pub demand_idle_spare : (ks : List TaskRecord) (l i n : ℕ) (k : TaskRecord) → 1 ≤ i → i ≤ l → slice_get ks n ≡ Some k → l < k.deadline → AllByRecursion Timed ks → demand ks l + k.cost ≤ workload ks i + demand ks (l - i)
demand_idle_spare [] l i n k p h e far a = let z : ◌≡◌ {A = ℕ} 0 1 = cc in omega arith
demand_idle_spare (x ∷ xs) l i zero k p h e far a =
    let same : x ≡ k = cc in
    let sooner : l < x.deadline = omega (arith, ap (λ (y : TaskRecord). y.deadline) same) in
    omega (arith, ap (λ (y : TaskRecord). y.cost) same, demand_of_none x a.0 l sooner, cost_le_workload_of x a.0 i p, demand_idle xs l i h a.1)
demand_idle_spare (x ∷ xs) l i (suc n) k p h e far a = omega (arith, demand_of_idle x a.0 l i h, demand_idle_spare xs l i n k p h e far a.1)

-- from one instant to the next no more is asked for, unless a task is due
pub demand_quiet : (ks : List TaskRecord) (t : ℕ) → AllByRecursion Timed ks → (demand ks (t + 1) ≡ demand ks t) ⊎ Due ks (t + 1)
demand_quiet [] t a = inl refl
demand_quiet (k ∷ ks) t a =
    elim (demand_of_quiet k a.0 t) [
      | inr due ↦ inr (inl due)
      | inl same ↦ elim (demand_quiet ks t a.1) [ inr due ↦ inr (inr due) | inl more ↦ inl (omega arith) ]
    ]

pub due_pos : (ks : List TaskRecord) (t : ℕ) → AllByRecursion Timed ks → Due ks t → 1 ≤ t
due_pos [] t a d = absurd d
due_pos (k ∷ ks) t a (inl d) = omega (arith, a.0.works, a.0.early, d.1)
due_pos (k ∷ ks) t a (inr d) = due_pos ks t a.1 d

-- a relative deadline is a deadline
pub relative_due : (ks : List TaskRecord) (i t : ℕ) → deadline_of ks i ≡ Some t → Due ks t
relative_due [] i t e = let z : ◌≡◌ {A = ℕ} 0 1 = cc in omega arith
relative_due (k ∷ ks) zero t e = let same : k.deadline ≡ t = cc in inl (0, omega arith)
relative_due (k ∷ ks) (suc i) t e = inr (relative_due ks i t e)

-- the first deadlines of the tasks past t, and the least of them
module _ (t : ℕ) where
  abbrev pub deadlines : List TaskRecord → List ℕ
  deadlines ks = map (λ k. due_after k t) ks

  -- r is m or the first deadline of the tasks past t, whichever comes first
  record Least (ks : List TaskRecord) (m r : ℕ) : Type 0 where
    upto : r ≤ m
    past : t < m → t < r
    due : (r ≡ m) ⊎ Due ks r
    first : (u : ℕ) → t < u → Due ks u → r ≤ u

  least : (ks : List TaskRecord) (m : ℕ) → AllByRecursion Timed ks → Least ks m (fold min m (deadlines ks))
  least [] m a = record { upto = omega arith; past = λ h. h; due = inl refl; first = λ u h d. absurd d }
  least (k ∷ ks) m a =
      let next = due_after_next k a.0 t in
      let rest = least ks (min m (due_after k t)) a.1 in
      record {
        upto = omega (arith, rest.upto);
        past = λ h. rest.past (omega (arith, next.past));
        due = elim rest.due [
          | inr d ↦ inr (inr d)
          | inl e ↦ elim (cases_lt m (due_after k t)) [
            | inl lt ↦ inl (omega arith)
            | inr ge ↦ let is : due_after k t ≡ fold min (min m (due_after k t)) (deadlines ks) = omega arith in inr (inl (subst (DueOf k) is next.due))
          ]
        ];
        first = λ u h d. elim d [ inl own ↦ omega (arith, rest.upto, next.first u h own) | inr d ↦ rest.first u h d ];
      }

  pub next_of : (ks : List TaskRecord) (r : ℕ) → AllByRecursion Timed ks → reduce min (deadlines ks) ≡ Some r → Next ks t r
  next_of [] r a e = let z : ◌≡◌ {A = ℕ} 0 1 = cc in absurd (omega arith)
  next_of (k ∷ ks) r a e =
      let next = due_after_next k a.0 t in
      let rest = least ks (due_after k t) a.1 in
      let is : fold min (due_after k t) (deadlines ks) ≡ r = cc in
      subst (Next (k ∷ ks) t) is (record {
        past = rest.past next.past;
        due = elim rest.due [ inr d ↦ inr d | inl e ↦ inl (subst (DueOf k) (sym e) next.due) ];
        first = λ u h d. elim d [ inl own ↦ omega (arith, rest.upto, next.first u h own) | inr d ↦ rest.first u h d ];
      })

  pub next_some : (ks : List TaskRecord) → 1 ≤ length ks → (r : ℕ) × (reduce min (deadlines ks) ≡ Some r)
  next_some [] h = absurd (omega arith)
  next_some (k ∷ ks) h = (fold min (due_after k t) (deadlines ks), refl)

pub nth_all : {X : Type 0} (P : X → Type 0) (xs : List X) (i : ℕ) (x : X) → slice_get xs i ≡ Some x → AllByRecursion P xs → P x
nth_all P xs i x e a = subst P (get_or_from_slice_get xs i x x e) (All-get_or P xs i x (slice_get_within xs i x e) a)

-- each task of records that break no rule
pub timed_at :
    (ks : List TaskRecord) (ss : List SectionRecord) → sound ks ss ≡ true
    → (k : TaskRecord) (i : ℕ) → i < length ks → k ≡ get_or ks i k → Timed k
timed_at ks ss ok k i h is =
    subst Timed (sym is) (All-get_or Timed ks i k h (judgeable_if_sound ks ss ok).timed)
