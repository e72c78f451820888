-- The law of an admitted run: up to each instant, what is still asked for fits, along with what is left of a blocking section.
use Rattle.std.proofs.Common.{◌≡◌, ℕ, ◌+◌, ◌-◌, ◌<◌, ◌≤◌, Bool, true, false, ◌||◌, ◌⊎◌, List, [], ◌∷◌, Some, None, Option, refl, inl, inr, arith, if◌then◌else◌, nat_lt, nat_le}
use Rattle.std.specs.List.{AllByRecursion}
use Rattle.std.proofs.lemmas.Bool.{false≢true}
use Rattle.std.proofs.lemmas.Bool.Decides.{nat_tests}
use Rattle.queue.specs.declared.waiting.Waiting.{Waiting}
use Rattle.queue.specs.declared.released.Released.{Released}
use Rattle.admission.specs.Demand.{reaches}
use Rattle.machine.specs.State.{Table, Open, Job, relative, period, cost, section_at, or_lower, lowered}
use Rattle.machine.proofs.Lists.{tot}
use Rattle.machine.proofs.Demand.{dem}

-- some open section has a level of at most L
abbrev pub low : Table → ℕ → List Open → Bool
low k L [] = false
low k L (o ∷ os) = low k L os || reaches (section_at k o.section).level L

-- what is left of the outermost such section, by the stays of the entries
abbrev pub left_in : Table → (ℕ → ℕ) → ℕ → List Open → ℕ
left_in k st L [] = 0
left_in k st L (o ∷ os) =
    if low k L os then left_in k st L os else (if reaches (section_at k o.section).level L then (section_at k o.section).length - st o.serial else 0)

-- of the topmost job with a deadline past d
abbrev pub left_past : Table → (ℕ → ℕ) → ℕ → ℕ → List Job → ℕ
left_past k st d L [] = 0
left_past k st d L (q ∷ qs) = if nat_lt d q.deadline then left_in k st L q.opened else left_past k st d L qs

-- the demand up to d of a task that waits, that is released, and that is on the stack, by the run times of the jobs
abbrev pub of_waiting : Table → ℕ → Waiting → ℕ
of_waiting k d a = dem k d a.task (a.release + relative k a.task)

abbrev pub of_released : Table → ℕ → Released → ℕ
of_released k d e = dem k d e.task e.deadline

abbrev pub of_job : Table → (ℕ → ℕ → ℕ) → ℕ → Job → ℕ
of_job k ran d q =
    (if nat_le q.deadline d then cost k q.task - ran q.task q.deadline else 0) + dem k d q.task (q.deadline + period k q.task)

-- no pending job has a deadline up to d
abbrev pub Quiet : ℕ → List Released → List Job → Type 0
Quiet d r s = AllByRecursion (λ e. d < e.deadline) r × AllByRecursion (λ q. d < q.deadline) s

-- pending jobs with deadlines up to d were released from an instant on, and all that is asked for by d fits
pub record Busy (k : Table) (ran : ℕ → ℕ → ℕ) (st : ℕ → ℕ) (d c : ℕ) (w : List Waiting) (r : List Released) (s : List Job) (from : ℕ) : Type 0 where
  pub past : from ≤ c
  pub after : AllByRecursion (λ e. e.deadline ≤ d → from + relative k e.task ≤ e.deadline) r
  pub room : c + (tot (of_waiting k d) w + tot (of_released k d) r + tot (of_job k ran d) s) + left_past k st d (d - from) s ≤ d

abbrev pub Law : Table → (ℕ → ℕ → ℕ) → (ℕ → ℕ) → ℕ → List Waiting → List Released → List Job → Type 0
Law k ran st c w r s = (d : ℕ) → c ≤ d → Quiet d r s ⊎ ((from : ℕ) × Busy k ran st d c w r s from)

-- what inherits at most x without a D of at most x has a level of at most x open
or_lower_cases : (n x L : ℕ) (o : Option ℕ) → or_lower n o ≤ x → x ≤ L → (n ≤ x) ⊎ (reaches o L ≡ true)
or_lower_cases n x L None h le = inl h
or_lower_cases n x L (Some l) h le = grind (arith, nat_tests)

module _ (k : Table) where
  pub low_from : (m x L : ℕ) (os : List Open) → lowered k m os ≤ x → x < m → x ≤ L → low k L os ≡ true
  low_from m x L [] h g l = absurd (omega arith)
  low_from m x L (o ∷ os) h g l =
      let c = or_lower_cases (lowered k m os) x L (section_at k o.section).level h l in
      let ih = λ (le : lowered k m os ≤ x). low_from m x L os le g l in
      grind arith

  left_zero : (st : ℕ → ℕ) (L : ℕ) (os : List Open) → low k L os ≡ false → left_in k st L os ≡ 0
  left_zero st L [] h = refl
  left_zero st L (o ∷ os) h = grind (arith, nat_tests)

  -- a stay goes on
  pub left_tick : (st st' : ℕ → ℕ) (δ L : ℕ) (os : List Open) → low k L os ≡ true → AllByRecursion (λ o. st' o.serial ≡ st o.serial + δ) os
      → AllByRecursion (λ o. st' o.serial ≤ (section_at k o.section).length) os → left_in k st' L os + δ ≡ left_in k st L os
  left_tick st st' δ L [] h a b = absurd (false≢true h)
  left_tick st st' δ L (o ∷ os) h a b = grind (arith, nat_tests, λ (t : low k L os ≡ true). left_tick st st' δ L os t a.1 b.1)

  left_less : (st st' : ℕ → ℕ) → ((n : ℕ) → st n ≤ st' n) → (L : ℕ) (os : List Open) → left_in k st' L os ≤ left_in k st L os
  left_less st st' m L [] = omega arith
  left_less st st' m L (o ∷ os) = let ih = left_less st st' m L os in grind (arith, nat_tests, m o.serial)

  pub past_less : (st st' : ℕ → ℕ) → ((n : ℕ) → st n ≤ st' n) → (d L : ℕ) (s : List Job) → left_past k st' d L s ≤ left_past k st d L s
  past_less st st' m d L [] = omega arith
  past_less st st' m d L (q ∷ qs) = let ih = past_less st st' m d L qs in grind (arith, nat_tests, left_less st st' m L q.opened)

  pub jobs_less : (ran ran' : ℕ → ℕ → ℕ) → ((i n : ℕ) → ran i n ≤ ran' i n) → (d : ℕ) (s : List Job) → tot (of_job k ran' d) s ≤ tot (of_job k ran d) s
  jobs_less ran ran' m d [] = omega arith
  jobs_less ran ran' m d (q ∷ qs) = let ih = jobs_less ran ran' m d qs in grind (arith, nat_tests, m q.task q.deadline)

  pub left_closed : (st : ℕ → ℕ) (L : ℕ) (o : Open) (os : List Open) → left_in k st L os ≤ left_in k st L (o ∷ os)
  left_closed st L o os = grind (arith, nat_tests, left_zero st L os)

  pub left_bound : (st : ℕ → ℕ) (L b : ℕ) (os : List Open) → AllByRecursion (λ o. reaches (section_at k o.section).level L ≡ true → (section_at k o.section).length ≤ b) os → left_in k st L os ≤ b
  left_bound st L b [] a = omega arith
  left_bound st L b (o ∷ os) a = let ih = left_bound st L b os a.1 in grind (arith, nat_tests, a.0)

  -- jobs that have run longer and stays that have gone on keep the law
  pub law_more : (ran ran' : ℕ → ℕ → ℕ) (st st' : ℕ → ℕ) → ((i n : ℕ) → ran i n ≤ ran' i n) → ((n : ℕ) → st n ≤ st' n)
      → (c : ℕ) (w : List Waiting) (r : List Released) (s : List Job) → Law k ran st c w r s → Law k ran' st' c w r s
  law_more ran ran' st st' mr ms c w r s law = λ d h.
      elim (law d h) [ inl z ↦ inl z | inr (from, b) ↦ inr (from, search (arith, jobs_less ran ran' mr d s, past_less st st' ms d (d - from) s)) ]
