-- The shape of a state: what holds of clock, lists and stack whatever the jobs do with their time.
use Rattle.std.proofs.Common.{◌≡◌, ℕ, zero, suc, ◌+◌, ◌<◌, ◌≤◌, false, List, [], ◌∷◌, length, Some, None, Option, refl, arith, if◌then◌else◌, nat_lt}
use Rattle.std.specs.List.{AllByRecursion}
use Rattle.std.proofs.lemmas.Bool.Decides.{nat_tests}
use Rattle.queue.specs.declared.waiting.Waiting.{Waiting}
use Rattle.queue.specs.declared.released.Released.{Released}
use Rattle.queue.specs.Entries.{waiting_before, released_before}
use Rattle.machine.specs.State.{Table, Open, Job, relative, section_at, or_lower, lowered, inherited, first_releases}
use Rattle.machine.specs.Step.{goes}
use Rattle.machine.proofs.Lists.{tot, Sorted, Rising, By, none_tot, all_map}

-- a released entry: its D is its task's, and the clock is between its release and its deadline
pub record EntryOk (k : Table) (c : ℕ) (e : Released) : Type 0 where
  pub own : e.relative ≡ relative k e.task
  pub base : relative k e.task ≤ e.deadline
  pub begun : e.deadline ≤ c + relative k e.task
  pub live : c ≤ e.deadline

-- a job on the stack, likewise; its open sections are its task's
pub record JobOk (k : Table) (c : ℕ) (q : Job) : Type 0 where
  pub base : relative k q.task ≤ q.deadline
  pub begun : q.deadline ≤ c + relative k q.task
  pub live : c ≤ q.deadline
  pub held : AllByRecursion (λ o. (o.section < length k.sections) × ((section_at k o.section).task ≡ q.task)) q.opened

-- below each job, every inherited deadline exceeds its D
abbrev pub Nested : Table → List Job → Type 0
Nested k [] = Unit {0}
Nested k (j ∷ ls) = AllByRecursion (λ l. relative k j.task < inherited k l) ls × Nested k ls

-- a released entry that is more urgent than a job has a smaller D
abbrev pub Inward : Table → List Released → Job → Type 0
Inward k r q = AllByRecursion (λ e. e.deadline < q.deadline → relative k e.task < relative k q.task) r

-- each task of the table is in one of the lists: whatever is summed up over the lists is the sum over the table
abbrev pub Once : Table → List Waiting → List Released → List Job → Type 0
Once k w r s = (g : ℕ → ℕ) → tot (λ a. g a.task) w + tot (λ e. g e.task) r + tot (λ q. g q.task) s ≡ tot (λ (a : Waiting). g a.task) (first_releases 0 (length k.tasks))

pub record Shape (k : Table) (c : ℕ) (w : List Waiting) (r : List Released) (s : List Job) : Type 0 where
  pub waits : AllByRecursion (λ a. c ≤ a.release) w
  pub by_release : Sorted (λ a. a.release) w
  pub readies : AllByRecursion (EntryOk k c) r
  pub by_deadline : Sorted (λ e. e.deadline) r
  pub jobs : AllByRecursion (JobOk k c) s
  pub rising : Rising (λ q. q.deadline) s
  pub nested : Nested k s
  pub inward : AllByRecursion (Inward k r) s
  pub once : Once k w r s

-- between calls: the first released task may not be pushed
abbrev pub Settled : Table → List Released → List Job → Type 0
Settled k [] s = Unit {0}
Settled k (e ∷ es) s = goes k e s ≡ false

-- an inherited deadline is at most the D
pub or_lower_le : (n : ℕ) (o : Option ℕ) → or_lower n o ≤ n
or_lower_le n None = omega arith
or_lower_le n (Some l) = omega arith

pub lowered_le : (k : Table) (d : ℕ) (os : List Open) → lowered k d os ≤ d
lowered_le k d [] = omega arith
lowered_le k d (o ∷ os) = omega (arith, lowered_le k d os, or_lower_le (lowered k d os) (section_at k o.section).level)

-- where the first released task may not be pushed, its D is at least what a less urgent running task inherits
pub held_back : (k : Table) (e : Released) (q : Job) (qs : List Job) → goes k e (q ∷ qs) ≡ false → e.deadline < q.deadline → inherited k q ≤ e.relative
held_back k e q qs st lt = grind (arith, nat_tests)

module _ (k : Table) where
  -- each task in the lists is one of the table's: 1 for each number past them sums up to 0
  past : ℕ → ℕ
  past i = if nat_lt i (length k.tasks) then 0 else 1

  within : (i : ℕ) → past i ≡ 0 → i < length k.tasks
  unfolding past
  within i e = grind (arith, nat_tests)

  none_past : (n i : ℕ) → i + n ≤ length k.tasks → tot (λ (a : Waiting). past a.task) (first_releases i n) ≡ 0
  unfolding past
  none_past zero i h = refl
  none_past (suc n) i h = let ih = none_past n (i + 1) (omega arith) in grind (arith, nat_tests)

  pub known : (c : ℕ) (w : List Waiting) (r : List Released) (s : List Job) → Shape k c w r s
      → AllByRecursion (λ a. a.task < length k.tasks) w × AllByRecursion (λ e. e.task < length k.tasks) r × AllByRecursion (λ q. q.task < length k.tasks) s
  known c w r s i =
      let z = none_past (length k.tasks) 0 (omega arith) in
      let o = i.once past in (
        all_map _ _ (λ a e. within a.task e) w (none_tot (λ a. past a.task) w (omega arith)),
        all_map _ _ (λ a e. within a.task e) r (none_tot (λ a. past a.task) r (omega arith)),
        all_map _ _ (λ q e. within q.task e) s (none_tot (λ q. past q.task) s (omega arith)),
      )

pub by_waiting : By waiting_before (λ a. a.release)
by_waiting a b = grind (arith, nat_tests)

pub by_released : By released_before (λ e. e.deadline)
by_released a b = grind (arith, nat_tests)
