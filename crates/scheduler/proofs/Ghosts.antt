-- What holds of the core's own fields is kept by each of its inner moves.
use Rattle.std.proofs.Common.{◌≡◌, ℕ, ◌+◌, ◌-◌, ◌<◌, ◌≤◌, true, false, ◌≢◌, List, [], length, slice_index_or, slice_set, sym, refl, ap, ◌∙◌, inl, inr, arith, length-set}
use Rattle.std.proofs.lemmas.Bool.{cases_eq}
use Rattle.std.proofs.lemmas.Bool.Decides.{nat_tests}
use Rattle.std.proofs.lemmas.List.{get_or-set_same, get_or-set_other}
use Rattle.table.specs.Limits.{most_tasks}
use Rattle.machine.specs.Step.{most_entries}
use Rattle.machine.specs.Promise.{open_count}
use Rattle.scheduler.specs.declared.records.Records.{Records}
use Rattle.scheduler.specs.declared.stack.StackRecord.{StackRecord}
use Rattle.scheduler.specs.declared.stack.Spot.{Spot}
use Rattle.scheduler.specs.declared.stack.Spot.TheVariants.{Waiting, Released, Stacked}
use Rattle.scheduler.specs.declared.question.Counts.{Counts}
use Rattle.scheduler.specs.declared.stack.Inner.{Inner}
use Rattle.scheduler.specs.View.{table_of, opens_of, jobs_of}
use Rattle.scheduler.specs.Steady.{Placed, Balanced, Steady, no_record, job_at, spot_at, stands_at, stood_by, latest, chained}
use Rattle.scheduler.specs.Moves.{job_with, with_counts, with_spot, with_top, top_of, pushed, popped}
use Rattle.scheduler.proofs.Facts.{few_tasks}
use Rattle.scheduler.proofs.Jobs.{jobs_top, jobs_push, jobs_set, opens_none, opens_length}

-- a spot that stands for a place of the stack
stands_is : (s : Spot) (p : ℕ) → stands_at s p ≡ true → s ≡ Stacked p
stands_is Waiting p e = grind arith
stands_is Released p e = grind arith
stands_is (Stacked q) p e = grind (arith, nat_tests)

-- a spot that is not on the stack
pub record Off (s : Spot) : Type 0 where
  pub off : (p : ℕ) → stands_at s p ≡ false

pub off_waiting : (s : Spot) → s ≡ Waiting → Off s
off_waiting s e = record { off = λ p. ap (λ x. stands_at x p) e }

pub off_released : (s : Spot) → s ≡ Released → Off s
off_released s e = record { off = λ p. ap (λ x. stands_at x p) e }

module _ (i : Inner) where
  -- after a task's spot is noted
  pub spot_same : (task : ℕ) (s : Spot) → task < length i.spots → spot_at (with_spot i task s) task ≡ s
  spot_same task s h = get_or-set_same i.spots task s Waiting h

  pub spot_other : (task other : ℕ) (s : Spot) → other ≢ task → spot_at (with_spot i task s) other ≡ spot_at i other
  spot_other task other s h = get_or-set_other i.spots task other s Waiting h

  -- two tasks with different spots are two
  apart : (a b : ℕ) (p : ℕ) → Off (spot_at i a) → stands_at (spot_at i b) p ≡ true → b ≢ a
  apart a b p o s e = let off = o.off p in grind arith

  apart_places : (a b : ℕ) (p q : ℕ) → p ≢ q → stands_at (spot_at i a) p ≡ true → stands_at (spot_at i b) q ≡ true → b ≢ a
  apart_places a b p q ne s t e =
      let x = stands_is (spot_at i a) p s in
      let y = stands_is (spot_at i b) q t in
      let same : Stacked p ≡ Stacked q = cc in
      grind arith

module _ (i j : Inner) where
  -- a task keeps its place where its jobs stay
  stood_kept :
      (t : ℕ) (s : Spot) → ((p : ℕ) → p < i.depth → (job_at i p).task ≡ t → (p < j.depth) × ((job_at j p).task ≡ t)) → stood_by i t s ≡ true
      → stood_by j t s ≡ true
  stood_kept t Waiting stay e = refl
  stood_kept t Released stay e = refl
  stood_kept t (Stacked p) stay e = let kept = stay p in grind (arith, nat_tests)

  -- one task's spot is noted, and the jobs of the others stay
  placed_kept :
      (task : ℕ) (s : Spot) → j.spots ≡ slice_set i.spots task s → length i.spots ≡ most_tasks → stood_by j task s ≡ true
      → ((p : ℕ) → p < i.depth → (job_at i p).task ≢ task → (p < j.depth) × ((job_at j p).task ≡ (job_at i p).task)) → Placed i → Placed j
  placed_kept task s noted long here stay old t h =
      let now : spot_at j t ≡ spot_at (with_spot i task s) t = ap (λ (l : List Spot). slice_index_or l t Waiting) noted in
      elim (cases_eq t task) [
        | inl e ↦ (let at = spot_same i task s (omega arith) in grind arith)
        | inr ne ↦
            (let at = spot_other i task t s ne in
            let kept = stood_kept t (spot_at i t) (λ p lt own. let kept = stay p lt (λ e. ne (sym own ∙ e)) in (kept.0, kept.1 ∙ own)) (old t h) in
            grind arith)
      ]

module _ {k : Records} {i : Inner} (gh : Steady k i) where
  -- the stack is no higher than its array
  pub high : i.depth ≤ length i.stack
  high = omega (arith, gh.tall.0, gh.tall.2)

  -- a job more on the stack
  module _ (task deadline : ℕ) (room : i.depth < most_tasks) (in_table : task < length k.tasks.items) (soon : deadline ≤ latest) (off : Off (spot_at i task)) where
    abbrev fresh : StackRecord
    fresh = job_with task deadline

    push_at : (p : ℕ) → p ≢ i.depth → job_at (pushed i task deadline) p ≡ job_at i p
    push_at p ne = get_or-set_other i.stack i.depth p _ no_record ne

    push_top : job_at (pushed i task deadline) i.depth ≡ fresh
    push_top = get_or-set_same i.stack i.depth _ no_record (omega (arith, gh.tall.0))

    -- what holds of each job below and of the new one holds of each
    pushed_all : (P : ℕ → StackRecord → Type 0) → ((p : ℕ) → p < i.depth → P p (job_at i p)) → P i.depth fresh → (p : ℕ) → p < i.depth + 1 → P p (job_at (pushed i task deadline) p)
    pushed_all P below here p h =
        elim (cases_eq p i.depth) [ inl e ↦ rw (e, push_top) here | inr ne ↦ rw (push_at p ne) (below p (omega arith)) ]

    push_stood : stood_by (pushed i task deadline) task (Stacked i.depth) ≡ true
    push_stood = let own = ap (λ (r : StackRecord). r.task) push_top in grind (arith, nat_tests)

    push_balance : Balanced (pushed i task deadline)
    push_balance =
        let jobs = ap open_count (jobs_push i.stack i.depth fresh (omega (arith, gh.tall.0))) in
        let none = ap length (opens_none [] refl) in
        (omega (arith, gh.balanced.0, jobs, none), gh.balanced.1)

    pub push_ghosts : Steady k (pushed i task deadline)
    push_ghosts = record {
      tall = (
        length-set i.stack i.depth _ ∙ gh.tall.0,
        length-set i.spots task _ ∙ gh.tall.1,
        omega arith,
      );
      known = pushed_all (λ p r. (r.task < length k.tasks.items) × (r.deadline ≤ latest)) gh.known (in_table, soon);
      nested = pushed_all (λ p r. chained (table_of k) (opens_of r.opened.items) ≡ true) gh.nested (ap (chained (table_of k)) (opens_none [] refl));
      noted = pushed_all (λ p r. stands_at (spot_at (pushed i task deadline) r.task) p ≡ true)
          (λ p h. ap (λ x. stands_at x p) (spot_other i task (job_at i p).task (Stacked i.depth) (apart i task (job_at i p).task p off (gh.noted p h))) ∙ gh.noted p h)
          (rw (spot_same i task (Stacked i.depth) (omega (arith, in_table, few_tasks k, gh.tall.1))) (grind (arith, nat_tests)));
      placed = placed_kept i (pushed i task deadline) task (Stacked i.depth) refl gh.tall.1 push_stood
          (λ p h _. (omega arith, ap (λ (r : StackRecord). r.task) (push_at p (omega arith)))) gh.placed;
      balanced = push_balance;
    }

  -- a task that has no job on the stack is noted at another place off it
  pub note_ghosts :
      (task : ℕ) (s : Spot) (c : Counts) → Off (spot_at i task) → stood_by i task s ≡ true → c.entries ≡ i.counts.entries → c.leaves ≡ i.counts.leaves
      → c.taken ≡ i.counts.taken → task < most_tasks → Steady k (with_spot (with_counts i c) task s)
  note_ghosts task s c off stood en le ta room = record {
    tall = (gh.tall.0, length-set i.spots task s ∙ gh.tall.1, gh.tall.2);
    known = gh.known;
    nested = gh.nested;
    noted = (λ p h. ap (λ x. stands_at x p) (spot_other i task (job_at i p).task s (apart i task (job_at i p).task p off (gh.noted p h))) ∙ gh.noted p h);
    placed = placed_kept i (with_spot (with_counts i c) task s) task s refl gh.tall.1 (stood_as s stood) (λ p h _. (h, refl)) gh.placed;
    balanced = (omega (arith, gh.balanced.0, en, le, ta), omega (arith, gh.balanced.1, en));
  }
    where
      stood_as : (s : Spot) → stood_by i task s ≡ true → stood_by (with_spot (with_counts i c) task s) task s ≡ true
      stood_as Waiting e = refl
      stood_as Released e = refl
      stood_as (Stacked p) e = e

  -- how many sections are open on a stack that is not empty
  pub top_open : 0 < i.depth → open_count (jobs_of i.stack i.depth) ≡ length (top_of i).opened.items + open_count (jobs_of i.stack (i.depth - 1))
  top_open some =
      let jobs = ap open_count (jobs_top i.stack i.depth some high) in
      let long = opens_length (top_of i).opened.items in
      omega (arith, jobs, long)

  -- the top job ends, and its open sections are taken back
  pub pop_ghosts :
      (c : Counts) → 0 < i.depth → c.entries ≡ i.counts.entries → c.leaves ≡ i.counts.leaves → c.taken ≡ i.counts.taken + length (top_of i).opened.items
      → Steady k (popped (with_counts i c))
  pop_ghosts c some en le ta =
      let last : i.depth - 1 < i.depth = omega arith in record {
        tall = (gh.tall.0, length-set i.spots (top_of i).task Waiting ∙ gh.tall.1, omega (arith, gh.tall.2));
        known = (λ p h. gh.known p (omega arith));
        nested = (λ p h. gh.nested p (omega arith));
        noted = (λ p h.
            let lt : p < i.depth = omega arith in
            let ne : i.depth - 1 ≢ p = omega arith in
            ap (λ x. stands_at x p) (spot_other i (top_of i).task (job_at i p).task Waiting
            (apart_places i (top_of i).task (job_at i p).task (i.depth - 1) p ne (gh.noted (i.depth - 1) last) (gh.noted p lt))) ∙ gh.noted p lt);
        placed = placed_kept i (popped (with_counts i c)) (top_of i).task Waiting refl gh.tall.1 refl
            (λ p h other. (grind arith, refl)) gh.placed;
        balanced = (omega (arith, gh.balanced.0, top_open some), omega (arith, gh.balanced.1));
      }

  -- the top job with other open sections
  module _ (r : StackRecord) (some : 0 < i.depth) where
    top_at : (p : ℕ) → p ≢ i.depth - 1 → job_at (with_top i r) p ≡ job_at i p
    top_at p ne = get_or-set_other i.stack (i.depth - 1) p r no_record ne

    top_here : job_at (with_top i r) (i.depth - 1) ≡ r
    top_here = get_or-set_same i.stack (i.depth - 1) r no_record (omega (arith, high))

    top_all : (P : ℕ → StackRecord → Type 0) → ((p : ℕ) → p < i.depth → P p (job_at i p)) → P (i.depth - 1) r → (p : ℕ) → p < i.depth → P p (job_at (with_top i r) p)
    top_all P others here p h =
        elim (cases_eq p (i.depth - 1)) [ inl e ↦ rw (e, top_here) here | inr ne ↦ rw (top_at p ne) (others p h) ]

    pub top_ghosts :
        (c : Counts) → r.task ≡ (top_of i).task → r.deadline ≡ (top_of i).deadline
        → chained (table_of k) (opens_of r.opened.items) ≡ true
        → c.entries + length (top_of i).opened.items + i.counts.leaves + i.counts.taken ≡ i.counts.entries + length r.opened.items + c.leaves + c.taken → c.entries ≤ most_entries
        → Steady k (with_counts (with_top i r) c)
    top_ghosts c own due nest even fine =
        let last : i.depth - 1 < i.depth = omega arith in
        let long = opens_length r.opened.items in
        let jobs = ap open_count (jobs_set i.stack i.depth r some (omega (arith, gh.tall.0, gh.tall.2))) in record {
          tall = (
            length-set i.stack (i.depth - 1) r ∙ gh.tall.0,
            gh.tall.1,
            gh.tall.2,
          );
          known = top_all (λ p q. (q.task < length k.tasks.items) × (q.deadline ≤ latest)) gh.known
              (omega (arith, own, (gh.known (i.depth - 1) last).0), omega (arith, due, (gh.known (i.depth - 1) last).1));
          nested = top_all (λ p q. chained (table_of k) (opens_of q.opened.items) ≡ true) gh.nested nest;
          noted = top_all (λ p q. stands_at (spot_at i q.task) p ≡ true) gh.noted (ap (λ n. stands_at (spot_at i n) (i.depth - 1)) own ∙ gh.noted (i.depth - 1) last);
          placed = (λ t h. stood_kept i (with_counts (with_top i r) c) t (spot_at i t)
              (λ p lt own_task. (lt, top_all (λ n q. q.task ≡ (job_at i n).task) (λ _ _. refl) own p lt ∙ own_task)) (gh.placed t h));
          balanced = (omega (arith, gh.balanced.0, top_open some, jobs, long), fine);
        }
