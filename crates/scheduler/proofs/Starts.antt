-- A new core: every task is put into the waiting queue in turn, and what it keeps is sound.
use Rattle.std.proofs.Common.{◌≡◌, Bool, ℕ, zero, suc, ◌+◌, ◌<◌, ◌≤◌, true, false, ◌&&◌, ◌==◌, nat_le, ◌≢◌, List, [], ◌∷◌, length, sym, refl, ap, ◌∙◌, add-zero, zero-add, add-one, arith}
use Rattle.std.specs.List.{AllByRecursion}
use Rattle.std.proofs.lemmas.Simd.{get_or-replicate}
use Rattle.std.proofs.lemmas.Bool.Decides.{nat_tests}
use Rattle.std.proofs.ByRecursion.{All-weaker}
use Rattle.queue.specs.declared.waiting.Waiting.{Waiting}
use Rattle.queue.specs.Order.{insert_sorted}
use Rattle.queue.specs.Answer.{inserted}
use Rattle.queue.specs.Entries.{waiting_before, waiting_order}
use Rattle.queue.specs.Meaning.{queued}
use Rattle.table.specs.Limits.{most_tasks}
use Rattle.table.specs.declared.records.TaskRecord.{TaskRecord}
use Rattle.table.specs.declared.records.SectionRecord.{SectionRecord}
use Rattle.machine.specs.State.{Table, Job, first_releases, start}
use Rattle.machine.specs.Promise.{open_count}
use Rattle.machine.proofs.Lists.{all_map2}
use Rattle.scheduler.specs.declared.records.Records.{Records}
use Rattle.scheduler.specs.declared.stack.Spot.TheVariants.{Waiting as Waits}
use Rattle.scheduler.specs.View.{table_of, tally_of, state_of}
use Rattle.scheduler.specs.Steady.{spot_at, stood_by, Steady}
use Rattle.scheduler.specs.Moves.{fresh}
use Rattle.scheduler.specs.Fitted.{WaitsIn, Listed}
use Rattle.scheduler.proofs.Jobs.{jobs_none}
use Rattle.scheduler.proofs.Facts.{few_tasks}
use Rattle.scheduler.proofs.Fits.{released_waits}
use Rattle.scheduler.proofs.Queues.{put_in, none_of}

firsts_length : (i n : ℕ) → length (first_releases i n) ≡ n
firsts_length i zero = refl
firsts_length i (suc n) = ap suc (firsts_length (i + 1) n)

abbrev at : ℕ → Waiting
at i = record { release = 0; task = i }

firsts_below : (m n i : ℕ) → i + n ≤ m → AllByRecursion (λ (a : Waiting). a.task < m) (first_releases i n)
firsts_below m zero i h = tt
firsts_below m (suc n) i h = (omega arith, firsts_below m n (i + 1) (omega arith))

later_after : (i j : ℕ) → i < j → waiting_before (at j) (at i) ≡ false
later_after i j h = grind (arith, nat_tests)

-- the next task comes last
firsts_more : (n i : ℕ) → insert_sorted waiting_before (at (i + n)) (first_releases i n) ≡ first_releases i (suc n)
firsts_more zero i = ap (λ m. at m ∷ []) (add-zero i)
firsts_more (suc n) i =
    let e : i + suc n ≡ (i + 1) + n = omega arith in
    let ih = firsts_more n (i + 1) in
    let later = later_after i (i + suc n) (omega arith) in
    grind arith

pub firsts_put : (room n : ℕ) → n < 32 → n < room → inserted waiting_order room (at n) (first_releases 0 n) ≡ first_releases 0 (n + 1)
firsts_put room n small free =
    put_in waiting_order room (at n) (first_releases 0 n) small
    (none_of (λ w. w.task) n (first_releases 0 n) (All-weaker (λ (a : Waiting). a.task < n) (λ a. a.task ≢ n) (λ a lt. omega arith) (first_releases 0 n) (firsts_below n n 0 (omega arith))))
    (omega (arith, firsts_length 0 n))
    ∙ ap (λ m. insert_sorted waiting_before (at m) (first_releases 0 n)) (sym (zero-add n)) ∙ firsts_more n 0 ∙ ap (first_releases 0) (sym (add-one n))

-- which tasks are among the first releases
firsts_queued : (t n i : ℕ) → i ≤ t → t < i + n → queued (λ (w : Waiting). w.task) t (first_releases i n) ≡ true
firsts_queued t zero i low high = absurd (omega arith)
firsts_queued t (suc n) i low high = let ih = firsts_queued t n (i + 1) in grind (arith, nat_tests)

firsts_at : (n i : ℕ) → AllByRecursion (λ (a : Waiting). a.release ≡ 0) (first_releases i n)
firsts_at zero i = tt
firsts_at (suc n) i = (refl, firsts_at n (i + 1))

module _ (k : Records) where
  fresh_spot : (t : ℕ) → t < most_tasks → spot_at fresh t ≡ Waits
  fresh_spot t h = get_or-replicate most_tasks t Waits Waits h

  pub fresh_ghosts : Steady k fresh
  fresh_ghosts = record {
    tall = (refl, refl, omega arith);
    known = (λ p h. absurd (omega arith));
    nested = (λ p h. absurd (omega arith));
    noted = (λ p h. absurd (omega arith));
    placed = (λ t h. ap (stood_by fresh t) (fresh_spot t h));
    balanced = (omega (arith, ap open_count (jobs_none fresh.stack)), omega arith);
  }

  pub fresh_listed : (wc rc : ℕ) → length k.tasks.items ≤ wc → length k.tasks.items ≤ rc → Listed k fresh (first_releases 0 (length k.tasks.items)) [] wc rc
  fresh_listed wc rc wide broad =
      let n = length k.tasks.items in
      record {
        waiting_room = wide;
        released_room = broad;
        places = omega (arith, firsts_length 0 n);
        waiting = all_map2 (λ (a : Waiting). a.task < n) (λ a. a.release ≡ 0) (WaitsIn k fresh)
            (λ a lt z. (lt, fresh_spot a.task (omega (arith, lt, few_tasks k)), omega arith)) (first_releases 0 n) (firsts_below n n 0 (omega arith)) (firsts_at n 0);
        released = tt;
        waiting_all = λ t lt _. firsts_queued t n 0 (omega arith) (omega arith);
        released_all = λ t lt e. absurd (released_waits (spot_at fresh t) e (fresh_spot t (omega (arith, lt, few_tasks k))));
        few = omega arith;
        jobs = omega arith;
      }

  pub fresh_state : (tasks : List TaskRecord) (sections : List SectionRecord) → table_of k ≡ record { tasks = tasks; sections = sections }
      → state_of fresh (first_releases 0 (length k.tasks.items)) [] ≡ start (record { tasks = tasks; sections = sections })
  fresh_state tasks sections is =
      let n : length k.tasks.items ≡ length tasks = ap (λ (t : Table). length t.tasks) is in
      ap (λ m. state_of fresh (first_releases 0 m) []) n
      ∙ ap (λ (js : List Job). record { clock = 0; waiting = first_releases 0 (length tasks); released = []; stack = js; counts = tally_of fresh.counts }) (jobs_none fresh.stack)

-- a queue that can serve the tasks
pub served : (a n room : ℕ) {b : Bool} → b ≡ (a == 0 && nat_le n room) → b ≡ true → (a ≡ 0) × (n ≤ room)
served a n room e on = grind (arith, nat_tests)
