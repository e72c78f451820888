-- How the lists fit the core's own fields is kept by each inner move: a job ends, lapses, is released or is pushed, and a section opens or closes.
use Rattle.std.proofs.Common.{◌≡◌, ℕ, ◌+◌, ◌-◌, ◌*◌, ◌<◌, ◌≤◌, Bool, true, false, ◌≢◌, List, ◌∷◌, length, sym, refl, ap, ◌∙◌, inl, inr, arith}
use Rattle.std.specs.List.{AllByRecursion}
use Rattle.std.proofs.lemmas.Bool.{cases_eq}
use Rattle.std.proofs.lemmas.Bool.Decides.{nat_tests}
use Rattle.std.proofs.ByRecursion.{All-weaker}
use Rattle.table.specs.Limits.{most_tasks, largest}
use Rattle.queue.specs.declared.waiting.Waiting.{Waiting}
use Rattle.queue.specs.declared.released.Released.{Released}
use Rattle.queue.specs.Order.{insert_sorted}
use Rattle.queue.specs.Meaning.{queued}
use Rattle.queue.specs.Answer.{inserted}
use Rattle.queue.specs.Entries.{waiting_before, released_before, waiting_order, released_order}
use Rattle.queue.proofs.Queued.{queued_insert}
use Rattle.machine.specs.State.{Table, Job}
use Rattle.machine.specs.Step.{last_instant, release_of}
use Rattle.machine.proofs.Lists.{all_insert, all_map2}
use Rattle.machine.proofs.Flow.{length-insert}
use Rattle.scheduler.specs.declared.records.Records.{Records}
use Rattle.scheduler.specs.declared.stack.StackRecord.{StackRecord}
use Rattle.scheduler.specs.declared.stack.Spot.{Spot}
use Rattle.scheduler.specs.declared.stack.Spot.TheVariants.{Waiting as Waits, Released as IsReleased, Stacked}
use Rattle.scheduler.specs.declared.question.Counts.{Counts}
use Rattle.scheduler.specs.declared.stack.Inner.{Inner}
use Rattle.scheduler.specs.View.{table_of, jobs_of}
use Rattle.scheduler.specs.Steady.{job_at, spot_at, stands_at, latest, next_of, Steady}
use Rattle.scheduler.specs.Moves.{job_with, with_counts, with_spot, with_top, top_of, pushed, popped}
use Rattle.scheduler.specs.Fitted.{sum_of, WaitsIn, ReleasedIn, Listed}
use Rattle.scheduler.proofs.Jobs.{jobs_top, jobs_push, jobs_set, jobs_length}
use Rattle.scheduler.proofs.Facts.{timed_at, few_tasks}
use Rattle.scheduler.proofs.Ghosts.{high, spot_same, spot_other}
use Rattle.scheduler.proofs.Queues.{put_in, none_of, not_of, sum-insert, sum-most, jobs_each}

-- the three spots are different
pub stacked_waits : (s : Spot) (p : ℕ) → stands_at s p ≡ true → s ≡ Waits → ⊥
stacked_waits s p t e = grind arith

pub stacked_released : (s : Spot) (p : ℕ) → stands_at s p ≡ true → s ≡ IsReleased → ⊥
stacked_released s p t e = grind arith

pub released_waits : (s : Spot) → s ≡ IsReleased → s ≡ Waits → ⊥
released_waits s a b = cc

-- the entry with which a task waits after a job of it
abbrev pub next_wait : Table → ℕ → ℕ → Waiting
next_wait k task deadline = record { release = next_of k task deadline; task = task }

module _ (k : Records) (i : Inner) where
  -- tasks with another spot are other tasks
  pub others_waiting : (task : ℕ) (ws : List Waiting) → (spot_at i task ≡ Waits → ⊥) → AllByRecursion (WaitsIn k i) ws → AllByRecursion (λ w. w.task ≢ task) ws
  others_waiting task ws not all = All-weaker (WaitsIn k i) (λ w. w.task ≢ task) (λ w h e. not (ap (spot_at i) (sym e) ∙ h.1)) ws all

  pub others_released : (task : ℕ) (rs : List Released) → (spot_at i task ≡ IsReleased → ⊥) → AllByRecursion (ReleasedIn k i) rs → AllByRecursion (λ e. e.task ≢ task) rs
  others_released task rs not all = All-weaker (ReleasedIn k i) (λ e. e.task ≢ task) (λ e h q. not (ap (spot_at i) (sym q) ∙ h.1)) rs all

  -- a note of one task leaves the others' spots
  keep_waiting : (task : ℕ) (s : Spot) (ws : List Waiting) → AllByRecursion (λ w. w.task ≢ task) ws → AllByRecursion (WaitsIn k i) ws → AllByRecursion (WaitsIn k (with_spot i task s)) ws
  keep_waiting task s ws apart all =
      all_map2 (λ w. w.task ≢ task) (WaitsIn k i) (WaitsIn k (with_spot i task s)) (λ w ne h. (h.0, spot_other i task w.task s ne ∙ h.1, h.2)) ws apart all

  keep_released : (task : ℕ) (s : Spot) (rs : List Released) → AllByRecursion (λ e. e.task ≢ task) rs → AllByRecursion (ReleasedIn k i) rs → AllByRecursion (ReleasedIn k (with_spot i task s)) rs
  keep_released task s rs apart all =
      all_map2 (λ e. e.task ≢ task) (ReleasedIn k i) (ReleasedIn k (with_spot i task s)) (λ e ne h. (h.0, spot_other i task e.task s ne ∙ h.1, h.2)) rs apart all

module _ {k : Records} {i : Inner} (gh : Steady k i) where
  -- the next release of a task is not too far off
  pub next_near : (task deadline : ℕ) → task < length k.tasks.items → deadline ≤ latest → next_of (table_of k) task deadline ≤ latest + largest
  next_near task deadline h soon = omega (arith, (timed_at k task h).near)

  spot_room : (task : ℕ) → task < length k.tasks.items → task < length i.spots
  spot_room task h = omega (arith, few_tasks k, gh.tall.1)

  -- every task with a spot is among the entries
  module _ {E : Type 0} (f : E → ℕ) (v : Spot) where
    abbrev Covers : Inner → List E → Type 0
    Covers j xs = (t : ℕ) → t < length k.tasks.items → spot_at j t ≡ v → queued f t xs ≡ true

    -- a note of one task leaves the others among them
    keep_all :
        (task : ℕ) (s : Spot) (xs ys : List E) → (s ≡ v → queued f task ys ≡ true) → ((t : ℕ) → t ≢ task → queued f t xs ≡ true → queued f t ys ≡ true)
        → Covers i xs → Covers (with_spot i task s) ys
    keep_all task s xs ys here others all t h e =
        elim (cases_eq t task) [
          | inl same ↦ (let at = spot_same i task s (spot_room task (omega arith)) in grind arith)
          | inr ne ↦ (let at = spot_other i task t s ne in grind (arith, others t ne, all t h))
        ]

    -- with an entry more for the spot, and with the first entry less for another
    put_all : (b : E → E → Bool) (x : E) (xs : List E) → Covers i xs → Covers (with_spot i (f x) v) (insert_sorted b x xs)
    put_all b x xs =
        keep_all (f x) v xs (insert_sorted b x xs) (λ _. let among = queued_insert b f (f x) x xs in grind (arith, nat_tests))
        (λ t _ q. let among = queued_insert b f t x xs in grind arith)

    take_all : (s : Spot) (x : E) (xs : List E) → (s ≡ v → ⊥) → Covers i (x ∷ xs) → Covers (with_spot i (f x) s) xs
    take_all s x xs not =
        keep_all (f x) s (x ∷ xs) xs (λ e. absurd (not e))
        (λ t ne q. grind (arith, nat_tests))

    stay_all : (task : ℕ) (s : Spot) (xs : List E) → (s ≡ v → ⊥) → Covers i xs → Covers (with_spot i task s) xs
    stay_all task s xs not = keep_all task s xs xs (λ e. absurd (not e)) (λ t _ q. q)

  module _ {ws : List Waiting} {rs : List Released} {wc rc : ℕ} (li : Listed k i ws rs wc rc) where
    pub releases_few : i.counts.releases ≤ 32 * (latest + largest)
    releases_few =
        let a = sum-most (λ (w : Waiting). w.release) (latest + largest) ws (All-weaker (WaitsIn k i) (λ w. w.release ≤ latest + largest) (λ w h. h.2) ws li.waiting) in
        let b = sum-most (λ (e : Released). next_of (table_of k) e.task e.deadline) (latest + largest) rs
        (All-weaker (ReleasedIn k i) (λ e. next_of (table_of k) e.task e.deadline ≤ latest + largest) (λ e h. next_near e.task e.deadline h.0 h.2) rs li.released) in
        let c = sum-most (λ (j : Job). next_of (table_of k) j.task j.deadline) (latest + largest) (jobs_of i.stack i.depth)
        (jobs_each (λ j. next_of (table_of k) j.task j.deadline ≤ latest + largest) i.stack i.depth (high gh)
        (λ p h. next_near (job_at i p).task (job_at i p).deadline (gh.known p h).0 (gh.known p h).1)) in
        let d = jobs_length i.stack i.depth (high gh) in
        omega (arith, a, b, c, d, li.few, li.places, few_tasks k)

    -- the job at the top ends: its task waits for its next release
    module _ (some : 0 < i.depth) where
      top_stands : stands_at (spot_at i (top_of i).task) (i.depth - 1) ≡ true
      top_stands = gh.noted (i.depth - 1) (omega arith)

      top_known : (top_of i).task < length k.tasks.items
      top_known = (gh.known (i.depth - 1) (omega arith)).0

      top_soon : (top_of i).deadline ≤ latest
      top_soon = (gh.known (i.depth - 1) (omega arith)).1

      abbrev again : Waiting
      again = next_wait (table_of k) (top_of i).task (top_of i).deadline

      end_apart : AllByRecursion (λ w. w.task ≢ (top_of i).task) ws
      end_apart = others_waiting k i (top_of i).task ws (stacked_waits (spot_at i (top_of i).task) (i.depth - 1) top_stands) li.waiting

      pub end_put : inserted waiting_order wc again ws ≡ insert_sorted waiting_before again ws
      end_put = put_in waiting_order wc again ws (omega (arith, top_known, few_tasks k)) (none_of (λ w. w.task) (top_of i).task ws end_apart) (omega (arith, li.places, li.waiting_room))

      pub end_listed :
          (c : Counts) → c.releases ≡ i.counts.releases → c.finishes + c.expiries ≡ i.counts.finishes + i.counts.expiries + 1
          → Listed k (popped (with_counts i c)) (insert_sorted waiting_before again ws) rs wc rc
      end_listed c re fe =
          let sum = sum-insert (λ (w : Waiting). w.release) waiting_before again ws in
          let jobs = ap (sum_of (λ (j : Job). next_of (table_of k) j.task j.deadline)) (jobs_top i.stack i.depth some (high gh)) in
          record {
            waiting_room = li.waiting_room;
            released_room = li.released_room;
            places = omega (arith, li.places, length-insert waiting_before again ws);
            waiting = all_insert (WaitsIn k (with_spot i (top_of i).task Waits)) waiting_before again ws
                (top_known, spot_same i (top_of i).task Waits (spot_room (top_of i).task top_known), next_near (top_of i).task (top_of i).deadline top_known top_soon)
                (keep_waiting k i (top_of i).task Waits ws end_apart li.waiting);
            released = keep_released k i (top_of i).task Waits rs
                (others_released k i (top_of i).task rs (stacked_released (spot_at i (top_of i).task) (i.depth - 1) top_stands) li.released) li.released;
            waiting_all = put_all (λ w. w.task) Waits waiting_before again ws li.waiting_all;
            released_all = stay_all (λ e. e.task) IsReleased (top_of i).task Waits rs (λ e. released_waits Waits e refl) li.released_all;
            few = omega (arith, li.few, sum, jobs);
            jobs = omega (arith, li.jobs);
          }

    -- the top job with other open sections
    pub top_listed :
        (r : StackRecord) (c : Counts) → 0 < i.depth → r.task ≡ (top_of i).task → r.deadline ≡ (top_of i).deadline → c.releases ≡ i.counts.releases
        → c.finishes ≡ i.counts.finishes → c.expiries ≡ i.counts.expiries → Listed k (with_counts (with_top i r) c) ws rs wc rc
    top_listed r c some own due re fi ex =
        let f : Job → ℕ = λ j. next_of (table_of k) j.task j.deadline in
        let old = ap (sum_of f) (jobs_top i.stack i.depth some (high gh)) in
        let new = ap (sum_of f) (jobs_set i.stack i.depth r some (high gh)) in
        let next : next_of (table_of k) r.task r.deadline ≡ next_of (table_of k) (top_of i).task (top_of i).deadline = cc in
        record {
          waiting_room = li.waiting_room;
          released_room = li.released_room;
          places = li.places;
          waiting = li.waiting;
          released = li.released;
          waiting_all = li.waiting_all;
          released_all = li.released_all;
          few = omega (arith, li.few, old, new, next);
          jobs = omega (arith, li.jobs);
        }

  -- the first released job
  module _ {ws : List Waiting} {e : Released} {es : List Released} {wc rc : ℕ} (li : Listed k i ws (e ∷ es) wc rc) (single : queued (λ (x : Released). x.task) e.task es ≡ false) where
    rest_apart : AllByRecursion (λ x. x.task ≢ e.task) es
    rest_apart = not_of (λ x. x.task) e.task es single

    first_apart : AllByRecursion (λ w. w.task ≢ e.task) ws
    first_apart = others_waiting k i e.task ws (released_waits (spot_at i e.task) li.released.0.1) li.waiting

    -- is pushed
    pub push_room : i.depth < most_tasks
    push_room = omega (arith, li.places, few_tasks k)

    pub push_listed : Listed k (pushed i e.task e.deadline) ws es wc rc
    push_listed =
        let jobs = ap (sum_of (λ (j : Job). next_of (table_of k) j.task j.deadline))
        (jobs_push i.stack i.depth (job_with e.task e.deadline) (omega (arith, push_room, gh.tall.0))) in
        let on : stands_at (Stacked i.depth) i.depth ≡ true = grind (arith, nat_tests) in
        record {
          waiting_room = li.waiting_room;
          released_room = li.released_room;
          places = omega (arith, li.places);
          waiting = keep_waiting k i e.task (Stacked i.depth) ws first_apart li.waiting;
          released = keep_released k i e.task (Stacked i.depth) es rest_apart li.released.1;
          waiting_all = stay_all (λ w. w.task) Waits e.task (Stacked i.depth) ws (stacked_waits (Stacked i.depth) i.depth on) li.waiting_all;
          released_all = take_all (λ x. x.task) IsReleased (Stacked i.depth) e es (stacked_released (Stacked i.depth) i.depth on) li.released_all;
          few = omega (arith, li.few, jobs);
          jobs = omega (arith, li.jobs);
        }

    -- or lapses
    abbrev waits : Waiting
    waits = next_wait (table_of k) e.task e.deadline

    pub lapse_put : inserted waiting_order wc waits ws ≡ insert_sorted waiting_before waits ws
    lapse_put =
        put_in waiting_order wc waits ws (omega (arith, li.released.0.0, few_tasks k)) (none_of (λ w. w.task) e.task ws first_apart) (omega (arith, li.places, li.waiting_room))

    pub lapse_listed :
        (c : Counts) → c.releases ≡ i.counts.releases → c.finishes ≡ i.counts.finishes → c.expiries ≡ i.counts.expiries + 1
        → Listed k (with_spot (with_counts i c) e.task Waits) (insert_sorted waiting_before waits ws) es wc rc
    lapse_listed c re fi ex =
        let sum = sum-insert (λ (w : Waiting). w.release) waiting_before waits ws in
        record {
          waiting_room = li.waiting_room;
          released_room = li.released_room;
          places = omega (arith, li.places, length-insert waiting_before waits ws);
          waiting = all_insert (WaitsIn k (with_spot i e.task Waits)) waiting_before waits ws
              (li.released.0.0, spot_same i e.task Waits (spot_room e.task li.released.0.0), next_near e.task e.deadline li.released.0.0 li.released.0.2)
              (keep_waiting k i e.task Waits ws first_apart li.waiting);
          released = keep_released k i e.task Waits es rest_apart li.released.1;
          waiting_all = put_all (λ w. w.task) Waits waiting_before waits ws li.waiting_all;
          released_all = take_all (λ x. x.task) IsReleased Waits e es (λ q. released_waits Waits q refl) li.released_all;
          few = omega (arith, li.few, sum);
          jobs = omega (arith, li.jobs);
        }

  -- the first waiting task is released
  module _ {w : Waiting} {ws : List Waiting} {rs : List Released} {wc rc : ℕ} (li : Listed k i (w ∷ ws) rs wc rc) (single : queued (λ (x : Waiting). x.task) w.task ws ≡ false) (now : w.release ≤ last_instant) where
    abbrev out : Released
    out = release_of (table_of k) w

    out_soon : out.deadline ≤ latest
    out_soon = let t = timed_at k w.task li.waiting.0.0 in omega (arith, t.near, t.cyclic)

    out_apart : AllByRecursion (λ e. e.task ≢ w.task) rs
    out_apart = others_released k i w.task rs (λ e. released_waits (spot_at i w.task) e li.waiting.0.1) li.released

    pub release_put : inserted released_order rc out rs ≡ insert_sorted released_before out rs
    release_put =
        put_in released_order rc out rs (omega (arith, li.waiting.0.0, few_tasks k)) (none_of (λ e. e.task) w.task rs out_apart) (omega (arith, li.places, li.released_room))

    pub release_listed :
        (c : Counts) → c.releases ≡ i.counts.releases + 1 → c.finishes ≡ i.counts.finishes → c.expiries ≡ i.counts.expiries
        → Listed k (with_spot (with_counts i c) w.task IsReleased) ws (insert_sorted released_before out rs) wc rc
    release_listed c re fi ex =
        let t = timed_at k w.task li.waiting.0.0 in
        let sum = sum-insert (λ (e : Released). next_of (table_of k) e.task e.deadline) released_before out rs in
        record {
          waiting_room = li.waiting_room;
          released_room = li.released_room;
          places = omega (arith, li.places, length-insert released_before out rs);
          waiting = keep_waiting k i w.task IsReleased ws (not_of (λ x. x.task) w.task ws single) li.waiting.1;
          released = all_insert (ReleasedIn k (with_spot i w.task IsReleased)) released_before out rs
              (li.waiting.0.0, spot_same i w.task IsReleased (spot_room w.task li.waiting.0.0), out_soon)
              (keep_released k i w.task IsReleased rs out_apart li.released);
          waiting_all = take_all (λ x. x.task) Waits IsReleased w ws (released_waits IsReleased refl) li.waiting_all;
          released_all = put_all (λ e. e.task) IsReleased released_before out rs li.released_all;
          few = omega (arith, li.few, sum, t.works, t.early, t.cyclic);
          jobs = omega (arith, li.jobs, length-insert released_before out rs);
        }
