-- Each part of a call keeps the shape.
use Rattle.std.proofs.Common.{◌≡◌, ℕ, suc, ◌+◌, ◌-◌, ◌<◌, ◌≤◌, true, List, [], ◌∷◌, length, arith}
use Rattle.std.specs.List.{AllByRecursion}
use Rattle.std.proofs.lemmas.Bool.Decides.{nat_tests}
use Rattle.queue.specs.declared.waiting.Waiting.{Waiting}
use Rattle.queue.specs.declared.released.Released.{Released}
use Rattle.queue.specs.Order.{insert_sorted}
use Rattle.queue.specs.Entries.{waiting_before, released_before}
use Rattle.machine.specs.State.{Table, Open, Job, relative, period, section_at, inherited}
use Rattle.machine.specs.Step.{goes, put_back, release_of}
use Rattle.machine.proofs.Lists.{Sorted, Rising, tot_insert, all_insert, all_map, all_map2, sorted_insert, from_lowest}
use Rattle.machine.proofs.Tables.{Fit}
use Rattle.machine.proofs.Shape.{EntryOk, JobOk, Nested, Inward, Once, Shape, known, by_waiting, by_released, lowered_le}

-- the entry that waits for a task's next release
abbrev pub next_of : Table → ℕ → ℕ → Waiting
next_of k i d = record { release = d - relative k i + period k i; task = i }

-- a job that has just begun, and one with other open sections
abbrev pub begin : Released → Job
begin e = record { task = e.task; deadline = e.deadline; opened = [] }

abbrev pub with_open : Job → List Open → Job
with_open q os = record { task = q.task; deadline = q.deadline; opened = os }

module _ (k : Table) (ok : Fit k) where
  -- the clock moves on, not past what is due
  pub tick_shape : (c t : ℕ) (w : List Waiting) (r : List Released) (s : List Job) → Shape k c w r s → c ≤ t
      → AllByRecursion (λ a. t ≤ a.release) w → AllByRecursion (λ e. t ≤ e.deadline) r → AllByRecursion (λ q. t ≤ q.deadline) s → Shape k t w r s
  tick_shape c t w r s i le dw dr ds =
      let readies = all_map2 (EntryOk k c) (λ e. t ≤ e.deadline) (EntryOk k t) (λ e x y. search arith) r i.readies dr in
      let jobs = all_map2 (JobOk k c) (λ q. t ≤ q.deadline) (JobOk k t) (λ q x y. search arith) s i.jobs ds in
      search arith

  -- a task that is put back waits in its place, past the clock
  back_waits : (c i d : ℕ) (w : List Waiting) → i < length k.tasks → relative k i ≤ d → c ≤ d → AllByRecursion (λ a. c ≤ a.release) w → AllByRecursion (λ a. c ≤ a.release) (put_back k i d w)
  back_waits c i d w n base live h = all_insert (λ a. c ≤ a.release) waiting_before (next_of k i d) w (omega (arith, ok.d_t i n)) h

  back_sorted : (i d : ℕ) (w : List Waiting) → Sorted (λ a. a.release) w → Sorted (λ a. a.release) (put_back k i d w)
  back_sorted i d w so = sorted_insert waiting_before (λ a. a.release) by_waiting (next_of k i d) w so

  -- the top job leaves the stack
  pub pop_shape : (c : ℕ) (w : List Waiting) (r : List Released) (q : Job) (qs : List Job) → Shape k c w r (q ∷ qs)
      → Shape k c (put_back k q.task q.deadline w) r qs
  pop_shape c w r q qs i =
      let j = i.jobs.0 in
      let waits = back_waits c q.task q.deadline w (known k c w r (q ∷ qs) i).2.0 j.base j.live i.waits in
      let by_release = back_sorted q.task q.deadline w i.by_release in
      let once : Once k (put_back k q.task q.deadline w) r qs = λ g. omega (arith, i.once g, tot_insert (λ a. g a.task) waiting_before (next_of k q.task q.deadline) w) in
      search arith

  -- the first released job is taken away
  pub lapse_shape : (c : ℕ) (w : List Waiting) (e : Released) (es : List Released) (s : List Job) → Shape k c w (e ∷ es) s
      → Shape k c (put_back k e.task e.deadline w) es s
  lapse_shape c w e es s i =
      let j = i.readies.0 in
      let waits = back_waits c e.task e.deadline w (known k c w (e ∷ es) s i).1.0 j.base j.live i.waits in
      let by_release = back_sorted e.task e.deadline w i.by_release in
      let inward = all_map (Inward k (e ∷ es)) (Inward k es) (λ q x. x.1) s i.inward in
      let once : Once k (put_back k e.task e.deadline w) es s = λ g. omega (arith, i.once g, tot_insert (λ a. g a.task) waiting_before (next_of k e.task e.deadline) w) in
      search arith

  -- the first waiting task is released
  pub release_shape : (c : ℕ) (a : Waiting) (w : List Waiting) (r : List Released) (s : List Job) → Shape k c (a ∷ w) r s → a.release ≤ c
      → Shape k c w (insert_sorted released_before (release_of k a) r) s
  release_shape c a w r s i le =
      let now = i.waits.0 in
      let new : Released = release_of k a in
      let readies = all_insert (EntryOk k c) released_before new r (search arith) i.readies in
      let by_deadline = sorted_insert released_before (λ e. e.deadline) by_released new r i.by_deadline in
      let inward = all_map2 (JobOk k c) (Inward k r) (Inward k (insert_sorted released_before new r))
      (λ q j x. all_insert (λ e. e.deadline < q.deadline → relative k e.task < relative k q.task) released_before new r (λ lt. omega (arith, j.begun)) x) s i.jobs i.inward in
      let once : Once k w (insert_sorted released_before new r) s = λ g. omega (arith, i.once g, tot_insert (λ e. g e.task) released_before new r) in
      search arith

  -- a pushed job is more urgent than all below it, and its D is below what each of them inherits
  above_all : (s : List Job) (e : Released) → goes k e s ≡ true → Rising (λ q. q.deadline) s → AllByRecursion (λ q. e.deadline < q.deadline) s
  above_all [] e g ri = tt
  above_all (q ∷ qs) e g ri =
      let lt : e.deadline < q.deadline = grind (arith, nat_tests) in
      from_lowest (λ p. p.deadline) (suc e.deadline) q qs ri lt

  inside_all : (s : List Job) (e : Released) → e.relative ≡ relative k e.task → goes k e s ≡ true → Nested k s → AllByRecursion (λ l. relative k e.task < inherited k l) s
  inside_all [] e own g ne = tt
  inside_all (q ∷ qs) e own g ne =
      let lt : e.relative < inherited k q = grind (arith, nat_tests) in
      let le = lowered_le k (relative k q.task) q.opened in
      (omega arith, all_map (λ l. relative k q.task < inherited k l) (λ l. relative k e.task < inherited k l) (λ l x. omega arith) qs ne.0)

  -- the first released job begins
  pub push_shape : (c : ℕ) (w : List Waiting) (e : Released) (es : List Released) (s : List Job) → Shape k c w (e ∷ es) s → goes k e s ≡ true
      → Shape k c w es (begin e ∷ s)
  push_shape c w e es s i g =
      let j = i.readies.0 in
      let rising = above_all s e g i.rising in
      let nested = inside_all s e j.own g i.nested in
      let inward : Inward k es (begin e) = all_map (λ z. e.deadline ≤ z.deadline) _ (λ z le lt. absurd (omega arith)) es i.by_deadline.0 in
      let below = all_map (Inward k (e ∷ es)) (Inward k es) (λ q x. x.1) s i.inward in
      let once : Once k w es (begin e ∷ s) = λ g. omega (arith, i.once g) in
      search arith

  -- the top job has other sections open
  pub open_shape : (c : ℕ) (w : List Waiting) (r : List Released) (q : Job) (qs : List Job) (os : List Open) → Shape k c w r (q ∷ qs)
      → AllByRecursion (λ o. (o.section < length k.sections) × ((section_at k o.section).task ≡ q.task)) os → Shape k c w r (with_open q os ∷ qs)
  open_shape c w r q qs os i ho = search arith
