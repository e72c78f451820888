-- Each part of a call keeps the law.
use Rattle.std.proofs.Common.{◌≡◌, ℕ, suc, ◌+◌, ◌-◌, ◌<◌, ◌≤◌, true, ◌⊎◌, List, [], ◌∷◌, length, ap, inl, inr, arith}
use Rattle.std.specs.List.{AllByRecursion}
use Rattle.std.proofs.lemmas.Bool.{cases_lt, true≢false}
use Rattle.std.proofs.lemmas.Bool.Decides.{nat_tests}
use Rattle.queue.specs.declared.waiting.Waiting.{Waiting}
use Rattle.queue.specs.declared.released.Released.{Released}
use Rattle.queue.specs.Order.{insert_sorted}
use Rattle.queue.specs.Entries.{waiting_before, released_before}
use Rattle.admission.specs.Demand.{demand, demand_of, reaches}
use Rattle.machine.specs.State.{task_at, Table, Open, Job, relative, period, cost, section_at, first_releases}
use Rattle.machine.specs.Step.{goes, put_back, release_of}
use Rattle.machine.proofs.Lists.{tot, tot_insert, tot_le, all_insert, all_map, all_map2, from_first, from_lowest}
use Rattle.machine.proofs.Tables.{Fit, demand_is}
use Rattle.machine.proofs.Demand.{dem, dem_none, dem_some, dem_from}
use Rattle.machine.proofs.Shape.{JobOk, Shape, Settled, held_back, known}
use Rattle.machine.proofs.Moves.{next_of, begin, with_open, push_shape}
use Rattle.machine.proofs.Law.{low, left_in, left_past, of_waiting, of_released, of_job, Quiet, Busy, Law, low_from, left_tick, past_less, jobs_less, left_closed, left_bound}

-- what an advance by δ adds to run times and stays, of the running job
pub record Ticks (k : Table) (δ : ℕ) (ran ran' : ℕ → ℕ → ℕ) (st st' : ℕ → ℕ) (q : Job) : Type 0 where
  pub top : ran' q.task q.deadline ≡ ran q.task q.deadline + δ
  pub cap : ran' q.task q.deadline ≤ cost k q.task
  pub stays : AllByRecursion (λ o. st' o.serial ≡ st o.serial + δ) q.opened
  pub caps : AllByRecursion (λ o. st' o.serial ≤ (section_at k o.section).length) q.opened

abbrev pub Top : Table → ℕ → (ℕ → ℕ → ℕ) → (ℕ → ℕ → ℕ) → (ℕ → ℕ) → (ℕ → ℕ) → List Job → Type 0
Top k δ ran ran' st st' [] = Unit {0}
Top k δ ran ran' st st' (q ∷ qs) = Ticks k δ ran ran' st st' q

module _ (k : Table) (ok : Fit k) where
  -- a running job with a deadline past d, while a released one is due by d, is in a section with a low level
  pub blocked : (c d from : ℕ) (w : List Waiting) (r : List Released) (q : Job) (qs : List Job) → Shape k c w r (q ∷ qs) → Settled k r (q ∷ qs) → d < q.deadline
      → AllByRecursion (λ e. e.deadline ≤ d → from + relative k e.task ≤ e.deadline) r → Quiet d r (q ∷ qs) ⊎ (low k (d - from) q.opened ≡ true)
  blocked c d from w [] q qs i st h af = inl (tt, from_lowest (λ p. p.deadline) (suc d) q qs i.rising h)
  blocked c d from w (e ∷ es) q qs i st h af =
      elim (cases_lt d e.deadline) [
        | inl far ↦ inl (
          from_first (λ z. z.deadline) (suc d) e es i.by_deadline far,
          from_lowest (λ p. p.deadline) (suc d) q qs i.rising h,
        )
        | inr due ↦
            let lt : e.deadline < q.deadline = omega arith in
            inr (low_from k (relative k q.task) (relative k e.task) (d - from) q.opened (omega (arith, held_back k e q qs st lt, i.readies.0.own)) (i.inward.0.0 lt) (omega (arith, af.0 due)))
      ]

  idle_ready : (d : ℕ) (r : List Released) → Settled k r [] → AllByRecursion (λ e. d < e.deadline) r
  idle_ready d [] st = tt
  idle_ready d (e ∷ es) st = absurd (true≢false st)

  pub tick_law : (c t : ℕ) (ran ran' : ℕ → ℕ → ℕ) (st st' : ℕ → ℕ) (w : List Waiting) (r : List Released) (s : List Job) → c ≤ t
      → ((i n : ℕ) → ran i n ≤ ran' i n) → ((n : ℕ) → st n ≤ st' n) → Top k (t - c) ran ran' st st' s
      → Shape k c w r s → Settled k r s → Law k ran st c w r s → Law k ran' st' t w r s
  tick_law c t ran ran' st st' w r [] le mr ms tk i se law = λ d h. inl (idle_ready d r se, tt)
  tick_law c t ran ran' st st' w r (q ∷ qs) le mr ms tk i se law = λ d h.
      let u : Ticks k (t - c) ran ran' st st' q = tk in
      let jl = jobs_less k ran ran' mr d qs in
      elim (law d (omega arith)) [
        | inl z ↦ inl z
        | inr (from, b) ↦ elim (cases_lt d q.deadline) [
          | inl far ↦ elim (blocked c d from w r q qs i se far b.after) [
            | inl z ↦ inl z
            | inr lo ↦ inr (from, search (arith, nat_tests, left_tick k st st' (t - c) (d - from) q.opened lo u.stays u.caps))
          ]
          | inr due ↦ inr (from, search (arith, nat_tests, past_less k st st' ms d (d - from) qs))
        ]
      ]

  module _ (ran : ℕ → ℕ → ℕ) (st : ℕ → ℕ) where
    next_demand : (d i n : ℕ) → relative k i ≤ n → of_waiting k d (next_of k i n) ≡ dem k d i (n + period k i)
    next_demand d i n h = let e : n - relative k i + period k i + relative k i ≡ n + period k i = omega arith in ap (dem k d i) e

    -- the top job leaves the stack
    pub pop_law : (c : ℕ) (w : List Waiting) (r : List Released) (q : Job) (qs : List Job) → Shape k c w r (q ∷ qs)
        → ((d : ℕ) → d < q.deadline → Quiet d r (q ∷ qs) ⊎ (q.deadline ≤ c)) → Law k ran st c w r (q ∷ qs) → Law k ran st c (put_back k q.task q.deadline w) r qs
    pop_law c w r q qs i clear law = λ d h.
        elim (law d h) [
          | inl z ↦ inl (z.0, z.1.1)
          | inr (from, b) ↦ elim (cases_lt d q.deadline) [
            | inl far ↦ elim (clear d far) [ inl z ↦ inl (z.0, z.1.1) | inr e ↦ absurd (omega arith) ]
            | inr due ↦ inr (from, search (arith, nat_tests, next_demand d q.task q.deadline i.jobs.0.base, tot_insert (of_waiting k d) waiting_before (next_of k q.task q.deadline) w))
          ]
        ]

    -- the first released job begins
    pub push_law : (c : ℕ) (w : List Waiting) (e : Released) (es : List Released) (s : List Job) → Shape k c w (e ∷ es) s → goes k e s ≡ true
        → Law k ran st c w (e ∷ es) s → Law k ran st c w es (begin e ∷ s)
    push_law c w e es s i g law = λ d h.
        elim (cases_lt d e.deadline) [
          | inl far ↦ inl (
            (from_first (λ z. z.deadline) (suc d) e es i.by_deadline far).1,
            from_lowest (λ p. p.deadline) (suc d) (begin e) s (push_shape k ok c w e es s i g).rising far,
          )
          | inr due ↦ elim (law d h) [
            | inl z ↦ absurd (omega (arith, z.0.0))
            | inr (from, b) ↦ inr (from, search (arith, nat_tests, dem_some k ok d e.task e.deadline (known k c w (e ∷ es) s i).1.0 due))
          ]
        ]

    -- the top job has other sections open
    module _ (c : ℕ) (w : List Waiting) (r : List Released) (q : Job) (qs : List Job) (i : Shape k c w r (q ∷ qs)) (law : Law k ran st c w r (q ∷ qs)) where
      reopened : (os : List Open)
          → ((d from : ℕ) → d < q.deadline → Busy k ran st d c w r (q ∷ qs) from → Quiet d r (q ∷ qs) ⊎ (left_in k st (d - from) os ≤ left_in k st (d - from) q.opened))
          → Law k ran st c w r (with_open q os ∷ qs)
      reopened os less = λ d h.
          elim (law d h) [
            | inl z ↦ inl z
            | inr (from, b) ↦ elim (cases_lt d q.deadline) [
              | inl far ↦ elim (less d from far b) [ inl z ↦ inl z | inr le ↦ inr (from, search (arith, nat_tests)) ]
              | inr due ↦ inr (from, search (arith, nat_tests))
            ]
          ]

      pub enter_law : (o : Open) → Settled k r (q ∷ qs) → Law k ran st c w r (with_open q (o ∷ q.opened) ∷ qs)
      enter_law o se =
          reopened (o ∷ q.opened)
          (λ d from far b. elim (blocked c d from w r q qs i se far b.after) [ inl z ↦ inl z | inr lo ↦ inr (rw lo (omega arith)) ])

      pub leave_law : (o : Open) (os : List Open) → q.opened ≡ o ∷ os → Law k ran st c w r (with_open q os ∷ qs)
      leave_law o os e = reopened os (λ d from far b. inr (rw e (left_closed k st (d - from) o os)))

    past_bound : (d c : ℕ) (s : List Job) → c < d → AllByRecursion (λ q. d < q.deadline) s → AllByRecursion (JobOk k c) s → left_past k st d (d - c) s ≤ d - c - demand k.tasks (d - c)
    past_bound d c [] lt far js = omega arith
    past_bound d c (q ∷ qs) lt far js =
        let le = left_bound k st (d - c) (d - c - demand k.tasks (d - c)) q.opened
        (all_map (λ o. (o.section < length k.sections) × ((section_at k o.section).task ≡ q.task))
        (λ o. reaches (section_at k o.section).level (d - c) ≡ true → (section_at k o.section).length ≤ d - c - demand k.tasks (d - c))
        (λ o h low'. let past : d - c < relative k (section_at k o.section).task = rw h.1 (omega (arith, far.0, js.0.begun)) in
        omega (arith, ok.fits_held (d - c) o.section (omega arith) h.0 low' past)) q.opened js.0.held) in
        grind (arith, nat_tests, far.0)

    -- the first waiting task is released
    pub release_law : (c : ℕ) (a : Waiting) (w : List Waiting) (r : List Released) (s : List Job) → Shape k c (a ∷ w) r s → a.release ≤ c
        → Law k ran st c (a ∷ w) r s → Law k ran st c w (insert_sorted released_before (release_of k a) r) s
    release_law c a w r s i le law = λ d h.
        let kn = known k c (a ∷ w) r s i in
        let now = i.waits.0 in
        let D-pos : 1 ≤ relative k a.task = omega (arith, ok.c_pos a.task kn.0.0, ok.c_d a.task kn.0.0) in
        let ti = tot_insert (of_released k d) released_before (release_of k a) r in
        elim (law d h) [
          | inr (from, b) ↦ inr (
            from,
            record {
              past = b.past;
              after = all_insert (λ e. e.deadline ≤ d → from + relative k e.task ≤ e.deadline) released_before (release_of k a) r (λ _. omega (arith, b.past)) b.after;
              room = omega (arith, b.room);
            },
          )
          | inl z ↦ elim (cases_lt d (a.release + relative k a.task)) [
            | inl far ↦ inl (all_insert (λ e. d < e.deadline) released_before (release_of k a) r far z.0, z.1)
            | inr due ↦
                let g : ℕ → ℕ = λ n. demand_of (task_at k n) (d - c) in
                let gw : tot (of_waiting k d) (a ∷ w) ≤ tot (λ e. g e.task) (a ∷ w) =
                tot_le (of_waiting k d) (λ e. g e.task) (a ∷ w) (all_map2 (λ e. c ≤ e.release) (λ e. e.task < length k.tasks) _ (λ e x n. dem_from k ok d c e.task (e.release + relative k e.task) n (omega arith)) (a ∷ w) i.waits kn.0) in
                let gr : tot (of_released k d) r ≤ tot (λ e. g e.task) r =
                tot_le (of_released k d) (λ e. g e.task) r (all_map2 (λ e. d < e.deadline) (λ e. e.task < length k.tasks) _ (λ e x n. omega (arith, dem_none k ok d e.task e.deadline n x)) r z.0 kn.1) in
                let gs : tot (of_job k ran d) s ≤ tot (λ q. g q.task) s =
                tot_le (of_job k ran d) (λ q. g q.task) s (all_map2 (λ q. d < q.deadline) (λ q. q.task < length k.tasks) _ (λ q x n. grind (arith, nat_tests, dem_none k ok d q.task (q.deadline + period k q.task) n (omega arith))) s z.1 kn.2) in
                let all_of : demand k.tasks (d - c) ≡ tot (λ (e : Waiting). g e.task) (first_releases 0 (length k.tasks)) = demand_is k (d - c) in
                inr (
                  c,
                  record {
                    past = omega arith;
                    after = all_insert (λ e. e.deadline ≤ d → c + relative k e.task ≤ e.deadline) released_before (release_of k a) r (λ _. omega arith) (all_map (λ e. d < e.deadline) _ (λ e x y. absurd (omega arith)) r z.0);
                    room = omega (arith, gw, gr, gs, i.once g, all_of, ti, ok.fits (d - c) (omega arith), past_bound d c s (omega arith) z.1 i.jobs);
                  },
                )
          ]
        ]
