-- Where every job and every stay keeps its bound, each job that expires has run its whole time.
use Rattle.std.proofs.Common.{◌≡◌, ℕ, ◌+◌, ◌-◌, ◌≤◌, true, List, [], ◌∷◌, None, refl, ap, subst, inl, inr, arith, if◌then◌else◌}
use Rattle.std.specs.List.{AllByRecursion}
use Rattle.std.proofs.lemmas.Bool.Decides.{nat_tests}
use Rattle.admission.specs.Verdict.{Admitted}
use Rattle.machine.specs.declared.call.Call.{Call}
use Rattle.machine.specs.declared.call.Call.TheVariants.{Advance, Enter, Leave, Finish}
use Rattle.machine.specs.State.{Table, Open, Job, State, start, cost, section_at}
use Rattle.machine.specs.Step.{Outcome, step, not_advanced, refused, put_back, leaving, finishing}
use Rattle.machine.specs.Run.{Event, history_from, history, moved, runs, run_time, holds, stays_in, stay, Present, IsAdvance, Expires, Somewhere, GrantFits}
use Rattle.machine.specs.Promise.{OnTime}
use Rattle.machine.proofs.Lists.{all_map}
use Rattle.machine.proofs.Tables.{Fit, fit_if_admitted}
use Rattle.machine.proofs.Moves.{with_open, tick_shape}
use Rattle.machine.proofs.Parts.{made, advance_clock}
use Rattle.machine.proofs.Cases.{Cases, gone_on, granted, chosen, by_case}
use Rattle.machine.proofs.Ahead.{accepted, ahead}
use Rattle.machine.proofs.Shaped.{start_shaped}
use Rattle.machine.proofs.Law.{law_more}
use Rattle.machine.proofs.Lawful.{Top, tick_law}
use Rattle.machine.proofs.Told.{event_of}
use Rattle.machine.proofs.Expiry.{Caps, Sured, advanced_tracked, entered_sured, left_sured, finished_sured}

-- the run times and stays after a call at whose start these jobs were on the stack
abbrev ran_on : (ℕ → ℕ → ℕ) → List Job → ℕ → ℕ → ℕ → ℕ
ran_on ran js m i d = ran i d + (if runs i d js then m else 0)

abbrev stayed_on : (ℕ → ℕ) → List Job → ℕ → ℕ → ℕ
stayed_on st js m n = st n + (if stays_in n js then m else 0)

-- what a call leaves, and that the jobs that expired in it had run their whole time
record Stepped (k : Table) (S : ℕ → ℕ) (ran : ℕ → ℕ → ℕ) (st : ℕ → ℕ) (s : State) (c : Call) (o : Outcome) : Type 0 where
  sured : Sured k S (ran_on ran s.stack (moved (event_of s c o))) (stayed_on st s.stack (moved (event_of s c o))) o.state
  done : (i d : ℕ) → Expires i d (event_of s c o) → cost k i ≤ ran_on ran s.stack (moved (event_of s c o)) i d

-- the entries that a job has open are among those that it has open
holds_all : (all os : List Open) → ((n : ℕ) → holds n os ≡ true → holds n all ≡ true) → AllByRecursion (λ o. holds o.serial all ≡ true) os
holds_all all [] f = tt
holds_all all (o ∷ os) f = (f o.serial (grind (arith, nat_tests)), holds_all all os (λ n h. f n (grind arith)))

module _ (k : Table) (ok : Fit k) (all : List Event) where
  -- how long each stay is in the end
  abbrev S : ℕ → ℕ
  S n = stay n all

  -- what the clock's movement adds for the running job
  top_ticks : (m : ℕ) (ran : ℕ → ℕ → ℕ) (st : ℕ → ℕ) (js : List Job) → Caps k S js
      → ((i d : ℕ) → ran_on ran js m i d ≤ cost k i) → ((n : ℕ) → stayed_on st js m n ≤ S n) → Top k m ran (ran_on ran js m) st (stayed_on st js m) js
  top_ticks m ran st [] caps cr cs = tt
  top_ticks m ran st (q ∷ qs) caps cr cs = record {
    top = grind (arith, nat_tests);
    cap = cr q.task q.deadline;
    stays = all_map (λ o. holds o.serial q.opened ≡ true) (λ o. stayed_on st (q ∷ qs) m o.serial ≡ st o.serial + m)
        (λ o h. grind arith) q.opened (holds_all q.opened q.opened (λ n h. h));
    caps = all_map (λ o. S o.serial ≤ (section_at k o.section).length) (λ o. stayed_on st (q ∷ qs) m o.serial ≤ (section_at k o.section).length)
        (λ o h. omega (arith, h, cs o.serial)) q.opened caps.0;
  }

  module _ (ran : ℕ → ℕ → ℕ) (st : ℕ → ℕ) (s : State) where
    -- run times and stays only grow
    grown : (c : Call) (o : Outcome) → Sured k S ran st o.state → (IsAdvance o.answer → ⊥) → Stepped k S ran st s c o
    grown c o h other =
        let m : ℕ = moved (event_of s c o) in
        let law = law_more k ran (ran_on ran s.stack m) st (stayed_on st s.stack m) (λ i n. omega arith) (λ n. omega arith) o.state.clock o.state.waiting o.state.released o.state.stack h.sure.law in
        record { sured = record { settled = h.settled; sure = record { shape = h.sure.shape; caps = h.sure.caps; law = law } }; done = λ i d e. absurd (other e.0) }

    advance_stepped : (t : ℕ) → not_advanced t s ≡ None → Sured k S ran st s
        → ((i d : ℕ) → ran_on ran s.stack (moved (event_of s (Advance t) (gone_on k t s))) i d ≤ cost k i) → ((n : ℕ) → stayed_on st s.stack (moved (event_of s (Advance t) (gone_on k t s))) n ≤ S n)
        → Stepped k S ran st s (Advance t) (gone_on k t s)
    advance_stepped t e h cr cs =
        let i = h.sure in
        let a = accepted t s e in
        let d = ahead k s.clock t s i.shape a.1 in
        let sh = tick_shape k ok s.clock t s.waiting s.released s.stack i.shape a.0 d.waits d.readies d.jobs in
        let m : ℕ = moved (event_of s (Advance t) (gone_on k t s)) in
        let mv : m ≡ t - s.clock = ap (λ n. n - s.clock) (advance_clock k t s) in
        let tk = subst (λ n. Top k n ran (ran_on ran s.stack m) st (stayed_on st s.stack m) s.stack) mv (top_ticks m ran st s.stack i.caps cr cs) in
        let law = tick_law k ok s.clock t ran (ran_on ran s.stack m) st (stayed_on st s.stack m) s.waiting s.released s.stack a.0
        (λ _ _. omega arith) (λ _. omega arith) tk i.shape h.settled i.law in
        let w = advanced_tracked k ok S (ran_on ran s.stack m) (stayed_on st s.stack m) (λ n x. Present n x s) t s
        (record { shape = sh; law = law; caps = i.caps }) (λ _ _ p. inl p) in
        record { sured = w.sured; done = λ n x gone. let p = w.tracked n x gone.1 in grind arith }

  -- what a call does where no job runs too long and no stay is too long
  abbrev Steps : (ℕ → ℕ → ℕ) → (ℕ → ℕ) → State → Call → Outcome → Type 0
  Steps ran st s c o =
      Sured k S ran st s → ((i d : ℕ) → ran_on ran s.stack (moved (event_of s c o)) i d ≤ cost k i) → ((n : ℕ) → stayed_on st s.stack (moved (event_of s c o)) n ≤ S n)
      → GrantFits k all o.answer → Stepped k S ran st s c o

  step_cases : (ran : ℕ → ℕ → ℕ) (st : ℕ → ℕ) → Cases k (Steps ran st)
  step_cases ran st = record {
    refuse = λ s c r h cr cs g. grown ran st s c (refused s r) h (λ z. z);
    advance = λ s t e h cr cs g. advance_stepped ran st s t e h cr cs;
    enter = λ c w r q qs n x lt ow h cr cs g. grown ran st _ (Enter x) (granted c w r q qs n x) (entered_sured k ok S ran st c w r q qs n x lt ow g h) (λ z. z);
    leave = λ c w r q o os qs n g h cr cs _. grown ran st _ (Leave g) (chosen k (made c w r (with_open q os ∷ qs) (leaving n))) (left_sured k ok S ran st c w r q o os qs n h) (λ z. z);
    finish = λ c w r q qs n h cr cs _. grown ran st _ Finish (chosen k (made c (put_back k q.task q.deadline w) r qs (finishing n))) (finished_sured k ok S ran st c w r q qs n h) (λ z. z);
  }

  module _ (R : ℕ → ℕ → ℕ) (cap : (i d : ℕ) → R i d ≤ cost k i) where
    -- run times and stays so far and of the calls to come make up the whole
    expired_done : (cs : List Call) (s : State) (ran : ℕ → ℕ → ℕ) (st : ℕ → ℕ) → Sured k S ran st s
        → ((i d : ℕ) → ran i d + run_time i d (history_from k s cs) ≡ R i d) → ((n : ℕ) → st n + stay n (history_from k s cs) ≡ S n)
        → ((e : Event) → Somewhere (λ x. x ≡ e) (history_from k s cs) → GrantFits k all e.answer)
        → (i d : ℕ) → Somewhere (Expires i d) (history_from k s cs) → R i d ≡ cost k i
    expired_done [] s ran st h tr ts fit i d some = absurd some
    expired_done (c ∷ cs) s ran st h tr ts fit i d some =
        let e : Event = event_of s c (step k c s) in
        let u : Stepped k S ran st s c (step k c s) =
        by_case k (Steps ran st) (step_cases ran st) c s h (λ n x. omega (arith, tr n x, cap n x)) (λ n. omega (arith, ts n)) (fit e (inl refl)) in
        elim some [
          | inl here ↦ omega (arith, u.done i d here, tr i d, cap i d)
          | inr later ↦ expired_done cs (step k c s).state (ran_on ran s.stack (moved e)) (stayed_on st s.stack (moved e)) u.sured
              (λ n x. omega (arith, tr n x)) (λ n. omega (arith, ts n)) (λ x m. fit x (inr m)) i d later
        ]

pub on_time : (k : Table) (idle : ℕ) → Admitted k.tasks k.sections idle → (cs : List Call) → OnTime k (history k cs)
on_time k idle ad cs kept =
    let ok = fit_if_admitted k idle ad in
    let h = history k cs in
    let z = start_shaped k ok in
    expired_done k ok h (λ i d. run_time i d h) kept.jobs cs (start k) (λ _ _. 0) (λ _. 0)
    (record { settled = z.settled; sure = record { shape = z.shape; law = λ d le. inl (tt, tt); caps = tt } })
    (λ i d. omega arith) (λ n. omega arith) kept.stays
