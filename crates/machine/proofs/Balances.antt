-- The counts and balances of every run: counts are what the history tells, no job, section or task is lost, and no grant ends twice.
use Rattle.std.proofs.Common.{◌≡◌, ℕ, zero, suc, ◌+◌, ◌<◌, ◌≤◌, Bool, true, ◌⊎◌, List, [], ◌∷◌, length, refl, inl, inr, arith, if◌then◌else◌, ◌==◌, nat_lt}
use Rattle.std.proofs.lemmas.Bool.{cases_Bool, cases_eq}
use Rattle.std.proofs.lemmas.Bool.Decides.{nat_tests}
use Rattle.std.proofs.lemmas.List.Recursion.{same_from_clauses}
use Rattle.queue.specs.declared.waiting.Waiting.{Waiting}
use Rattle.queue.specs.declared.released.Released.{Released}
use Rattle.machine.specs.declared.call.Call.{Call}
use Rattle.machine.specs.declared.call.Answer.{Answer}
use Rattle.machine.specs.declared.call.Refusal.{Refusal}
use Rattle.machine.specs.declared.call.Answer.TheVariants.{Advanced, Granted, Running, Refused}
use Rattle.machine.specs.State.{Table, Job, State, start, first_releases}
use Rattle.machine.specs.Step.{step}
use Rattle.machine.specs.Run.{Event, history_from, history, state_from, reached, total, gives, ended, is_open}
use Rattle.machine.specs.Promise.{waits, is_out, stands, open_count, releases_of, expiries_of, finishes_of, entries_of, leaves_of, taken_of, Counted, Balance}
use Rattle.machine.proofs.Lists.{tot}
use Rattle.machine.proofs.Shape.{Shape}
use Rattle.machine.proofs.Cases.{run_keeps}
use Rattle.machine.proofs.Told.{event_of, told}

-- a call makes one entry or none
one_entry : (s : State) (c : Call) (a : Answer Refusal) (s' : State) → entries_of (record { before = s; call = c; answer = a; after = s' }) ≤ 1
one_entry s c (Advanced (x, r, i)) s' = omega arith
one_entry s c (Granted g) s' = omega arith
one_entry s c (Running i) s' = omega arith
one_entry s c (Refused r) s' = omega arith

-- whether a grant was made, whether it was made and is not open any more, and whether a call ends it
abbrev used : ℕ → State → ℕ
used n s = if nat_lt n s.counts.entries then 1 else 0

abbrev over : ℕ → State → ℕ
over n s = if nat_lt n s.counts.entries then (if is_open n s.stack then 0 else 1) else 0

abbrev ends : ℕ → Event → ℕ
ends n e = if is_open n e.before.stack then (if is_open n e.after.stack then 0 else 1) else 0

-- a grant that was made and is not open is never open again
over_more : (n m m' : ℕ) (b b' : Bool) → m ≤ m' → (b ≡ true → n < m) → (b' ≡ true → (b ≡ true) ⊎ ((n ≡ m) × (m' ≡ m + 1)))
    → (if nat_lt n m then (if b then 0 else 1) else 0) + (if b then (if b' then 0 else 1) else 0) ≤ (if nat_lt n m' then (if b' then 0 else 1) else 0)
over_more n m m' b b' up h opens = grind (arith, nat_tests)

module _ (k : Table) where
  -- what each call adds to a number of the state, a history adds up
  added : (f : State → ℕ) (g : Event → ℕ) → ((c : Call) (s : State) → f (step k c s).state ≡ f s + g (event_of s c (step k c s))) → (cs : List Call) (s : State)
      → f (state_from k s cs) ≡ f s + total g (history_from k s cs)
  added f g add [] s = omega arith
  added f g add (c ∷ cs) s = omega (arith, add c s, added f g add cs (step k c s).state)

  adds_up : (f : State → ℕ) (g : Event → ℕ) → ((c : Call) (s : State) → f (step k c s).state ≡ f s + g (event_of s c (step k c s))) → f (start k) ≡ 0 → (cs : List Call)
      → f (reached k cs) ≡ total g (history k cs)
  adds_up f g add none cs = omega (arith, added f g add cs (start k))

  pub counted_reached : (cs : List Call) → Counted (history k cs) (reached k cs)
  counted_reached cs = record {
    releases = adds_up (λ s. s.counts.releases) releases_of (λ c s. (told k c s).releases) refl cs;
    expiries = adds_up (λ s. s.counts.expiries) expiries_of (λ c s. (told k c s).expiries) refl cs;
    finishes = adds_up (λ s. s.counts.finishes) finishes_of (λ c s. (told k c s).finishes) refl cs;
    entries = adds_up (λ s. s.counts.entries) entries_of (λ c s. (told k c s).entries) refl cs;
    leaves = adds_up (λ s. s.counts.leaves) leaves_of (λ c s. (told k c s).leaves) refl cs;
    taken = adds_up (λ s. s.counts.taken) taken_of (λ c s. (told k c s).taken) refl cs;
  }

  -- jobs and open sections
  abbrev Jobs : State → Type 0
  Jobs s = s.counts.releases ≡ s.counts.finishes + s.counts.expiries + length s.released + length s.stack

  abbrev Sections : State → Type 0
  Sections s = s.counts.entries ≡ s.counts.leaves + s.counts.taken + open_count s.stack

  used_more : (n : ℕ) (c : Call) (s : State) → used n (step k c s).state ≡ used n s + gives n (step k c s).answer
  used_more n c s =
      let t = told k c s in
      let one = one_entry s c (step k c s).answer (step k c s).state in
      grind (arith, nat_tests, t.serials n, t.entries)

  -- every open grant was made
  abbrev Made : State → Type 0
  Made s = (n : ℕ) → is_open n s.stack ≡ true → n < s.counts.entries

  made_after : (c : Call) (s : State) → Made s → Made (step k c s).state
  made_after c s h n t = let u = told k c s in elim (u.opens n t) [ inl y ↦ omega (arith, h n y, u.entries) | inr e ↦ omega (arith, e.0, e.1) ]

  once_ended : (n : ℕ) (cs : List Call) (s : State) → Made s → over n s + ended n (history_from k s cs) ≤ 1
  once_ended n [] s h = grind (arith, nat_tests)
  once_ended n (c ∷ cs) s h = omega (arith, (let t = told k c s in over_more n s.counts.entries _ (is_open n s.stack) _ (omega (arith, t.entries)) (h n) (t.opens n)), once_ended n cs (step k c s).state (made_after c s h))

-- places
is : ℕ → ℕ → ℕ
is i n = if n == i then 1 else 0

firsts : (i n j : ℕ) → tot (λ (a : Waiting). is i a.task) (first_releases j n) + (if nat_lt i j then 1 else 0) ≡ (if nat_lt i (j + n) then 1 else 0)
unfolding is
firsts i zero j = grind (arith, nat_tests)
firsts i (suc n) j = let ih = firsts i n (j + 1) in grind (arith, nat_tests)

-- each task stands in just one place, and no number that is no task's stands anywhere
placed : (k : Table) (c : ℕ) (w : List Waiting) (r : List Released) (s : List Job) → Shape k c w r s → (i : ℕ) → waits i w + is_out i r + stands i s ≡ (if nat_lt i (length k.tasks) then 1 else 0)
unfolding is
placed k c w r s h i =
    grind (
      arith,
      nat_tests,
      h.once (is i),
      firsts i (length k.tasks) 0,
      same_from_clauses (tot (λ (a : Waiting). is i a.task)) (waits i) (λ a n. is i a.task + n) refl (λ _ _. refl) (λ _ _. refl) w,
      same_from_clauses (tot (λ (e : Released). is i e.task)) (is_out i) (λ e n. is i e.task + n) refl (λ _ _. refl) (λ _ _. refl) r,
      same_from_clauses (tot (λ (q : Job). is i q.task)) (stands i) (λ q n. is i q.task + n) refl (λ _ _. refl) (λ _ _. refl) s,
    )

pub balance_reached : (k : Table) (cs : List Call) → Shape k (reached k cs).clock (reached k cs).waiting (reached k cs).released (reached k cs).stack → Balance k (history k cs) (reached k cs)
balance_reached k cs h =
    let s : State = reached k cs in
    record {
      places = λ i lt. let e = placed k s.clock s.waiting s.released s.stack h i in grind (arith, nat_tests);
      strangers = λ i ge. let e = placed k s.clock s.waiting s.released s.stack h i in grind (arith, nat_tests);
      jobs = run_keeps k (Jobs k) (λ c x i. omega (arith, i, (told k c x).jobs)) cs (start k) refl;
      sections = run_keeps k (Sections k) (λ c x i. omega (arith, i, (told k c x).sections)) cs (start k) refl;
      fresh = λ n. let e = adds_up k (used n) (λ x. gives n x.answer) (used_more k n) (grind (arith, nat_tests)) cs in (λ lt. grind (arith, nat_tests), λ ge. grind (arith, nat_tests));
      once = λ n. omega (arith, once_ended k n cs (start k) (λ m e. absurd (Rattle.std.proofs.lemmas.Bool.false≢true e)));
    }
