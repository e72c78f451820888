-- What the parts of a call keep, they keep through the whole call. The parts: selection, expiry, lapse and release, for any statement about states.
use Rattle.std.proofs.Common.{◌≡◌, ℕ, true, List, [], ◌∷◌, length, refl, arith, ◌==◌}
use Rattle.std.proofs.lemmas.Bool.{cond_both, eqb-true}
use Rattle.std.proofs.lemmas.Bool.Decides.{nat_tests}
use Rattle.queue.specs.declared.waiting.Waiting.{Waiting}
use Rattle.queue.specs.declared.released.Released.{Released}
use Rattle.queue.specs.Order.{insert_sorted}
use Rattle.queue.specs.Entries.{released_before}
use Rattle.machine.specs.State.{Table, Job, Counts, State}
use Rattle.machine.specs.Step.{goes, picked, selected, put_back, top_expired, lapsed, release_of, released_at, clock_at, advanced, expiring, releasing}
use Rattle.machine.proofs.Lists.{Sorted}
use Rattle.machine.proofs.Shape.{Settled}
use Rattle.machine.proofs.Moves.{begin}

abbrev pub made : ℕ → List Waiting → List Released → List Job → Counts → State
made c w r s n = record { clock = c; waiting = w; released = r; stack = s; counts = n }

-- a statement that selection keeps
abbrev pub Picks : Table → (State → Type 0) → Type 0
Picks k I = (c : ℕ) (w : List Waiting) (e : Released) (es : List Released) (s : List Job) (n : Counts) → I (made c w (e ∷ es) s n) → goes k e s ≡ true → I (made c w es (begin e ∷ s) n)

-- a statement that the parts of an advance to t keep
pub record Parts (k : Table) (t : ℕ) (I : State → Type 0) : Type 0 where
  pub pop : (c : ℕ) (w : List Waiting) (r : List Released) (q : Job) (qs : List Job) (n : Counts) → I (made c w r (q ∷ qs) n) → q.deadline ≡ t
      → I (made c (put_back k q.task q.deadline w) r qs (expiring 1 (length q.opened) n))
  pub lapse : (c : ℕ) (w : List Waiting) (e : Released) (es : List Released) (s : List Job) (n : Counts) → I (made c w (e ∷ es) s n) → e.deadline ≡ t
      → I (made c (put_back k e.task e.deadline w) es s (expiring 1 0 n))
  pub release : (c : ℕ) (a : Waiting) (w : List Waiting) (r : List Released) (s : List Job) (n : Counts) → I (made c (a ∷ w) r s n) → a.release ≡ t
      → I (made c w (insert_sorted released_before (release_of k a) r) s (releasing n))

module _ (k : Table) where
  -- after a push, what is released is less urgent
  next_settled : (e : Released) (es : List Released) (s : List Job) → Sorted (λ a. a.deadline) (e ∷ es) → Settled k es (begin e ∷ s)
  next_settled e [] s so = tt
  next_settled e (z ∷ zs) s so = let le = so.0.0 in grind (arith, nat_tests)

  picked_settled : (c : ℕ) (w : List Waiting) (r : List Released) (s : List Job) (n : Counts) → Sorted (λ e. e.deadline) r
      → Settled k (picked k (made c w r s n) r).released (picked k (made c w r s n) r).stack
  picked_settled c w [] s n so = tt
  picked_settled c w (e ∷ es) s n so =
      let le = next_settled e es s so in grind arith

  pub selected_settled : (s : State) → Sorted (λ e. e.deadline) s.released → Settled k (selected k s).released (selected k s).stack
  unfolding selected
  selected_settled s so = picked_settled s.clock s.waiting s.released s.stack s.counts so

  module _ (I : State → Type 0) (p : Picks k I) where
    picked_keeps : (c : ℕ) (w : List Waiting) (r : List Released) (s : List Job) (n : Counts) → I (made c w r s n) → I (picked k (made c w r s n) r)
    picked_keeps c w [] s n i = i
    picked_keeps c w (e ∷ es) s n i = cond_both (goes k e s) (made c w es (begin e ∷ s) n) (made c w (e ∷ es) s n) I (p c w e es s n i) (λ _. i)

    pub selected_keeps : (s : State) → I s → I (selected k s)
    unfolding selected
    selected_keeps s i = picked_keeps s.clock s.waiting s.released s.stack s.counts i

    module _ (t : ℕ) (a : Parts k t I) where
      expired_keeps : (c : ℕ) (w : List Waiting) (r : List Released) (s : List Job) (n : Counts) → I (made c w r s n) → I (top_expired k t (made c w r s n) s)
      expired_keeps c w r [] n i = i
      expired_keeps c w r (q ∷ qs) n i =
          cond_both (q.deadline == t) (made c (put_back k q.task q.deadline w) r qs (expiring 1 (length q.opened) n)) (made c w r (q ∷ qs) n) I
          (λ y. a.pop c w r q qs n i (eqb-true _ _ y)) (λ _. i)

      lapsed_keeps : (c : ℕ) (r : List Released) (w : List Waiting) (s : List Job) (n : Counts) → I (made c w r s n) → I (lapsed k t (made c w r s n) r)
      lapsed_keeps c [] w s n i = i
      lapsed_keeps c (e ∷ es) w s n i =
          cond_both (e.deadline == t) (lapsed k t (made c (put_back k e.task e.deadline w) es s (expiring 1 0 n)) es) (made c w (e ∷ es) s n) I
          (λ y. lapsed_keeps c es (put_back k e.task e.deadline w) s (expiring 1 0 n) (a.lapse c w e es s n i (eqb-true _ _ y))) (λ _. i)

      released_keeps : (c : ℕ) (w : List Waiting) (r : List Released) (s : List Job) (n : Counts) → I (made c w r s n) → I (released_at k t (made c w r s n) w)
      released_keeps c [] r s n i = i
      released_keeps c (a₁ ∷ w) r s n i =
          cond_both (a₁.release == t) (released_at k t (made c w (insert_sorted released_before (release_of k a₁) r) s (releasing n)) w) (made c (a₁ ∷ w) r s n) I
          (λ y. released_keeps c w (insert_sorted released_before (release_of k a₁) r) s (releasing n) (a.release c a₁ w r s n i (eqb-true _ _ y))) (λ _. i)

      -- what selection gives where the statement holds, an advance gives
      pub advanced_gives : (Q : State → Type 0) → ((x : State) → I x → Q (selected k x)) → (s : State) → I (clock_at t s) → Q (advanced k t s)
      unfolding advanced
      advanced_gives Q f s i =
          let x : State = top_expired k t (clock_at t s) s.stack in
          let y : State = lapsed k t x x.released in
          let z : State = released_at k t y y.waiting in
          f z (released_keeps y.clock y.waiting y.released y.stack y.counts
          (lapsed_keeps x.clock x.released x.waiting x.stack x.counts (expired_keeps t s.waiting s.released s.stack s.counts i)))

      pub advanced_keeps : (s : State) → I (clock_at t s) → I (advanced k t s)
      advanced_keeps = advanced_gives I selected_keeps

  -- an advance to t leaves the clock at t
  pub advance_clock : (t : ℕ) (s : State) → (advanced k t s).clock ≡ t
  advance_clock t s =
      advanced_keeps (λ x. x.clock ≡ t) (λ c w e es s n i _. i) t
      (record { pop = λ c w r q qs n i _. i; lapse = λ c w e es s n i _. i; release = λ c a w r s n i _. i }) s refl
