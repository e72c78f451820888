-- Every call keeps the shape and leaves the state settled, so every state that a run reaches has both.
use Rattle.std.proofs.Common.{◌≡◌, ℕ, zero, suc, ◌+◌, ◌≤◌, List, [], ◌∷◌, length, None, refl, arith}
use Rattle.std.specs.List.{AllByRecursion}
use Rattle.std.proofs.lemmas.Bool.Decides.{nat_tests}
use Rattle.queue.specs.declared.waiting.Waiting.{Waiting}
use Rattle.queue.specs.declared.released.Released.{Released}
use Rattle.machine.specs.declared.call.Call.{Call}
use Rattle.machine.specs.State.{Table, Job, State, start, section_at, inherited, first_releases}
use Rattle.machine.specs.Step.{selected, put_back, not_advanced, advanced, leaving, finishing}
use Rattle.machine.specs.Run.{reached}
use Rattle.machine.proofs.Lists.{Sorted}
use Rattle.machine.proofs.Tables.{Fit}
use Rattle.machine.proofs.Shape.{Shape, Settled, or_lower_le}
use Rattle.machine.proofs.Moves.{with_open, tick_shape, pop_shape, lapse_shape, release_shape, push_shape, open_shape}
use Rattle.machine.proofs.Parts.{Parts, made, selected_keeps, selected_settled, advanced_gives}
use Rattle.machine.proofs.Ahead.{accepted, ahead}
use Rattle.machine.proofs.Cases.{Cases, fresh, by_case, run_keeps}

-- a state between calls
pub record Shaped (k : Table) (s : State) : Type 0 where
  pub shape : Shape k s.clock s.waiting s.released s.stack
  pub settled : Settled k s.released s.stack

-- a section more keeps a state settled
pub still_settled : (k : Table) (r : List Released) (q : Job) (qs : List Job) (x n : ℕ) → Settled k r (q ∷ qs) → Settled k r (with_open q (fresh x n ∷ q.opened) ∷ qs)
still_settled k [] q qs x n st = tt
still_settled k (e ∷ es) q qs x n st = let le = or_lower_le (inherited k q) (section_at k x).level in grind (arith, nat_tests)

module _ (k : Table) (ok : Fit k) where
  selected_shaped : (s : State) → Shape k s.clock s.waiting s.released s.stack → Shaped k (selected k s)
  selected_shaped s i = record {
    shape = selected_keeps k (λ x. Shape k x.clock x.waiting x.released x.stack) (λ c w e es js n i g. push_shape k ok c w e es js i g) s i;
    settled = selected_settled k s i.by_deadline;
  }

  -- the shape at an instant
  abbrev At : ℕ → State → Type 0
  At t x = (x.clock ≡ t) × Shape k x.clock x.waiting x.released x.stack

  shape_parts : (t : ℕ) → Parts k t (At t)
  shape_parts t = record {
    pop = λ c w r q qs n i e. (i.0, pop_shape k ok c w r q qs i.1);
    lapse = λ c w e es s n i d. (i.0, lapse_shape k ok c w e es s i.1);
    release = λ c a w r s n i e. (i.0, release_shape k ok c a w r s i.1 (omega (arith, i.0)));
  }

  advance_shaped : (s : State) (t : ℕ) → not_advanced t s ≡ None → Shaped k s → Shaped k (advanced k t s)
  advance_shaped s t e h =
      let a = accepted t s e in
      let d = ahead k s.clock t s h.shape a.1 in
      let sh = tick_shape k ok s.clock t s.waiting s.released s.stack h.shape a.0 d.waits d.readies d.jobs in
      advanced_gives k (At t) (λ c w e es js n i g. (i.0, push_shape k ok c w e es js i.1 g)) t (shape_parts t) (Shaped k) (λ x i. selected_shaped x i.1) s (refl, sh)

  shaped_cases : Cases k (λ s c o. Shaped k s → Shaped k o.state)
  shaped_cases = record {
    refuse = λ s c r h. h;
    advance = advance_shaped;
    enter = λ c w r q qs n x lt ow h. record {
      shape = open_shape k ok c w r q qs (fresh x n.entries ∷ q.opened) h.shape ((lt, ow), h.shape.jobs.0.held);
      settled = still_settled k r q qs x n.entries h.settled;
    };
    leave = λ c w r q o os qs n g h.
        selected_shaped (made c w r (with_open q os ∷ qs) (leaving n)) (open_shape k ok c w r (with_open q (o ∷ os)) qs os h.shape h.shape.jobs.0.held.1);
    finish = λ c w r q qs n h.
        selected_shaped (made c (put_back k q.task q.deadline w) r qs (finishing n)) (pop_shape k ok c w r (with_open q []) qs h.shape);
  }

  firsts_at : (n i : ℕ) → AllByRecursion (λ (a : Waiting). 0 ≤ a.release) (first_releases i n)
  firsts_at zero i = tt
  firsts_at (suc n) i = (omega arith, firsts_at n (i + 1))

  firsts_sorted : (n i : ℕ) → Sorted (λ (a : Waiting). a.release) (first_releases i n)
  firsts_sorted zero i = tt
  firsts_sorted (suc n) i = (firsts_at n (i + 1), firsts_sorted n (i + 1))

  pub start_shaped : Shaped k (start k)
  start_shaped = record {
    settled = tt;
    shape = record {
      waits = firsts_at (length k.tasks) 0;
      by_release = firsts_sorted (length k.tasks) 0;
      readies = tt;
      by_deadline = tt;
      jobs = tt;
      rising = tt;
      nested = tt;
      inward = tt;
      once = λ g. omega arith;
    };
  }

  pub reached_shaped : (cs : List Call) → Shaped k (reached k cs)
  reached_shaped cs = run_keeps k (Shaped k) (by_case k (λ s c o. Shaped k s → Shaped k o.state) shaped_cases) cs (start k) start_shaped
