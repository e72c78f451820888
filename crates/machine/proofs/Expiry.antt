-- In an advance, a job that is taken away has run its whole time, and no released job is taken away.
use Rattle.std.proofs.Common.{◌≡◌, ℕ, ◌<◌, ◌≤◌, Bool, ◌⊎◌, List, [], ◌∷◌, length, refl, inl, inr, arith}
use Rattle.std.specs.List.{AllByRecursion}
use Rattle.std.proofs.lemmas.Bool.{false≢true}
use Rattle.std.proofs.lemmas.Bool.Decides.{nat_tests}
use Rattle.queue.specs.declared.waiting.Waiting.{Waiting}
use Rattle.queue.specs.declared.released.Released.{Released}
use Rattle.queue.specs.Order.{insert_sorted}
use Rattle.queue.specs.Entries.{released_before}
use Rattle.machine.specs.State.{Table, Open, Job, Counts, State, cost, section_at}
use Rattle.machine.specs.Step.{selected, put_back, release_of, clock_at, advanced, leaving, finishing}
use Rattle.machine.specs.Run.{OnStack, IsReleased}
use Rattle.machine.proofs.Lists.{all_map}
use Rattle.machine.proofs.Tables.{Fit}
use Rattle.machine.proofs.Demand.{dem_some}
use Rattle.machine.proofs.Shape.{EntryOk, Shape, Settled, known}
use Rattle.machine.proofs.Moves.{with_open, pop_shape, release_shape, push_shape, open_shape}
use Rattle.machine.proofs.Parts.{Picks, Parts, made, selected_keeps, selected_settled, advanced_gives}
use Rattle.machine.proofs.Cases.{fresh, granted}
use Rattle.machine.proofs.Shaped.{still_settled}
use Rattle.machine.proofs.Law.{Law}
use Rattle.machine.proofs.Lawful.{blocked, pop_law, push_law, enter_law, leave_law, release_law}

-- the longest stay of each open section fits its length
abbrev pub Caps : Table → (ℕ → ℕ) → List Job → Type 0
Caps k S s = AllByRecursion (λ q. AllByRecursion (λ o. S o.serial ≤ (section_at k o.section).length) q.opened) s

-- the invariant of a run in which every job and every stay keeps its bound
pub record Sure (k : Table) (S : ℕ → ℕ) (ran : ℕ → ℕ → ℕ) (st : ℕ → ℕ) (s : State) : Type 0 where
  pub shape : Shape k s.clock s.waiting s.released s.stack
  pub law : Law k ran st s.clock s.waiting s.released s.stack
  pub caps : Caps k S s.stack

-- a state between calls of such a run
pub record Sured (k : Table) (S : ℕ → ℕ) (ran : ℕ → ℕ → ℕ) (st : ℕ → ℕ) (s : State) : Type 0 where
  pub sure : Sure k S ran st s
  pub settled : Settled k s.released s.stack

-- each job of some is still there, or has run its whole time
abbrev pub KeptOrDone : Table → (ℕ → ℕ → Type 0) → (ℕ → ℕ → ℕ) → List Released → List Job → Type 0
KeptOrDone k P ran r s = (i d : ℕ) → P i d → (IsReleased i d r ⊎ OnStack i d s) ⊎ (cost k i ≤ ran i d)

-- in an advance to t
pub record Tracked (k : Table) (S : ℕ → ℕ) (P : ℕ → ℕ → Type 0) (ran : ℕ → ℕ → ℕ) (st : ℕ → ℕ) (t : ℕ) (s : State) : Type 0 where
  pub clock : s.clock ≡ t
  pub sure : Sure k S ran st s
  pub tracked : KeptOrDone k P ran s.released s.stack

-- an entry stays when another is put in
insert_keeps : (i d : ℕ) (b : Released → Released → Bool) (x : Released) (r : List Released) → IsReleased i d r → IsReleased i d (insert_sorted b x r)
insert_keeps i d b x [] h = absurd h
insert_keeps i d b x (y ∷ ys) h =
    let ih = insert_keeps i d b x ys in grind arith

module _ (k : Table) (ok : Fit k) (S : ℕ → ℕ) (ran : ℕ → ℕ → ℕ) (st : ℕ → ℕ) where
  top_done : (c : ℕ) (w : List Waiting) (r : List Released) (q : Job) (qs : List Job) → Law k ran st c w r (q ∷ qs) → q.deadline ≤ c → cost k q.task ≤ ran q.task q.deadline
  top_done c w r q qs law due =
      let l = law c (omega arith) in grind (arith, nat_tests)

  no_lapse : (c : ℕ) (w : List Waiting) (e : Released) (es : List Released) (s : List Job) → Shape k c w (e ∷ es) s → Law k ran st c w (e ∷ es) s → e.deadline ≤ c → ⊥
  no_lapse c w e es s i law due =
      let n = (known k c w (e ∷ es) s i).1.0 in
      let l = law c (omega arith) in grind (arith, dem_some k ok c e.task e.deadline n due, ok.c_pos e.task n)

  sure_picks : Picks k (Sure k S ran st)
  sure_picks c w e es s n i g = record { shape = push_shape k ok c w e es s i.shape g; law = push_law k ok ran st c w e es s i.shape g i.law; caps = (tt, i.caps) }

  selected_sured : (s : State) → Sure k S ran st s → Sured k S ran st (selected k s)
  selected_sured s i = record { sure = selected_keeps k (Sure k S ran st) sure_picks s i; settled = selected_settled k s i.shape.by_deadline }

  -- after an advance, each job of some is still there, or has run its whole time
  pub record Advanced (P : ℕ → ℕ → Type 0) (s : State) : Type 0 where
    pub sured : Sured k S ran st s
    pub tracked : KeptOrDone k P ran s.released s.stack

  module _ (P : ℕ → ℕ → Type 0) (t : ℕ) where
    tracked_picks : Picks k (Tracked k S P ran st t)
    tracked_picks c w e es s n i g = record {
      clock = i.clock;
      sure = sure_picks c w e es s n i.sure g;
      tracked = λ n d p. let x = i.tracked n d p in grind arith;
    }

    tracked_parts : Parts k t (Tracked k S P ran st t)
    tracked_parts = record {
      pop = λ c w r q qs n i e.
          let done = top_done c w r q qs i.sure.law (omega (arith, i.clock)) in
          record {
            clock = i.clock;
            sure = record {
              shape = pop_shape k ok c w r q qs i.sure.shape;
              law = pop_law k ok ran st c w r q qs i.sure.shape (λ d far. inr (omega (arith, i.clock))) i.sure.law;
              caps = i.sure.caps.1;
            };
            tracked = λ n d p. let x = i.tracked n d p in grind arith;
          };
      lapse = λ c w e es s n i d. absurd (no_lapse c w e es s i.sure.shape i.sure.law (omega (arith, i.clock)));
      release = λ c a w r s n i e. record {
        clock = i.clock;
        sure = record {
          shape = release_shape k ok c a w r s i.sure.shape (omega (arith, i.clock));
          law = release_law k ok ran st c a w r s i.sure.shape (omega (arith, i.clock)) i.sure.law;
          caps = i.sure.caps;
        };
        tracked = λ n d p. let x = i.tracked n d p in grind (arith, insert_keeps n d released_before (release_of k a) r);
      };
    }

    pub advanced_tracked : (s : State) → Sure k S ran st (clock_at t s) → KeptOrDone k P ran s.released s.stack → Advanced P (advanced k t s)
    advanced_tracked s i tr =
        advanced_gives k (Tracked k S P ran st t) tracked_picks t tracked_parts (Advanced P)
        (λ x i. record { sured = selected_sured x i.sure; tracked = (selected_keeps k (Tracked k S P ran st t) tracked_picks x i).tracked })
        s (record { clock = refl; sure = i; tracked = tr })

  pub entered_sured : (c : ℕ) (w : List Waiting) (r : List Released) (q : Job) (qs : List Job) (n : Counts) (x : ℕ) → x < length k.sections → (section_at k x).task ≡ q.task
      → S n.entries ≤ (section_at k x).length → Sured k S ran st (made c w r (q ∷ qs) n) → Sured k S ran st (granted c w r q qs n x).state
  entered_sured c w r q qs n x lt ow fits h =
      let i = h.sure in
      record {
        sure = record {
          shape = open_shape k ok c w r q qs (fresh x n.entries ∷ q.opened) i.shape ((lt, ow), i.shape.jobs.0.held);
          law = enter_law k ok ran st c w r q qs i.shape i.law (fresh x n.entries) h.settled;
          caps = ((fits, i.caps.0), i.caps.1);
        };
        settled = still_settled k r q qs x n.entries h.settled;
      }

  pub left_sured : (c : ℕ) (w : List Waiting) (r : List Released) (q : Job) (o : Open) (os : List Open) (qs : List Job) (n : Counts)
      → Sured k S ran st (made c w r (with_open q (o ∷ os) ∷ qs) n) → Sured k S ran st (selected k (made c w r (with_open q os ∷ qs) (leaving n)))
  left_sured c w r q o os qs n h =
      let i = h.sure in
      let more : Job = with_open q (o ∷ os) in
      selected_sured (made c w r (with_open q os ∷ qs) (leaving n)) (record {
        shape = open_shape k ok c w r more qs os i.shape i.shape.jobs.0.held.1;
        law = leave_law k ok ran st c w r more qs i.shape i.law o os refl;
        caps = (i.caps.0.1, i.caps.1);
      })

  pub finished_sured : (c : ℕ) (w : List Waiting) (r : List Released) (q : Job) (qs : List Job) (n : Counts)
      → Sured k S ran st (made c w r (with_open q [] ∷ qs) n) → Sured k S ran st (selected k (made c (put_back k q.task q.deadline w) r qs (finishing n)))
  finished_sured c w r q qs n h =
      let i = h.sure in
      let none : Job = with_open q [] in
      selected_sured (made c (put_back k q.task q.deadline w) r qs (finishing n)) (record {
        shape = pop_shape k ok c w r none qs i.shape;
        law = pop_law k ok ran st c w r none qs i.shape (λ d far.
            elim (blocked k ok c d 0 w r none qs i.shape h.settled far (all_map (EntryOk k c) _ (λ e x due. omega (arith, x.base)) r i.shape.readies))
            [ inl z ↦ inl z | inr lo ↦ absurd (false≢true lo) ]) i.law;
        caps = i.caps.1;
      })
