-- What holds of every call, by cases: the call is refused, or an advance, an entry, a leave or a finish that is not.
use Rattle.std.proofs.Common.{◌≡◌, ℕ, ◌<◌, true, ◌&&◌, List, [], ◌∷◌, length, Some, None, refl, arith, if◌then◌else◌, ◌==◌, nat_lt}
use Rattle.std.proofs.lemmas.Bool.{cond_both, and_parts, false≢true}
use Rattle.std.proofs.lemmas.Bool.Decides.{nat_tests}
use Rattle.queue.specs.declared.waiting.Waiting.{Waiting}
use Rattle.queue.specs.declared.released.Released.{Released}
use Rattle.machine.specs.declared.call.Ticket.{Ticket}
use Rattle.machine.specs.declared.call.Call.{Call}
use Rattle.machine.specs.declared.call.Call.TheVariants.{Advance, Enter, Leave, Finish}
use Rattle.machine.specs.declared.call.Refusal.{Refusal}
use Rattle.machine.specs.declared.call.Refusal.TheVariants.{NothingRuns, NotEnterable, TooManyEntries, NotInnermost, NotOpen, StillOpen}
use Rattle.machine.specs.declared.call.Answer.TheVariants.{Granted, Running}
use Rattle.machine.specs.State.{Table, Open, Job, Counts, State, section_at, running}
use Rattle.machine.specs.Step.{selected, put_back, not_advanced, advanced, advanced_answer, Outcome, refused, entered, enterable, ticket, entering, left, leaving, is_innermost, grant_open, closed, finished, finishing, most_entries, step}
use Rattle.machine.specs.Run.{state_from}
use Rattle.machine.proofs.Moves.{with_open}
use Rattle.machine.proofs.Parts.{made}

-- a section that a job has just entered
abbrev pub fresh : ℕ → ℕ → Open
fresh x n = record { section = x; serial = n }

-- what is left of a call that is not refused: of an advance, of an entry, and of a call that ends with selection
abbrev pub gone_on : Table → ℕ → State → Outcome
gone_on k t s = record { state = advanced k t s; answer = advanced_answer s (advanced k t s) }

abbrev pub granted : ℕ → List Waiting → List Released → Job → List Job → Counts → ℕ → Outcome
granted c w r q qs n x = record { state = made c w r (with_open q (fresh x n.entries ∷ q.opened) ∷ qs) (entering n); answer = Granted (ticket q x n.entries) }

abbrev pub chosen : Table → State → Outcome
chosen k s = record { state = selected k s; answer = Running (running (selected k s).stack) }

-- a statement about what a state and a call come to, in each case
pub record Cases (k : Table) (P : State → Call → Outcome → Type 0) : Type 0 where
  pub refuse : (s : State) (c : Call) (r : Refusal) → P s c (refused s r)
  pub advance : (s : State) (t : ℕ) → not_advanced t s ≡ None → P s (Advance t) (gone_on k t s)
  pub enter : (c : ℕ) (w : List Waiting) (r : List Released) (q : Job) (qs : List Job) (n : Counts) (x : ℕ) → x < length k.sections → (section_at k x).task ≡ q.task
      → P (made c w r (q ∷ qs) n) (Enter x) (granted c w r q qs n x)
  pub leave : (c : ℕ) (w : List Waiting) (r : List Released) (q : Job) (o : Open) (os : List Open) (qs : List Job) (n : Counts) (g : Ticket)
      → P (made c w r (with_open q (o ∷ os) ∷ qs) n) (Leave g) (chosen k (made c w r (with_open q os ∷ qs) (leaving n)))
  pub finish : (c : ℕ) (w : List Waiting) (r : List Released) (q : Job) (qs : List Job) (n : Counts)
      → P (made c w r (with_open q [] ∷ qs) n) Finish (chosen k (made c (put_back k q.task q.deadline w) r qs (finishing n)))

module _ (k : Table) (P : State → Call → Outcome → Type 0) (a : Cases k P) where
  advance_case : (t : ℕ) (s : State) → P s (Advance t) (step k (Advance t) s)
  unfolding step
  advance_case t s =
      elim (not_advanced t s) as (λ o. not_advanced t s ≡ o → P s (Advance t) (elim o [ Some r ↦ refused s r | None ↦ gone_on k t s ]))
      [ Some r ↦ λ _. a.refuse s (Advance t) r | None ↦ λ e. a.advance s t e ] refl

  enter_case : (x c : ℕ) (w : List Waiting) (r : List Released) (s : List Job) (n : Counts) → P (made c w r s n) (Enter x) (entered k x (made c w r s n) s)
  enter_case x c w r [] n = a.refuse (made c w r [] n) (Enter x) NothingRuns
  enter_case x c w r (q ∷ qs) n =
      let old : State = made c w r (q ∷ qs) n in
      cond_both (enterable k x q) (if nat_lt n.entries most_entries then granted c w r q qs n x else refused old TooManyEntries) (refused old NotEnterable) (P old (Enter x))
      (λ y.
      let lt : x < length k.sections = grind (arith, nat_tests) in
      let own : (section_at k x).task ≡ q.task = grind (arith, nat_tests) in
      cond_both (nat_lt n.entries most_entries) (granted c w r q qs n x) (refused old TooManyEntries) (P old (Enter x))
      (λ _. a.enter c w r q qs n x lt own) (λ _. a.refuse old (Enter x) TooManyEntries))
      (λ _. a.refuse old (Enter x) NotEnterable)

  innermost_case : (g : Ticket) (c : ℕ) (w : List Waiting) (r : List Released) (q : Job) (os : List Open) (qs : List Job) (n : Counts) → is_innermost g os ≡ true
      → P (made c w r (with_open q os ∷ qs) n) (Leave g) (chosen k (made c w r (with_open q (closed os) ∷ qs) (leaving n)))
  innermost_case g c w r q [] qs n e = absurd (false≢true e)
  innermost_case g c w r q (o ∷ os) qs n e = a.leave c w r q o os qs n g

  leave_case : (g : Ticket) (c : ℕ) (w : List Waiting) (r : List Released) (s : List Job) (n : Counts) → P (made c w r s n) (Leave g) (left k g (made c w r s n) s)
  leave_case g c w r [] n = a.refuse (made c w r [] n) (Leave g) NotOpen
  leave_case g c w r (q ∷ qs) n =
      let old : State = made c w r (q ∷ qs) n in
      cond_both (q.task == g.task && is_innermost g q.opened) (chosen k (made c w r (with_open q (closed q.opened) ∷ qs) (leaving n)))
      (if grant_open g (q ∷ qs) then refused old (NotInnermost g) else refused old NotOpen) (P old (Leave g))
      (λ y. innermost_case g c w r q q.opened qs n (and_parts (q.task == g.task) _ y).1)
      (λ _. cond_both (grant_open g (q ∷ qs)) (refused old (NotInnermost g)) (refused old NotOpen) (P old (Leave g))
      (λ _. a.refuse old (Leave g) (NotInnermost g)) (λ _. a.refuse old (Leave g) NotOpen))

  done_case : (c : ℕ) (w : List Waiting) (r : List Released) (q : Job) (os : List Open) (qs : List Job) (n : Counts)
      → P (made c w r (with_open q os ∷ qs) n) Finish (finished k (made c w r (with_open q os ∷ qs) n) (with_open q os ∷ qs))
  done_case c w r q [] qs n = a.finish c w r q qs n
  done_case c w r q (o ∷ os) qs n = a.refuse (made c w r (with_open q (o ∷ os) ∷ qs) n) Finish StillOpen

  finish_case : (c : ℕ) (w : List Waiting) (r : List Released) (s : List Job) (n : Counts) → P (made c w r s n) Finish (finished k (made c w r s n) s)
  finish_case c w r [] n = a.refuse (made c w r [] n) Finish NothingRuns
  finish_case c w r (q ∷ qs) n = done_case c w r q q.opened qs n

  pub by_case : (c : Call) (s : State) → P s c (step k c s)
  unfolding step
  by_case (Advance t) s = advance_case t s
  by_case (Enter x) s = enter_case x s.clock s.waiting s.released s.stack s.counts
  by_case (Leave g) s = leave_case g s.clock s.waiting s.released s.stack s.counts
  by_case Finish s = finish_case s.clock s.waiting s.released s.stack s.counts

-- what each call keeps, a run keeps
pub run_keeps : (k : Table) (P : State → Type 0) → ((c : Call) (s : State) → P s → P (step k c s).state) → (cs : List Call) (s : State) → P s → P (state_from k s cs)
run_keeps k P f [] s p = p
run_keeps k P f (c ∷ cs) s p = run_keeps k P f cs (step k c s).state (f c s p)
