-- A grant and the stack: it is open in the one job that its task has there, or nowhere.
use Rattle.std.proofs.Common.{◌≡◌, ℕ, zero, suc, ◌<◌, ◌≤◌, Bool, true, false, if◌then◌else◌, ◌&&◌, ◌||◌, ◌==◌, ◌≢◌, List, [], ◌∷◌, length, slice_index_or, sym, refl, ap, ◌∙◌, inl, inr, add-one, arith}
use Rattle.std.proofs.lemmas.Bool.{cases_eq, cases_lt}
use Rattle.std.proofs.lemmas.Bool.Decides.{nat_tests}
use Rattle.table.specs.Limits.{most_tasks}
use Rattle.queue.specs.declared.waiting.Waiting.{Waiting as WaitingEntry}
use Rattle.queue.specs.declared.released.Released.{Released as ReleasedEntry}
use Rattle.machine.specs.declared.call.Ticket.{Ticket}
use Rattle.machine.specs.declared.call.Call.TheVariants.{Leave}
use Rattle.machine.specs.declared.call.Refusal.TheVariants.{NotInnermost, NotOpen}
use Rattle.machine.specs.State.{Job}
use Rattle.machine.specs.Step.{refused, step, among_open, grant_open}
use Rattle.machine.proofs.Cases.{chosen}
use Rattle.scheduler.specs.declared.records.Records.{Records}
use Rattle.scheduler.specs.declared.stack.StackRecord.{StackRecord}
use Rattle.scheduler.specs.declared.stack.Spot.{Spot}
use Rattle.scheduler.specs.declared.stack.Spot.TheVariants.{Waiting, Released, Stacked}
use Rattle.scheduler.specs.declared.stack.Inner.{Inner}
use Rattle.scheduler.specs.View.{table_of, job_of, jobs_of, state_of}
use Rattle.scheduler.specs.Steady.{no_record, job_at, spot_at, stands_at, Steady}
use Rattle.scheduler.specs.Moves.{top_of, no_open, with_closed, innermost_for, open_for, opened_for}
use Rattle.scheduler.specs.Moves.{left_by}
use Rattle.scheduler.proofs.Facts.{few_tasks}
use Rattle.scheduler.proofs.Jobs.{jobs_none, jobs_top, jobs_more, jobs_set, opens_none, opens_top}
use Rattle.scheduler.proofs.Ghosts.{high}

-- something that holds of a stack if it does of one of its jobs
module _ (test : Job → Bool) (rs : List StackRecord) where
  abbrev some_job : List Job → Bool
  some_job [] = false
  some_job (j ∷ js) = test j || some_job js

  more_jobs : (n : ℕ) → n < length rs → some_job (jobs_of rs (suc n)) ≡ (test (job_of (slice_index_or rs n no_record)) || some_job (jobs_of rs n))
  more_jobs n h = ap some_job (ap (jobs_of rs) (sym (add-one n)) ∙ jobs_more rs n h)

  pub no_jobs : (n : ℕ) → n ≤ length rs → ((p : ℕ) → p < n → test (job_of (slice_index_or rs p no_record)) ≡ false) → some_job (jobs_of rs n) ≡ false
  no_jobs zero le none = ap some_job (jobs_none rs)
  no_jobs (suc n) le none =
      let more = more_jobs n (omega arith) in
      let here = none n (omega arith) in
      let ih = no_jobs n (omega arith) (λ p h. none p (omega arith)) in
      grind arith

  -- where it can hold of one alone
  pub one_job : (n p : ℕ) → n ≤ length rs → p < n → ((q : ℕ) → q < n → q ≢ p → test (job_of (slice_index_or rs q no_record)) ≡ false) → some_job (jobs_of rs n) ≡ test (job_of (slice_index_or rs p no_record))
  one_job zero p le lt none = absurd (omega arith)
  one_job (suc n) p le lt none =
      let more = more_jobs n (omega arith) in
      elim (cases_eq n p) [
        | inl e ↦
            (let below = no_jobs n (omega arith) (λ q h. none q (omega arith) (omega arith)) in
            grind arith)
        | inr ne ↦
            (let here = none n (omega arith) ne in
            let ih = one_job n p (omega arith) (omega arith) (λ q h apart. none q (omega arith) apart) in
            grind arith)
      ]

module _ {k : Records} {i : Inner} (gh : Steady k i) (task : ℕ) where
  -- a task that is not on the stack has no job there
  off_job : (s : Spot) → s ≡ spot_at i task → ((p : ℕ) → stands_at s p ≡ false) → (p : ℕ) → p < i.depth → ((job_at i p).task == task) ≡ false
  off_job s is off p h =
      let note = gh.noted p h in
      let none = off p in
      grind (arith, nat_tests)

  -- and one that is has just one
  module _ (small : task < most_tasks) (at : ℕ) (is : spot_at i task ≡ Stacked at) where
    pub stood_here : (at < i.depth) × (((job_at i at).task == task) ≡ true)
    stood_here = let stood = rw is at (gh.placed task small) in grind (arith, nat_tests)

    pub other_job : (p : ℕ) → p < i.depth → p ≢ at → ((job_at i p).task == task) ≡ false
    other_job p h ne =
        let note = gh.noted p h in
        let off : stands_at (Stacked at) p ≡ false = grind (arith, nat_tests) in
        grind (arith, nat_tests)

-- a grant is open where the note of its task says
module _ {k : Records} {i : Inner} (gh : Steady k i) (g : Ticket) where
  abbrev holds : Job → Bool
  holds j = j.task == g.task && among_open g j.opened

  not_held : (p : ℕ) → ((job_at i p).task == g.task) ≡ false → holds (job_of (job_at i p)) ≡ false
  not_held p e = grind arith

  open_by : g.task < most_tasks → (s : Spot) → s ≡ spot_at i g.task → open_for g i s ≡ grant_open g (jobs_of i.stack i.depth)
  open_by small Waiting is = sym (no_jobs holds i.stack i.depth (high gh) (λ p h. not_held p (off_job gh g.task Waiting is (λ q. refl) p h)))
  open_by small Released is = sym (no_jobs holds i.stack i.depth (high gh) (λ p h. not_held p (off_job gh g.task Released is (λ q. refl) p h)))
  open_by small (Stacked at) is =
      let here = stood_here gh g.task small at (sym is) in
      let one = one_job holds i.stack i.depth at (high gh) here.0 (λ q h ne. not_held q (other_job gh g.task small at (sym is) q h ne)) in
      grind arith

  pub opened_over : opened_for g i ≡ grant_open g (jobs_of i.stack i.depth)
  opened_over =
      elim (cases_lt g.task most_tasks) [
        | inl small ↦ (let here = open_by small (spot_at i g.task) refl in grind (arith, nat_tests))
        | inr far ↦
            (let none = no_jobs holds i.stack i.depth (high gh) (λ p h. not_held p (grind (arith, nat_tests, (gh.known p h).0, few_tasks k))) in
            grind (arith, nat_tests))
      ]

  -- what a leave that is accepted finds
  pub leave_some : true ≡ innermost_for g i → (0 < i.depth) × (0 < length (top_of i).opened.items)
  leave_some e = grind (arith, nat_tests)

  module _ (ws : List WaitingEntry) (rs : List ReleasedEntry) where
    pub leave_is :
        {a b : Bool} → a ≡ innermost_for g i → b ≡ opened_for g i
        → step (table_of k) (Leave g) (state_of i ws rs)
        ≡ (if a then chosen (table_of k) (state_of (left_by i) ws rs) else if b then refused (state_of i ws rs) (NotInnermost g) else refused (state_of i ws rs) NotOpen)
    unfolding step
    leave_is {a} {b} top_is open_is =
        let r = top_of i in
        let empty = jobs_none i.stack in
        let top = λ (some : 0 < i.depth). jobs_top i.stack i.depth some (high gh) in
        let none = opens_none r.opened.items in
        let more = λ (some : 0 < i.depth) (more : 0 < length r.opened.items). opens_top r.opened.items no_open more in
        let freed = λ (some : 0 < i.depth). jobs_set i.stack i.depth (with_closed r) some (high gh) in
        let over = opened_over in
        grind (arith, nat_tests)
