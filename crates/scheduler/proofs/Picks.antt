-- Selection over the core's own fields is the machine's.
use Rattle.std.proofs.Common.{◌≡◌, ◌-◌, ◌<◌, ◌≤◌, true, false, if◌then◌else◌, ◌&&◌, ◌==◌, nat_lt, List, [], ◌∷◌, length, Some, None, refl, ap, ◌∙◌, arith}
use Rattle.std.proofs.lemmas.Bool.Decides.{nat_tests}
use Rattle.queue.specs.declared.waiting.Waiting.{Waiting}
use Rattle.queue.specs.declared.released.Released.{Released}
use Rattle.machine.specs.State.{Table, Job, inherited, running, top_deadline}
use Rattle.table.specs.Limits.{most_tasks}
use Rattle.machine.specs.Step.{goes, selected}
use Rattle.scheduler.specs.declared.stack.Inner.{Inner}
use Rattle.scheduler.specs.View.{job_of, jobs_of, state_of}
use Rattle.scheduler.specs.Moves.{job_with, top_of, pushed, goes_over, running_of, deadline_of}
use Rattle.scheduler.specs.Calls.{running_job}
use Rattle.scheduler.proofs.Jobs.{jobs_none, jobs_top, jobs_push, opens_none}

-- a stack is empty or has a running job
pub by_depth : {X : Type 0} (i : Inner) (empty : X) (f : Job → List Job → X) → i.depth ≤ length i.stack
    → (if i.depth == 0 then empty else f (job_of (top_of i)) (jobs_of i.stack (i.depth - 1)))
    ≡ elim (jobs_of i.stack i.depth) [ [] ↦ empty | j ∷ js ↦ f j js ]
by_depth {X} i empty f tall =
    let none = jobs_none i.stack in
    let top = λ (some : 0 < i.depth). jobs_top i.stack i.depth some tall in
    grind (arith, nat_tests)

pub goes_over_lem : (k : Table) (i : Inner) (e : Released) → i.depth ≤ length i.stack → goes_over k i e ≡ goes k e (jobs_of i.stack i.depth)
goes_over_lem k i e tall = by_depth i true (λ j js. nat_lt e.deadline j.deadline && nat_lt e.relative (inherited k j)) tall

pub running_over : (i : Inner) → i.depth ≤ length i.stack → running_of i ≡ running (jobs_of i.stack i.depth)
running_over i tall = by_depth i most_tasks (λ j js. j.task) tall

pub deadline_over : (i : Inner) → i.depth ≤ length i.stack → deadline_of i ≡ top_deadline (jobs_of i.stack i.depth)
deadline_over i tall = by_depth i None (λ j js. Some j.deadline) tall

-- the running task with its deadlines
pub none_runs : (k : Table) (i : Inner) → i.depth ≡ 0 → running_job k (jobs_of i.stack i.depth) ≡ None
none_runs k i z = ap (λ n. running_job k (jobs_of i.stack n)) z ∙ ap (running_job k) (jobs_none i.stack)

pub one_runs : (k : Table) (i : Inner) → 0 < i.depth → i.depth ≤ length i.stack
    → running_job k (jobs_of i.stack i.depth) ≡ Some (record { task = (top_of i).task; deadline = (top_of i).deadline; inherited = inherited k (job_of (top_of i)) })
one_runs k i some tall = ap (running_job k) (jobs_top i.stack i.depth some tall)

module _ (k : Table) (i : Inner) (ws : List Waiting) (rs : List Released) where
  pub pick_yes :
      (e : Released) (es : List Released) → rs ≡ e ∷ es → goes k e (jobs_of i.stack i.depth) ≡ true → i.depth < length i.stack
      → state_of (pushed i e.task e.deadline) ws es ≡ selected k (state_of i ws rs)
  unfolding selected
  pick_yes e es at go room =
      let push = jobs_push i.stack i.depth (job_with e.task e.deadline) room in
      let none = opens_none [] refl in
      grind arith

  pub pick_no : (e : Released) (es : List Released) → rs ≡ e ∷ es → goes k e (jobs_of i.stack i.depth) ≡ false → state_of i ws rs ≡ selected k (state_of i ws rs)
  unfolding selected
  pick_no e es at stays = grind arith

  pub pick_none : rs ≡ [] → state_of i ws rs ≡ selected k (state_of i ws rs)
  unfolding selected
  pick_none at = grind arith
