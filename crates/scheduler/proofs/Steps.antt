-- What each step of an engine leaves: it fits again, and its state is what its inner move and its queues make of the lists.
use Rattle.std.proofs.Common.{◌≡◌, ℕ, ◌+◌, ◌<◌, ◌≤◌, false, List, ◌∷◌, length, Some, Option, Result, refl, ap, ◌∙◌, arith}
use Rattle.table.specs.Limits.{most_tasks}
use Rattle.queue.specs.declared.Queue.{Ghosts as Meaning}
use Rattle.queue.specs.declared.refusal.Refusal.{Refusal}
use Rattle.queue.specs.declared.waiting.Waiting.{Waiting}
use Rattle.queue.specs.declared.released.Released.{Released}
use Rattle.queue.specs.Order.{Order, insert_sorted}
use Rattle.queue.specs.Meaning.{first_of, rest_of, queued}
use Rattle.queue.specs.Answer.{answered, inserted}
use Rattle.queue.specs.Entries.{waiting_order, waiting_before, released_order, released_before}
use Rattle.machine.specs.State.{State}
use Rattle.machine.specs.Step.{last_instant, release_of}
use Rattle.scheduler.specs.declared.records.Records.{Records}
use Rattle.scheduler.specs.declared.stack.Spot.TheVariants.{Waiting as Waits, Released as IsReleased}
use Rattle.scheduler.specs.declared.stack.Inner.{Inner}
use Rattle.scheduler.specs.declared.question.Counts.{Counts}
use Rattle.scheduler.specs.View.{table_of, state_of}
use Rattle.scheduler.specs.Steady.{Steady}
use Rattle.scheduler.specs.Moves.{with_counts, top_of, pushed, popped, lapsed_by, released_by, again_of}
use Rattle.scheduler.specs.Fitted.{Listed, Fitted}
use Rattle.scheduler.proofs.Facts.{few_tasks}
use Rattle.scheduler.proofs.Ghosts.{note_ghosts, push_ghosts, pop_ghosts, off_waiting, off_released}
use Rattle.scheduler.proofs.Queues.{first_is, first_single}
use Rattle.scheduler.proofs.Fits.{next_wait, end_put, end_listed, push_room, push_listed, lapse_put, lapse_listed, release_put, release_listed}

-- what an insert and a take ensure of a queue
module _ {Q E : Type 0} (q : Meaning Q E) (o : Order E) (old new : Q) where
  abbrev pub Put : E → Result (Unit {0}) Refusal → Type 0
  Put e result = record {
    ordered : q.ordered o new;
    capacity : q.capacity new ≡ q.capacity old;
    value : result ≡ answered o (q.capacity old) e (q.list old);
    after : q.list new ≡ inserted o (q.capacity old) e (q.list old);
  }

  abbrev pub Took : Option E → Type 0
  Took result = record {
    ordered : q.ordered o new;
    capacity : q.capacity new ≡ q.capacity old;
    value : result ≡ first_of (q.list old);
    after : q.list new ≡ rest_of (q.list old);
  }

-- an engine's parts fit, and its state is s
pub record Left {W R : Type 0} (w : Meaning W Waiting) (r : Meaning R Released) (k : Records) (i : Inner) (ws : W) (rs : R) (s : State) : Type 0 where
  pub fits : Fitted w r k i ws rs
  pub state : state_of i (w.list ws) (r.list rs) ≡ s

module _ {W R : Type 0} {w : Meaning W Waiting} {r : Meaning R Released} {k : Records} where
  pub left :
      {i i' : Inner} {ws : W} {rs : R} {xs : List Waiting} {ys : List Released} {wc rc : ℕ}
      → i' ≡ i → w.list ws ≡ xs → r.list rs ≡ ys → w.capacity ws ≡ wc → r.capacity rs ≡ rc → w.ordered waiting_order ws → r.ordered released_order rs
      → Steady k i → Listed k i xs ys wc rc → Left w r k i' ws rs (state_of i xs ys)
  left a b c d e waiting released steady lists = record {
    fits = record { steady = rw a steady; waiting = waiting; released = released; lists = rw (a, b, c, d, e) lists };
    state = cc;
  }

  module _ {i : Inner} {ws : W} {rs : R} (fit : Fitted w r k i ws rs) where
    -- the running job ends, and its task waits
    pub ended :
        {i' : Inner} {ws' : W} {e : Waiting} {result : Result (Unit {0}) Refusal} (c : Counts) → 0 < i.depth → c.releases ≡ i.counts.releases
        → c.finishes + c.expiries ≡ i.counts.finishes + i.counts.expiries + 1 → c.entries ≡ i.counts.entries → c.leaves ≡ i.counts.leaves
        → c.taken ≡ i.counts.taken + length (top_of i).opened.items → i' ≡ popped (with_counts i c) → e ≡ again_of (table_of k) i → Put w waiting_order ws ws' e result
        → Left w r k i' ws' rs (state_of (popped (with_counts i c)) (insert_sorted waiting_before (again_of (table_of k) i) (w.list ws)) (r.list rs))
    ended c some re fe en le ta moved is put =
        let room = w.capacity ws in
        let xs = w.list ws in
        left moved (put.after ∙ ap (λ x. inserted waiting_order room x xs) is ∙ end_put fit.steady fit.lists some) refl put.capacity refl
        put.ordered fit.released (pop_ghosts fit.steady c some en le ta) (end_listed fit.steady fit.lists some c re fe)

    -- the first released job
    module _ (e : Released) (first : Some e ≡ first_of (r.list rs)) where
      pub job_listed : Listed k i (w.list ws) (e ∷ rest_of (r.list rs)) (w.capacity ws) (r.capacity rs)
      job_listed = rw (← first_is (r.list rs) e first) fit.lists

      job_single : queued (λ (x : Released). x.task) e.task (rest_of (r.list rs)) ≡ false
      job_single = first_single released_order (r.capacity rs) (r.list rs) e first (r.sound released_order rs fit.released)

      pub job_room : i.depth < most_tasks
      job_room = push_room fit.steady job_listed job_single

      module _ {i' : Inner} {rs' : R} {out : Option Released} (took : Took r released_order rs rs' out) where
        -- is pushed
        pub picked_up : i' ≡ pushed i e.task e.deadline → Left w r k i' ws rs' (state_of (pushed i e.task e.deadline) (w.list ws) (rest_of (r.list rs)))
        picked_up moved =
            let job = job_listed.released.0 in
            left moved refl took.after refl took.capacity fit.waiting took.ordered (push_ghosts fit.steady e.task e.deadline job_room job.0 job.2 (off_released _ job.1))
            (push_listed fit.steady job_listed job_single)

        -- or lapses
        pub gone_by :
            {ws' : W} {a : Waiting} {result : Result (Unit {0}) Refusal} → i' ≡ lapsed_by i e.task → a ≡ next_wait (table_of k) e.task e.deadline
            → Put w waiting_order ws ws' a result
            → Left w r k i' ws' rs' (state_of (lapsed_by i e.task) (insert_sorted waiting_before (next_wait (table_of k) e.task e.deadline) (w.list ws)) (rest_of (r.list rs)))
        gone_by moved is put =
            let room = w.capacity ws in
            let xs = w.list ws in
            let job = job_listed.released.0 in
            left moved
            (put.after ∙ ap (λ x. inserted waiting_order room x xs) is ∙ lapse_put fit.steady job_listed job_single)
            took.after put.capacity took.capacity put.ordered took.ordered
            (note_ghosts fit.steady e.task Waits (lapsed_by i e.task).counts (off_released _ job.1) refl refl refl refl (omega (arith, job.0, few_tasks k)))
            (lapse_listed fit.steady job_listed job_single (lapsed_by i e.task).counts refl refl refl)

    -- the first waiting task is released
    module _ (a : Waiting) (first : Some a ≡ first_of (w.list ws)) where
      pub task_listed : Listed k i (a ∷ rest_of (w.list ws)) (r.list rs) (w.capacity ws) (r.capacity rs)
      task_listed = rw (← first_is (w.list ws) a first) fit.lists

      task_single : queued (λ (x : Waiting). x.task) a.task (rest_of (w.list ws)) ≡ false
      task_single = first_single waiting_order (w.capacity ws) (w.list ws) a first (w.sound waiting_order ws fit.waiting)

      pub let_out :
          {i' : Inner} {ws' : W} {rs' : R} {e : Released} {out : Option Waiting} {result : Result (Unit {0}) Refusal} → a.release ≤ last_instant
          → i' ≡ released_by i a.task → Took w waiting_order ws ws' out → e ≡ release_of (table_of k) a → Put r released_order rs rs' e result
          → Left w r k i' ws' rs' (state_of (released_by i a.task) (rest_of (w.list ws)) (insert_sorted released_before (release_of (table_of k) a) (r.list rs)))
      let_out soon moved took is put =
          let room = r.capacity rs in
          let ys = r.list rs in
          let task = task_listed.waiting.0 in
          left moved took.after
          (put.after ∙ ap (λ x. inserted released_order room x ys) is ∙ release_put fit.steady task_listed task_single soon)
          took.capacity put.capacity took.ordered put.ordered
          (note_ghosts fit.steady a.task IsReleased (released_by i a.task).counts (off_waiting _ task.1) refl refl refl refl (omega (arith, task.0, few_tasks k)))
          (release_listed fit.steady task_listed task_single soon (released_by i a.task).counts refl refl refl)
