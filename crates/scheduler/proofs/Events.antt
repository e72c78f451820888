-- What an advance does before selection, over the core's own fields and the queues' lists, is what the machine does.
use Rattle.std.proofs.Common.{◌≡◌, ℕ, ◌<◌, true, false, List, ◌∷◌, length, arith}
use Rattle.std.proofs.lemmas.Bool.Decides.{nat_tests}
use Rattle.queue.specs.declared.waiting.Waiting.{Waiting}
use Rattle.queue.specs.declared.released.Released.{Released}
use Rattle.queue.specs.Order.{insert_sorted}
use Rattle.queue.specs.Entries.{waiting_before, released_before}
use Rattle.machine.specs.State.{Table}
use Rattle.machine.specs.Step.{top_expired, lapsed, released_at, release_of}
use Rattle.scheduler.specs.declared.records.Records.{Records}
use Rattle.scheduler.specs.declared.stack.Inner.{Inner}
use Rattle.scheduler.specs.View.{table_of, job_of, jobs_of, state_of}
use Rattle.scheduler.specs.Steady.{Steady}
use Rattle.scheduler.specs.Moves.{top_of, most, expired_by, is_due, again_of}
use Rattle.scheduler.specs.Moves.{lapsed_by, released_by}
use Rattle.scheduler.specs.Fitted.{Listed}
use Rattle.scheduler.proofs.Jobs.{jobs_none, jobs_top, opens_length}
use Rattle.scheduler.proofs.Ghosts.{high}
use Rattle.scheduler.proofs.Fits.{next_wait, releases_few}

module _ {k : Records} {i : Inner} (gh : Steady k i) where
  pub top_count : length (job_of (top_of i)).opened ≡ length (top_of i).opened.items
  top_count = opens_length (top_of i).opened.items

  -- no count of jobs comes near the end of its type
  module _ {ws : List Waiting} {rs : List Released} {wc rc : ℕ} (li : Listed k i ws rs wc rc) where
    pub releases_most : i.counts.releases < most
    releases_most = omega (arith, releases_few gh li)

    pub expiries_most : i.counts.expiries < most
    expiries_most = omega (arith, releases_few gh li, li.jobs)

    pub finishes_most : i.counts.finishes < most
    finishes_most = omega (arith, releases_few gh li, li.jobs)

  -- the running job ends at its deadline
  pub due_some : (t : ℕ) → true ≡ is_due i t → 0 < i.depth
  due_some t d = grind (arith, nat_tests)

  module _ (t : ℕ) (ws : List Waiting) (rs : List Released) where
    pub expire_yes : true ≡ is_due i t
        → state_of (expired_by i) (insert_sorted waiting_before (again_of (table_of k) i) ws) rs ≡ top_expired (table_of k) t (state_of i ws rs) (jobs_of i.stack i.depth)
    expire_yes d =
        let count = top_count in
        let top = jobs_top i.stack i.depth (due_some t d) (high gh) in
        grind (arith, nat_tests)

    pub expire_no : false ≡ is_due i t → state_of i ws rs ≡ top_expired (table_of k) t (state_of i ws rs) (jobs_of i.stack i.depth)
    expire_no d =
        let none = jobs_none i.stack in
        let top = λ (some : 0 < i.depth). jobs_top i.stack i.depth some (high gh) in
        grind (arith, nat_tests)

-- the first released job ends at its deadline
module _ (k : Table) (i : Inner) (t : ℕ) (ws : List Waiting) (rs : List Released) (e : Released) (es : List Released) (at : rs ≡ e ∷ es) where
  pub lapse_step :
      e.deadline ≡ t
      → lapsed k t (state_of (lapsed_by i e.task) (insert_sorted waiting_before (next_wait k e.task e.deadline) ws) es) es ≡ lapsed k t (state_of i ws rs) rs
  lapse_step now = grind (arith, nat_tests)

-- the first waiting task is released
module _ (k : Table) (i : Inner) (t : ℕ) (ws : List Waiting) (rs : List Released) (w : Waiting) (rest : List Waiting) (at : ws ≡ w ∷ rest) where
  pub release_step :
      w.release ≡ t
      → released_at k t (state_of (released_by i w.task) rest (insert_sorted released_before (release_of k w) rs)) rest ≡ released_at k t (state_of i ws rs) ws
  release_step now = grind (arith, nat_tests)
