-- What ties a running core to its two queues: they are in order, have room for every task and hold no instant that is too late to count with, and their
-- lists fit the core's own fields. It is part of the engine's type (`Fitted`): a new core that runs has it, every call keeps it, and no caller is asked for it.
use Rattle.std.specs.Prelude.{◌≡◌, ℕ, ◌+◌, ◌<◌, ◌≤◌, true, List, [], ◌∷◌, length}
use Rattle.std.specs.List.{AllByRecursion}
use Rattle.table.specs.Limits.{largest}
use Rattle.queue.specs.declared.Queue.{Ghosts as Meaning}
use Rattle.queue.specs.declared.waiting.Waiting.{Waiting}
use Rattle.queue.specs.declared.released.Released.{Released}
use Rattle.queue.specs.Meaning.{queued}
use Rattle.queue.specs.Entries.{waiting_order, released_order}
use Rattle.machine.specs.State.{Table, Job}
use Rattle.scheduler.specs.declared.records.Records.{Records}
use Rattle.scheduler.specs.declared.stack.Spot.TheVariants.{Waiting as Waits, Released as IsReleased}
use Rattle.scheduler.specs.declared.stack.Inner.{Inner}
use Rattle.scheduler.specs.View.{table_of, jobs_of}
use Rattle.scheduler.specs.Steady.{spot_at, latest, next_of, Steady}

-- a sum over a list
abbrev pub sum_of : {X : Type 0} → (X → ℕ) → List X → ℕ
sum_of f [] = 0
sum_of f (x ∷ xs) = f x + sum_of f xs

-- a task of the table that waits, and one that is released
abbrev pub WaitsIn : Records → Inner → Waiting → Type 0
WaitsIn k i w = (w.task < length k.tasks.items) × (spot_at i w.task ≡ Waits) × (w.release ≤ latest + largest)

abbrev pub ReleasedIn : Records → Inner → Released → Type 0
ReleasedIn k i e = (e.task < length k.tasks.items) × (spot_at i e.task ≡ IsReleased) × (e.deadline ≤ latest)

-- the sum of every task's next release; each release moved one of them on by its T, which is at least 1, so no more releases were counted than this
abbrev pub ahead : Table → List Waiting → List Released → List Job → ℕ
ahead k ws rs js = sum_of (λ (w : Waiting). w.release) ws + sum_of (λ (e : Released). next_of k e.task e.deadline) rs + sum_of (λ (j : Job). next_of k j.task j.deadline) js

-- the lists beside the core's own fields: there is room for every task, each list has just the tasks that are noted to be there, and with the stack
-- they have all tasks; the counts of jobs are what the lists say, and cannot run over
pub record Listed (k : Records) (i : Inner) (ws : List Waiting) (rs : List Released) (wc rc : ℕ) : Type 0 where
  pub waiting_room : length k.tasks.items ≤ wc
  pub released_room : length k.tasks.items ≤ rc
  pub places : length ws + length rs + i.depth ≡ length k.tasks.items
  pub waiting : AllByRecursion (WaitsIn k i) ws
  pub released : AllByRecursion (ReleasedIn k i) rs
  pub waiting_all : (t : ℕ) → t < length k.tasks.items → spot_at i t ≡ Waits → queued (λ (w : Waiting). w.task) t ws ≡ true
  pub released_all : (t : ℕ) → t < length k.tasks.items → spot_at i t ≡ IsReleased → queued (λ (e : Released). e.task) t rs ≡ true
  pub few : i.counts.releases ≤ ahead (table_of k) ws rs (jobs_of i.stack i.depth)
  pub jobs : i.counts.releases ≡ i.counts.finishes + i.counts.expiries + length rs + i.depth

-- all that is true of a running core between any two of its steps
pub record Fitted {W R : Type 0} (w : Meaning W Waiting) (r : Meaning R Released) (k : Records) (i : Inner) (ws : W) (rs : R) : Type 0 where
  pub steady : Steady k i
  pub waiting : w.ordered waiting_order ws
  pub released : r.ordered released_order rs
  pub lists : Listed k i (w.list ws) (r.list rs) (w.capacity ws) (r.capacity rs)
