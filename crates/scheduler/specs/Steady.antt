-- What is true of a running core's own fields between any two of its steps, whatever its queues hold: arrays keep their lengths, the places of tasks are
-- noted, open sections lie in one another, and entries balance (`Steady`). All of it is part of the engine's type, so no caller is asked for it.
use Rattle.std.specs.Prelude.{◌≡◌, ℕ, ◌+◌, ◌-◌, ◌<◌, ◌≤◌, Bool, true, false, ◌&&◌, List, [], ◌∷◌, length, ◌==◌, nat_lt, slice_index_or}
use Rattle.table.specs.Limits.{most_tasks, largest}
use Rattle.machine.specs.State.{Table, Open, section_at, relative, period}
use Rattle.machine.specs.Step.{same_place, innermost, last_instant, most_entries}
use Rattle.machine.specs.Promise.{open_count}
use Rattle.scheduler.specs.declared.records.Records.{Records}
use Rattle.scheduler.specs.declared.stack.StackRecord.{StackRecord}
use Rattle.scheduler.specs.declared.stack.Spot.{Spot}
use Rattle.scheduler.specs.declared.stack.Spot.TheVariants.{Waiting, Released, Stacked}
use Rattle.scheduler.specs.declared.stack.Inner.{Inner}
use Rattle.scheduler.specs.View.{table_of, opens_of, jobs_of}

-- the record past the end of an array
abbrev pub no_record : StackRecord
no_record = record { task = 0; deadline = 0; opened = record { items = [] } }

-- the job at a place of the stack
abbrev pub job_at : Inner → ℕ → StackRecord
job_at i p = slice_index_or i.stack p no_record

-- arrays are as long as they were made, and the stack is no higher than its array
abbrev pub Tall : Inner → Type 0
Tall i = (length i.stack ≡ most_tasks) × (length i.spots ≡ most_tasks) × (i.depth ≤ most_tasks)

-- where a task is
abbrev pub spot_at : Inner → ℕ → Spot
spot_at i task = slice_index_or i.spots task Waiting

-- the last instant at which a job can be due
abbrev pub latest : ℕ
latest = last_instant + largest

-- the next release of a job's task
abbrev pub next_of : Table → ℕ → ℕ → ℕ
next_of k task deadline = deadline - relative k task + period k task

-- each open section lies directly in the next, and the last is outermost
abbrev pub chained : Table → List Open → Bool
chained k [] = true
chained k (o ∷ os) = nat_lt o.section (length k.sections) && (same_place (section_at k o.section).around (innermost os) && chained k os)

-- stacked jobs are of tasks of the table, due no later than a job can be
abbrev pub Known : Records → Inner → Type 0
Known k i = (p : ℕ) → p < i.depth → ((job_at i p).task < length k.tasks.items) × ((job_at i p).deadline ≤ latest)

-- their open sections lie in one another
abbrev pub Nested : Records → Inner → Type 0
Nested k i = (p : ℕ) → p < i.depth → chained (table_of k) (opens_of (job_at i p).opened.items) ≡ true

-- the place of each is noted
abbrev pub stands_at : Spot → ℕ → Bool
stands_at Waiting p = false
stands_at Released p = false
stands_at (Stacked q) p = q == p

abbrev pub Noted : Inner → Type 0
Noted i = (p : ℕ) → p < i.depth → stands_at (spot_at i (job_at i p).task) p ≡ true

-- a place that is noted is one on the stack, and its job is the task's
abbrev pub stood_by : Inner → ℕ → Spot → Bool
stood_by i t Waiting = true
stood_by i t Released = true
stood_by i t (Stacked p) = nat_lt p i.depth && (job_at i p).task == t

abbrev pub Placed : Inner → Type 0
Placed i = (t : ℕ) → t < most_tasks → stood_by i t (spot_at i t) ≡ true

-- every entry was left, was taken back or is still open, and entries can be counted
abbrev pub Balanced : Inner → Type 0
Balanced i = (i.counts.entries ≡ i.counts.leaves + i.counts.taken + open_count (jobs_of i.stack i.depth)) × (i.counts.entries ≤ most_entries)

-- all of it
pub record Steady (k : Records) (i : Inner) : Type 0 where
  pub tall : Tall i
  pub known : Known k i
  pub nested : Nested k i
  pub noted : Noted i
  pub placed : Placed i
  pub balanced : Balanced i
