-- The state of a run. Tasks wait for their next release, are released and not yet begun, or stand on the Run Stack; the top of the stack runs
-- and those below it are preempted. A job holds the sections that it has open, innermost first, each with the serial of its entry.
-- `Step` goes on with what a call does.
use Rattle.std.specs.Prelude.{ℕ, zero, suc, ◌+◌, min, List, [], ◌∷◌, length, Some, None, Option, slice_index_or}
use Rattle.table.specs.declared.records.TaskRecord.{TaskRecord}
use Rattle.table.specs.declared.records.SectionRecord.{SectionRecord}
use Rattle.table.specs.Limits.{most_tasks}
use Rattle.queue.specs.declared.waiting.Waiting.{Waiting}
use Rattle.queue.specs.declared.released.Released.{Released}

-- a table: its tasks and its sections, by number
pub record Table : Type 0 where
  pub tasks : List TaskRecord
  pub sections : List SectionRecord

-- a task's record, and its D, T and C
abbrev pub task_at : Table → ℕ → TaskRecord
task_at k i = slice_index_or k.tasks i (record { name = record { first = 0; count = 0 }; deadline = 0; period = 0; cost = 0; sections = record { first = 0; count = 0 } })

abbrev pub relative : Table → ℕ → ℕ
relative k i = (task_at k i).deadline

abbrev pub period : Table → ℕ → ℕ
period k i = (task_at k i).period

abbrev pub cost : Table → ℕ → ℕ
cost k i = (task_at k i).cost

-- a section's record
abbrev pub section_at : Table → ℕ → SectionRecord
section_at k x = slice_index_or k.sections x (record { task = 0; around = None; small = 0; capital = 0; length = 0; level = None })

-- a section that is open, with the serial of the entry that opened it
pub record Open : Type 0 where
  pub section : ℕ
  pub serial : ℕ

-- a job on the Run Stack: its task, its absolute deadline, and its open sections, innermost first
pub record Job : Type 0 where
  pub task : ℕ
  pub deadline : ℕ
  pub opened : List Open

-- what is counted
pub record Counts : Type 0 where
  pub releases : ℕ
  pub finishes : ℕ
  pub expiries : ℕ
  pub entries : ℕ
  pub leaves : ℕ
  pub taken : ℕ

pub record State : Type 0 where
  pub clock : ℕ
  pub waiting : List Waiting
  pub released : List Released
  pub stack : List Job
  pub counts : Counts

-- at the start every task waits for instant 0
abbrev pub first_releases : ℕ → ℕ → List Waiting
first_releases i zero = []
first_releases i (suc n) = record { release = 0; task = i } ∷ first_releases (i + 1) n

abbrev pub start : Table → State
start k = record {
  clock = 0;
  waiting = first_releases 0 (length k.tasks);
  released = [];
  stack = [];
  counts = record { releases = 0; finishes = 0; expiries = 0; entries = 0; leaves = 0; taken = 0 };
}

-- the least of a number and a level, where a missing level counts as above every number
abbrev pub or_lower : ℕ → Option ℕ → ℕ
or_lower n None = n
or_lower n (Some level) = min n level

-- the inherited deadline: the least of a task's D and the levels of its open sections
abbrev pub lowered : Table → ℕ → List Open → ℕ
lowered k d [] = d
lowered k d (o ∷ os) = or_lower (lowered k d os) (section_at k o.section).level

abbrev pub inherited : Table → Job → ℕ
inherited k j = lowered k (relative k j.task) j.opened

-- the running task, or 32 for none
abbrev pub running : List Job → ℕ
running [] = most_tasks
running (j ∷ js) = j.task

-- the least of two instants, where none is later than any
abbrev pub sooner : Option ℕ → Option ℕ → Option ℕ
sooner None b = b
sooner (Some x) None = Some x
sooner (Some x) (Some y) = Some (min x y)

abbrev pub top_deadline : List Job → Option ℕ
top_deadline [] = None
top_deadline (j ∷ js) = Some j.deadline

abbrev pub first_deadline : List Released → Option ℕ
first_deadline [] = None
first_deadline (e ∷ es) = Some e.deadline

abbrev pub first_release : List Waiting → Option ℕ
first_release [] = None
first_release (w ∷ ws) = Some w.release

-- due: the least of the running task's absolute deadline, the first released one's, and the first waiting release
abbrev pub due : State → Option ℕ
due s = sooner (top_deadline s.stack) (sooner (first_deadline s.released) (first_release s.waiting))
