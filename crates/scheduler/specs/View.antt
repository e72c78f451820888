-- What the core's own fields stand for: its table, and the state of the machine. The stack and the open sections of a job grow at their end, so
-- the top of the stack and the innermost open section, which the machine has first, stand last.
use Rattle.std.specs.Prelude.{ℕ, List, map, reverse, take}
use Rattle.queue.specs.declared.waiting.Waiting.{Waiting}
use Rattle.queue.specs.declared.released.Released.{Released}
use Rattle.machine.specs.State.{Table, Open, Job, State}
use Rattle.machine.specs.State.{Counts as Tally}
use Rattle.scheduler.specs.declared.records.Records.{Records}
use Rattle.scheduler.specs.declared.stack.OpenSection.{OpenSection}
use Rattle.scheduler.specs.declared.stack.StackRecord.{StackRecord}
use Rattle.scheduler.specs.declared.question.Counts.{Counts}
use Rattle.scheduler.specs.declared.stack.Inner.{Inner}

-- the records in use
abbrev pub table_of : Records → Table
table_of k = record { tasks = k.tasks.items; sections = k.sections.items }

-- the open sections of a job, innermost first
abbrev pub open_of : OpenSection → Open
open_of o = record { section = o.section; serial = o.serial }

unfoldable pub opens_of : List OpenSection → List Open
opens_of os = map open_of (reverse os)

-- the first so many jobs of an array, the top first
abbrev pub job_of : StackRecord → Job
job_of r = record { task = r.task; deadline = r.deadline; opened = opens_of r.opened.items }

unfoldable pub jobs_of : List StackRecord → ℕ → List Job
jobs_of rs n = map job_of (reverse (take n rs))

abbrev pub tally_of : Counts → Tally
tally_of c = record {
  releases = c.releases;
  finishes = c.finishes;
  expiries = c.expiries;
  entries = c.entries;
  leaves = c.leaves;
  taken = c.taken;
}

-- the state of the machine, with what the two queues hold
abbrev pub state_of : Inner → List Waiting → List Released → State
state_of i ws rs = record { clock = i.clock; waiting = ws; released = rs; stack = jobs_of i.stack i.depth; counts = tally_of i.counts }
