-- What the inner parts of the core do to its own fields: a job goes onto the stack or off it, a section of the running job is opened or closed, a
-- task's place is noted, and each is counted.
use Rattle.std.specs.Prelude.{ℕ, ◌+◌, ◌-◌, ◌^◌, Bool, true, false, if◌then◌else◌, ◌&&◌, [], ◌∷◌, ◌++◌, length, take, replicate, Some, None, Option, ◌==◌, nat_lt, slice_index_or, slice_set}
use Rattle.table.specs.Limits.{most_tasks}
use Rattle.table.specs.declared.records.SectionRecord.{SectionRecord}
use Rattle.queue.specs.declared.waiting.Waiting.{Waiting as WaitingEntry}
use Rattle.queue.specs.declared.released.Released.{Released as ReleasedEntry}
use Rattle.machine.specs.declared.call.Ticket.{Ticket}
use Rattle.machine.specs.declared.call.Refusal.{Refusal}
use Rattle.machine.specs.declared.call.Refusal.TheVariants.{Past, Far, BeyondDue, NothingRuns, NotEnterable, TooManyEntries, StillOpen}
use Rattle.machine.specs.State.{Table, inherited}
use Rattle.machine.specs.Step.{last_instant, most_entries, beyond, same_place, opens_for, among_open}
use Rattle.scheduler.specs.declared.records.Records.{Records}
use Rattle.scheduler.specs.declared.stack.OpenSection.{OpenSection}
use Rattle.scheduler.specs.declared.stack.StackRecord.{StackRecord}
use Rattle.scheduler.specs.declared.stack.Spot.{Spot}
use Rattle.scheduler.specs.declared.stack.Spot.TheVariants.{Waiting, Released, Stacked}
use Rattle.scheduler.specs.declared.question.Counts.{Counts}
use Rattle.scheduler.specs.declared.stack.Inner.{Inner}
use Rattle.scheduler.specs.declared.question.Place.{Place}
use Rattle.scheduler.specs.declared.question.Place.TheVariants.{Waiting as IsWaiting, Released as IsReleased, Stacked as IsStacked}
use Rattle.scheduler.specs.View.{open_of, opens_of, job_of}
use Rattle.scheduler.specs.Steady.{job_at, spot_at, next_of}

-- a bound that no count of jobs comes to, far from the end of its type
abbrev pub most : ℕ
most = 2 ^ 63

-- the fields with other parts
abbrev pub with_counts : Inner → Counts → Inner
with_counts i c = record i { counts = c }

abbrev pub with_spot : Inner → ℕ → Spot → Inner
with_spot i task spot = record i { spots = slice_set i.spots task spot }

abbrev pub with_top : Inner → StackRecord → Inner
with_top i r = record i { stack = slice_set i.stack (i.depth - 1) r }

abbrev pub with_clock : Inner → ℕ → Inner
with_clock i t = record i { clock = t }

-- the running job, where there is one
abbrev pub top_of : Inner → StackRecord
top_of i = job_at i (i.depth - 1)

-- a job with nothing open
abbrev pub job_with : ℕ → ℕ → StackRecord
job_with task deadline = record { task = task; deadline = deadline; opened = record { items = [] } }

-- what a new core keeps
abbrev pub fresh : Inner
fresh = record {
  clock = 0;
  depth = 0;
  stack = replicate most_tasks (job_with 0 0);
  spots = replicate most_tasks Waiting;
  counts = record { releases = 0; finishes = 0; expiries = 0; entries = 0; leaves = 0; taken = 0 };
}

-- a job more, with nothing open
abbrev pub pushed : Inner → ℕ → ℕ → Inner
pushed i task deadline = record i {
  depth = i.depth + 1;
  stack = slice_set i.stack i.depth (job_with task deadline);
  spots = slice_set i.spots task (Stacked i.depth);
}

-- the running job comes off the stack: its task waits
abbrev pub popped : Inner → Inner
popped i = record i { depth = i.depth - 1; spots = slice_set i.spots (top_of i).task Waiting }

abbrev pub expired_by : Inner → Inner
expired_by i = popped (with_counts i (record i.counts { expiries = i.counts.expiries + 1; taken = i.counts.taken + length (top_of i).opened.items }))

abbrev pub finished_by : Inner → Inner
finished_by i = popped (with_counts i (record i.counts { finishes = i.counts.finishes + 1 }))

-- a released job lapses, and a task is released
abbrev pub lapsed_by : Inner → ℕ → Inner
lapsed_by i task = with_spot (with_counts i (record i.counts { expiries = i.counts.expiries + 1 })) task Waiting

abbrev pub released_by : Inner → ℕ → Inner
released_by i task = with_spot (with_counts i (record i.counts { releases = i.counts.releases + 1 })) task Released

-- the running job enters a section, or leaves its innermost
abbrev pub with_open : ℕ → ℕ → StackRecord → StackRecord
with_open x n r = record r { opened = record { items = r.opened.items ++ record { section = x; serial = n } ∷ [] } }

abbrev pub with_closed : StackRecord → StackRecord
with_closed r = record r { opened = record { items = take (length r.opened.items - 1) r.opened.items } }

abbrev pub entered_by : Inner → ℕ → Inner
entered_by i x = with_counts (with_top i (with_open x i.counts.entries (top_of i))) (record i.counts { entries = i.counts.entries + 1 })

abbrev pub left_by : Inner → Inner
left_by i = with_counts (with_top i (with_closed (top_of i))) (record i.counts { leaves = i.counts.leaves + 1 })

-- whether the running job is due at t, the running task or 32 for none, and whether a released task may be pushed
abbrev pub is_due : Inner → ℕ → Bool
is_due i t = nat_lt 0 i.depth && (top_of i).deadline == t

abbrev pub running_of : Inner → ℕ
running_of i = if i.depth == 0 then most_tasks else (top_of i).task

abbrev pub goes_over : Table → Inner → ReleasedEntry → Bool
goes_over k i e = if i.depth == 0 then true else (nat_lt e.deadline (top_of i).deadline && nat_lt e.relative (inherited k (job_of (top_of i))))

-- the entry with which the running task waits once its job has ended
abbrev pub again_of : Table → Inner → WaitingEntry
again_of k i = record { release = next_of k (top_of i).task (top_of i).deadline; task = (top_of i).task }

-- the instant at which the running job is due, and why an advance to t is refused where the clock and what is due are these
abbrev pub deadline_of : Inner → Option ℕ
deadline_of i = if i.depth == 0 then None else Some (top_of i).deadline

abbrev pub refused_at : ℕ → ℕ → Option ℕ → Option Refusal
refused_at t clock due =
    if nat_lt t clock then Some Past
    else if nat_lt last_instant t then Some Far
    else elim (beyond t due) [ None ↦ None | Some d ↦ Some (BeyondDue d) ]

-- the innermost open section of a job, and whether a section is open to entry
abbrev pub no_open : OpenSection
no_open = record { section = 0; serial = 0 }

abbrev pub last_open : StackRecord → OpenSection
last_open r = slice_index_or r.opened.items (length r.opened.items - 1) no_open

abbrev pub innermost_of : StackRecord → Option ℕ
innermost_of r = if length r.opened.items == 0 then None else Some (last_open r).section

abbrev pub no_section : SectionRecord
no_section = record { task = 0; around = None; small = 0; capital = 0; length = 0; level = None }

abbrev pub enterable_at : Records → ℕ → StackRecord → Bool
enterable_at k x r =
    nat_lt x (length k.sections.items)
    && ((slice_index_or k.sections.items x no_section).task == r.task && same_place (slice_index_or k.sections.items x no_section).around (innermost_of r))

-- why an entry and a finish are refused
abbrev pub enter_refusal : Records → Inner → ℕ → Option Refusal
enter_refusal k i x =
    if i.depth == 0 then Some NothingRuns
    else if enterable_at k x (top_of i) then (if nat_lt i.counts.entries most_entries then None else Some TooManyEntries)
    else Some NotEnterable

abbrev pub finish_refusal : Inner → Option Refusal
finish_refusal i = if i.depth == 0 then Some NothingRuns else if nat_lt 0 (length (top_of i).opened.items) then Some StillOpen else None

-- whether a grant is the running job's innermost, and whether it is open in the job that its task has on the stack
abbrev pub innermost_for : Ticket → Inner → Bool
innermost_for g i = nat_lt 0 i.depth && ((top_of i).task == g.task && (nat_lt 0 (length (top_of i).opened.items) && opens_for g (open_of (last_open (top_of i)))))

abbrev pub open_for : Ticket → Inner → Spot → Bool
open_for g i Waiting = false
open_for g i Released = false
open_for g i (Stacked p) = among_open g (opens_of (job_at i p).opened.items)

abbrev pub opened_for : Ticket → Inner → Bool
opened_for g i = if nat_lt g.task most_tasks then open_for g i (spot_at i g.task) else false

-- the place that is noted of a task of the table
abbrev pub place_from : Spot → Place
place_from Waiting = IsWaiting
place_from Released = IsReleased
place_from (Stacked p) = IsStacked
