-- What a call does, and what it answers. Earliest deadline first with deadline inheritance: the first released task is pushed only if its
-- absolute deadline is earlier than the running task's and its D is below the running task's inherited deadline. A refused call
-- changes nothing, and of several reasons the one with the lowest number counts. `Run` goes on with lists of calls.
use Rattle.std.specs.Prelude.{ℕ, ◌+◌, ◌-◌, Bool, true, false, if◌then◌else◌, ◌&&◌, ◌||◌, List, [], ◌∷◌, length, Some, None, Option, ◌==◌, nat_lt}
use Rattle.queue.specs.declared.waiting.Waiting.{Waiting}
use Rattle.queue.specs.declared.released.Released.{Released}
use Rattle.queue.specs.Order.{insert_sorted}
use Rattle.queue.specs.Entries.{waiting_before, released_before}
use Rattle.machine.specs.declared.call.Ticket.{Ticket}
use Rattle.machine.specs.declared.call.Call.{Call}
use Rattle.machine.specs.declared.call.Call.TheVariants.{Advance, Enter, Leave, Finish}
use Rattle.machine.specs.declared.call.Refusal.{Refusal}
use Rattle.machine.specs.declared.call.Refusal.TheVariants.{Past, Far, BeyondDue, NothingRuns, NotEnterable, TooManyEntries, NotInnermost, NotOpen, StillOpen}
use Rattle.machine.specs.declared.call.Answer.{Answer}
use Rattle.machine.specs.declared.call.Answer.TheVariants.{Advanced, Granted, Running, Refused}
use Rattle.machine.specs.State.{Table, Open, Job, Counts, State, relative, period, section_at, inherited, running, due}

-- the last instant that the clock can show, and the most entries that can be counted
abbrev pub last_instant : ℕ
last_instant = 281474976710655

abbrev pub most_entries : ℕ
most_entries = 4294967295

-- a state with other parts
abbrev pub with_stack : State → List Job → State
with_stack s js = record s { stack = js }

abbrev pub with_counts : State → Counts → State
with_counts s c = record s { counts = c }

-- selection: whether the first released task is pushed
abbrev pub goes : Table → Released → List Job → Bool
goes k e [] = true
goes k e (j ∷ js) = nat_lt e.deadline j.deadline && nat_lt e.relative (inherited k j)

abbrev pub picked : Table → State → List Released → State
picked k s [] = s
picked k s (e ∷ es) =
    if goes k e s.stack
    then record s { released = es; stack = record { task = e.task; deadline = e.deadline; opened = [] } ∷ s.stack }
    else s

unfoldable pub selected : Table → State → State
selected k s = picked k s s.released

-- a job that ends puts its task back: it waits for its next release, a period after its last
abbrev pub put_back : Table → ℕ → ℕ → List Waiting → List Waiting
put_back k i deadline ws = insert_sorted waiting_before (record { release = deadline - relative k i + period k i; task = i }) ws

-- so many jobs more expired, and so many sections more were taken back
abbrev pub expiring : ℕ → ℕ → Counts → Counts
expiring jobs sections c = record c { expiries = c.expiries + jobs; taken = c.taken + sections }

-- the running job expires if its deadline is t; its open sections are taken back
abbrev pub top_expired : Table → ℕ → State → List Job → State
top_expired k t s [] = s
top_expired k t s (j ∷ js) =
    if j.deadline == t
    then record s { waiting = put_back k j.task j.deadline s.waiting; stack = js; counts = expiring 1 (length j.opened) s.counts }
    else s

-- each released job whose deadline is t expires
abbrev pub lapsed : Table → ℕ → State → List Released → State
lapsed k t s [] = record s { released = [] }
lapsed k t s (e ∷ es) =
    if e.deadline == t
    then lapsed k t (record s { waiting = put_back k e.task e.deadline s.waiting; released = es; counts = expiring 1 0 s.counts }) es
    else record s { released = e ∷ es }

-- one task more is released
abbrev pub releasing : Counts → Counts
releasing c = record c { releases = c.releases + 1 }

abbrev pub release_of : Table → Waiting → Released
release_of k w = record { deadline = w.release + relative k w.task; relative = relative k w.task; task = w.task }

-- each waiting task whose release is t is released
abbrev pub released_at : Table → ℕ → State → List Waiting → State
released_at k t s [] = record s { waiting = [] }
released_at k t s (w ∷ ws) =
    if w.release == t
    then released_at k t (record s { waiting = ws; released = insert_sorted released_before (release_of k w) s.released; counts = releasing s.counts }) ws
    else record s { waiting = w ∷ ws }

-- the clock shows t
abbrev pub clock_at : ℕ → State → State
clock_at t s = record s { clock = t }

-- advance to t: the running job, then released jobs expire; then tasks are released; then selection
unfoldable pub advanced : Table → ℕ → State → State
advanced k t s =
    let a = top_expired k t (clock_at t s) s.stack in
    let b = lapsed k t a a.released in
    let c = released_at k t b b.waiting in
    selected k c

-- t is past what is due
abbrev pub beyond : ℕ → Option ℕ → Option ℕ
beyond t None = None
beyond t (Some d) = if nat_lt d t then Some d else None

-- why an advance to t is refused
abbrev pub not_advanced : ℕ → State → Option Refusal
not_advanced t s =
    if nat_lt t s.clock then Some Past
    else (if nat_lt last_instant t then Some Far else elim (beyond t (due s)) [ None ↦ None | Some d ↦ Some (BeyondDue d) ])

-- what an advance answers
abbrev pub advanced_answer : State → State → Answer Refusal
advanced_answer s s' = Advanced (s'.counts.expiries - s.counts.expiries, s'.counts.releases - s.counts.releases, running s'.stack)

-- whether two places among the sections are the same
abbrev pub same_place : Option ℕ → Option ℕ → Bool
same_place None None = true
same_place None (Some y) = false
same_place (Some x) None = false
same_place (Some x) (Some y) = x == y

-- the innermost open section, or none
abbrev pub innermost : List Open → Option ℕ
innermost [] = None
innermost (o ∷ os) = Some o.section

-- a section of the job's task that lies directly in its innermost open one, or is outermost if none is open
abbrev pub enterable : Table → ℕ → Job → Bool
enterable k x j =
    nat_lt x (length k.sections) && ((section_at k x).task == j.task && same_place (section_at k x).around (innermost j.opened))

abbrev pub ticket : Job → ℕ → ℕ → Ticket
ticket j x serial = record { task = j.task; section = x; serial = serial }

-- one entry more, one leave more, one finish more
abbrev pub entering : Counts → Counts
entering c = record c { entries = c.entries + 1 }

abbrev pub leaving : Counts → Counts
leaving c = record c { leaves = c.leaves + 1 }

abbrev pub finishing : Counts → Counts
finishing c = record c { finishes = c.finishes + 1 }

-- what is left of a call: the state, and the answer
pub record Outcome : Type 0 where
  pub state : State
  pub answer : Answer Refusal

abbrev pub refused : State → Refusal → Outcome
refused s r = record { state = s; answer = Refused r }

-- enter a section
abbrev pub entered : Table → ℕ → State → List Job → Outcome
entered k x s [] = refused s NothingRuns
entered k x s (j ∷ js) =
    if enterable k x j
    then (
    if nat_lt s.counts.entries most_entries
    then record {
      state = with_counts (with_stack s (record j { opened = record { section = x; serial = s.counts.entries } ∷ j.opened } ∷ js)) (entering s.counts);
      answer = Granted (ticket j x s.counts.entries);
    }
    else refused s TooManyEntries
    )
    else refused s NotEnterable

-- whether an open section is the one that a grant names
abbrev pub opens_for : Ticket → Open → Bool
opens_for g o = o.section == g.section && o.serial == g.serial

abbrev pub among_open : Ticket → List Open → Bool
among_open g [] = false
among_open g (o ∷ os) = opens_for g o || among_open g os

-- whether a grant is open: some stacked job of its task has its section open under its serial
abbrev pub grant_open : Ticket → List Job → Bool
grant_open g [] = false
grant_open g (j ∷ js) = (j.task == g.task && among_open g j.opened) || grant_open g js

-- whether it is the job's innermost
abbrev pub is_innermost : Ticket → List Open → Bool
is_innermost g [] = false
is_innermost g (o ∷ os) = opens_for g o

abbrev pub closed : List Open → List Open
closed [] = []
closed (o ∷ os) = os

-- leave the section of a grant
abbrev pub left : Table → Ticket → State → List Job → Outcome
left k g s [] = refused s NotOpen
left k g s (j ∷ js) =
    if j.task == g.task && is_innermost g j.opened
    then (
    let s' = selected k (with_counts (with_stack s (record j { opened = closed j.opened } ∷ js)) (leaving s.counts)) in
    record { state = s'; answer = Running (running s'.stack) }
    )
    else (if grant_open g (j ∷ js) then refused s (NotInnermost g) else refused s NotOpen)

abbrev pub none_open : List Open → Bool
none_open [] = true
none_open (o ∷ os) = false

-- finish the running job
abbrev pub finished : Table → State → List Job → Outcome
finished k s [] = refused s NothingRuns
finished k s (j ∷ js) =
    if none_open j.opened
    then (
    let s' = selected k (record s { waiting = put_back k j.task j.deadline s.waiting; stack = js; counts = finishing s.counts }) in
    record { state = s'; answer = Running (running s'.stack) }
    )
    else refused s StillOpen

-- one call
unfoldable pub step : Table → Call → State → Outcome
step k (Advance t) s =
    elim (not_advanced t s) [
      | Some r ↦ refused s r
      | None ↦ record { state = advanced k t s; answer = advanced_answer s (advanced k t s) }
    ]
step k (Enter x) s = entered k x s s.stack
step k (Leave g) s = left k g s s.stack
step k Finish s = finished k s s.stack
