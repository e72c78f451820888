-- What holds of every run of an admitted table, at the start and after each call.
use Rattle.std.specs.Prelude.{◌≡◌, ℕ, ◌+◌, ◌-◌, ◌<◌, ◌≤◌, Bool, true, false, if◌then◌else◌, ◌||◌, ◌⊎◌, List, [], ◌∷◌, length, ◌==◌}
use Rattle.std.specs.List.{AllByRecursion}
use Rattle.table.specs.declared.records.TaskRecord.{TaskRecord}
use Rattle.table.specs.Limits.{resources}
use Rattle.table.specs.Level.{names}
use Rattle.queue.specs.declared.waiting.Waiting.{Waiting}
use Rattle.queue.specs.declared.released.Released.{Released}
use Rattle.admission.specs.Verdict.{Admitted}
use Rattle.machine.specs.declared.call.Call.{Call}
use Rattle.machine.specs.declared.call.Answer.{Answer}
use Rattle.machine.specs.declared.call.Refusal.{Refusal}
use Rattle.machine.specs.declared.call.Answer.TheVariants.{Advanced, Granted, Running, Refused}
use Rattle.machine.specs.declared.call.Call.TheVariants.{Advance, Enter, Leave, Finish}
use Rattle.machine.specs.State.{Table, Open, Job, State, relative, cost, section_at, inherited}
use Rattle.machine.specs.Run.{Event, history, reached, total, run_time, given, ended, Expires, Somewhere, Kept}

-- down the stack absolute deadlines rise strictly, and each preempted task's inherited deadline exceeds the D of the task just above
abbrev pub Stacked : Table → List Job → Type 0
Stacked k [] = Unit {0}
Stacked k (j ∷ []) = Unit {0}
Stacked k (j ∷ (l ∷ ls)) = (j.deadline < l.deadline) × (relative k j.task < inherited k l) × Stacked k (l ∷ ls)

-- a job has a section open that names the resource
abbrev pub HasOpen : Table → ℕ → List Open → Type 0
HasOpen k r [] = ⊥
HasOpen k r (o ∷ os) = (names (section_at k o.section) r ≡ true) ⊎ HasOpen k r os

-- none of these jobs has the resource open
abbrev pub Free : Table → ℕ → List Job → Type 0
Free k r js = AllByRecursion (λ j. HasOpen k r j.opened → ⊥) js

-- no resource is open in two tasks
abbrev pub OneOwner : Table → List Job → Type 0
OneOwner k [] = Unit {0}
OneOwner k (j ∷ js) = ((r : ℕ) → r < resources → HasOpen k r j.opened → Free k r js) × OneOwner k js

-- how many different numbers there are
abbrev pub among : ℕ → List ℕ → Bool
among x [] = false
among x (y ∷ ys) = x == y || among x ys

abbrev pub different : List ℕ → ℕ
different [] = 0
different (x ∷ xs) = if among x xs then different xs else 1 + different xs

abbrev pub deadlines : List TaskRecord → List ℕ
deadlines [] = []
deadlines (t ∷ ts) = t.deadline ∷ deadlines ts

-- where the first released task is more urgent than the running one, its D is at least what the running task inherits, and below what each preempted one does
abbrev pub Held : Table → List Released → List Job → Type 0
Held k [] js = Unit {0}
Held k (e ∷ es) [] = Unit {0}
Held k (e ∷ es) (j ∷ js) =
    e.deadline < j.deadline → (inherited k j ≤ relative k e.task) × AllByRecursion (λ l. relative k e.task < inherited k l) js

-- how often a task stands in each of the three places
abbrev pub waits : ℕ → List Waiting → ℕ
waits i [] = 0
waits i (w ∷ ws) = (if w.task == i then 1 else 0) + waits i ws

abbrev pub is_out : ℕ → List Released → ℕ
is_out i [] = 0
is_out i (e ∷ es) = (if e.task == i then 1 else 0) + is_out i es

abbrev pub stands : ℕ → List Job → ℕ
stands i [] = 0
stands i (j ∷ js) = (if j.task == i then 1 else 0) + stands i js

-- how many sections are open
abbrev pub open_count : List Job → ℕ
open_count [] = 0
open_count (j ∷ js) = length j.opened + open_count js

-- what a call adds to each count, by what it answered
abbrev pub releases_of : Event → ℕ
releases_of e = elim e.answer [ Advanced (x, r, i) ↦ r | Granted g ↦ 0 | Running i ↦ 0 | Refused r ↦ 0 ]

abbrev pub expiries_of : Event → ℕ
expiries_of e = elim e.answer [ Advanced (x, r, i) ↦ x | Granted g ↦ 0 | Running i ↦ 0 | Refused r ↦ 0 ]

abbrev pub entries_of : Event → ℕ
entries_of e = elim e.answer [ Advanced (x, r, i) ↦ 0 | Granted g ↦ 1 | Running i ↦ 0 | Refused r ↦ 0 ]

-- an accepted call of this kind
abbrev pub accepted : Answer Refusal → ℕ
accepted (Advanced (x, r, i)) = 1
accepted (Granted g) = 1
accepted (Running i) = 1
accepted (Refused r) = 0

abbrev pub leaves_of : Event → ℕ
leaves_of e = elim e.call [ Advance t ↦ 0 | Enter x ↦ 0 | Leave g ↦ accepted e.answer | Finish ↦ 0 ]

abbrev pub finishes_of : Event → ℕ
finishes_of e = elim e.call [ Advance t ↦ 0 | Enter x ↦ 0 | Leave g ↦ 0 | Finish ↦ accepted e.answer ]

-- sections that an advance takes back, one by one
abbrev pub taken_of : Event → ℕ
taken_of e = elim e.call [ Advance t ↦ open_count e.before.stack - open_count e.after.stack | Enter x ↦ 0 | Leave g ↦ 0 | Finish ↦ 0 ]

-- the order of the stack, and who owns what
pub record Order (k : Table) (s : State) : Type 0 where
  pub stacked : Stacked k s.stack
  pub one_owner : OneOwner k s.stack
  pub shallow : length s.stack ≤ different (deadlines k.tasks)
  pub held : Held k s.released s.stack

-- the counts are what the history says
pub record Counted (h : List Event) (s : State) : Type 0 where
  pub releases : s.counts.releases ≡ total releases_of h
  pub expiries : s.counts.expiries ≡ total expiries_of h
  pub finishes : s.counts.finishes ≡ total finishes_of h
  pub entries : s.counts.entries ≡ total entries_of h
  pub leaves : s.counts.leaves ≡ total leaves_of h
  pub taken : s.counts.taken ≡ total taken_of h

-- nothing is lost: tasks, jobs, sections, grants
pub record Balance (k : Table) (h : List Event) (s : State) : Type 0 where
  pub places : (i : ℕ) → i < length k.tasks → waits i s.waiting + is_out i s.released + stands i s.stack ≡ 1
  pub strangers : (i : ℕ) → length k.tasks ≤ i → waits i s.waiting + is_out i s.released + stands i s.stack ≡ 0
  pub jobs : s.counts.releases ≡ s.counts.finishes + s.counts.expiries + length s.released + length s.stack
  pub sections : s.counts.entries ≡ s.counts.leaves + s.counts.taken + open_count s.stack
  pub fresh : (n : ℕ) → (n < s.counts.entries → given n h ≡ 1) × (s.counts.entries ≤ n → given n h ≡ 0)
  pub once : (n : ℕ) → ended n h ≤ 1

-- every job that expired has run exactly C ticks, where none has run longer and no stay was too long
abbrev pub OnTime : Table → List Event → Type 0
OnTime k h = Kept k h → (i d : ℕ) → Somewhere (Expires i d) h → run_time i d h ≡ cost k i

-- the whole promise over a run
pub record Promise (k : Table) (cs : List Call) : Type 0 where
  pub order : Order k (reached k cs)
  pub counted : Counted (history k cs) (reached k cs)
  pub balance : Balance k (history k cs) (reached k cs)
  pub on_time : OnTime k (history k cs)

-- of every run of every admitted table
abbrev pub EveryRun : Type 0
EveryRun = (k : Table) (idle : ℕ) → Admitted k.tasks k.sections idle → (cs : List Call) → Promise k cs
