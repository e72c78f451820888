-- A run: any list of calls from the start, accepted or refused, and its history, what each call found, answered and left. Run times, stays,
-- ended grants and expired jobs are read off the history; the machine keeps none of them. `Promise` goes on with what holds of every run.
use Rattle.std.specs.Prelude.{◌≡◌, ℕ, ◌+◌, ◌-◌, ◌≤◌, Bool, false, if◌then◌else◌, ◌&&◌, ◌||◌, ◌⊎◌, List, [], ◌∷◌, ◌==◌}
use Rattle.queue.specs.declared.released.Released.{Released}
use Rattle.machine.specs.declared.call.Call.{Call}
use Rattle.machine.specs.declared.call.Answer.{Answer}
use Rattle.machine.specs.declared.call.Refusal.{Refusal}
use Rattle.machine.specs.declared.call.Answer.TheVariants.{Advanced, Granted, Running, Refused}
use Rattle.machine.specs.State.{Table, Open, Job, State, start, cost, section_at}
use Rattle.machine.specs.Step.{step}

-- one call of a run: what it found, what it was, what it answered and what it left
pub record Event : Type 0 where
  pub before : State
  pub call : Call
  pub answer : Answer Refusal
  pub after : State

-- the history of calls from a state, the first call first
abbrev pub history_from : Table → State → List Call → List Event
history_from k s [] = []
history_from k s (c ∷ cs) =
    record { before = s; call = c; answer = (step k c s).answer; after = (step k c s).state } ∷ history_from k (step k c s).state cs

-- the state that calls lead to
abbrev pub state_from : Table → State → List Call → State
state_from k s [] = s
state_from k s (c ∷ cs) = state_from k (step k c s).state cs

-- from the start
abbrev pub history : Table → List Call → List Event
history k cs = history_from k (start k) cs

abbrev pub reached : Table → List Call → State
reached k cs = state_from k (start k) cs

-- how far a call moved the clock; only an accepted advance moves it
abbrev pub moved : Event → ℕ
moved e = e.after.clock - e.before.clock

-- a sum over a history
abbrev pub total : (Event → ℕ) → List Event → ℕ
total f [] = 0
total f (e ∷ es) = f e + total f es

-- whether the job of a task with an absolute deadline is at the top of a stack
abbrev pub runs : ℕ → ℕ → List Job → Bool
runs i d [] = false
runs i d (j ∷ js) = j.task == i && j.deadline == d

-- a job's run time: the clock's movement over the calls at whose start it ran
abbrev pub run_time : ℕ → ℕ → List Event → ℕ
run_time i d h = total (λ e. if runs i d e.before.stack then moved e else 0) h

-- whether an entry is among open sections, by its serial
abbrev pub holds : ℕ → List Open → Bool
holds n [] = false
holds n (o ∷ os) = o.serial == n || holds n os

-- whether the running job has the entry with a serial open
abbrev pub stays_in : ℕ → List Job → Bool
stays_in n [] = false
stays_in n (j ∷ js) = holds n j.opened

-- a stay: the clock's movement over the calls at whose start the job ran that had the entry open
abbrev pub stay : ℕ → List Event → ℕ
stay n h = total (λ e. if stays_in n e.before.stack then moved e else 0) h

-- whether an entry is open in any job
abbrev pub is_open : ℕ → List Job → Bool
is_open n [] = false
is_open n (j ∷ js) = holds n j.opened || is_open n js

-- how often a grant with a serial was given
abbrev pub gives : ℕ → Answer Refusal → ℕ
gives n (Advanced (e, r, i)) = 0
gives n (Granted g) = if g.serial == n then 1 else 0
gives n (Running i) = 0
gives n (Refused r) = 0

abbrev pub given : ℕ → List Event → ℕ
given n h = total (λ e. gives n e.answer) h

-- how often the grant with a serial ended: it was open before a call and not after it
abbrev pub ended : ℕ → List Event → ℕ
ended n h = total (λ e. if is_open n e.before.stack then (if is_open n e.after.stack then 0 else 1) else 0) h

-- a job that is on the stack, and one that is released
abbrev pub OnStack : ℕ → ℕ → List Job → Type 0
OnStack i d [] = ⊥
OnStack i d (j ∷ js) = ((j.task ≡ i) × (j.deadline ≡ d)) ⊎ OnStack i d js

abbrev pub IsReleased : ℕ → ℕ → List Released → Type 0
IsReleased i d [] = ⊥
IsReleased i d (e ∷ es) = ((e.task ≡ i) × (e.deadline ≡ d)) ⊎ IsReleased i d es

-- a job that is released and has not ended
abbrev pub Present : ℕ → ℕ → State → Type 0
Present i d s = IsReleased i d s.released ⊎ OnStack i d s.stack

-- the call is an advance that was not refused
abbrev pub IsAdvance : Answer Refusal → Type 0
IsAdvance (Advanced (e, r, i)) = Unit {0}
IsAdvance (Granted g) = ⊥
IsAdvance (Running i) = ⊥
IsAdvance (Refused r) = ⊥

-- a job expires in a call: an advance takes it away
abbrev pub Expires : ℕ → ℕ → Event → Type 0
Expires i d e = IsAdvance e.answer × Present i d e.before × (Present i d e.after → ⊥)

-- some call of a history does so
abbrev pub Somewhere : (Event → Type 0) → List Event → Type 0
Somewhere P [] = ⊥
Somewhere P (e ∷ es) = P e ⊎ Somewhere P es

-- the stay of a grant has not gone past its section's length
abbrev pub GrantFits : Table → List Event → Answer Refusal → Type 0
GrantFits k h (Advanced (e, r, i)) = Unit {0}
GrantFits k h (Granted g) = stay g.serial h ≤ (section_at k g.section).length
GrantFits k h (Running i) = Unit {0}
GrantFits k h (Refused r) = Unit {0}

-- no job has run past its C, and no stay has gone past its section's length
pub record Kept (k : Table) (h : List Event) : Type 0 where
  pub jobs : (i d : ℕ) → run_time i d h ≤ cost k i
  pub stays : (e : Event) → Somewhere (λ x. x ≡ e) h → GrantFits k h e.answer
