-- What the calls and the questions of a core answer. A call's answer is the machine's answer to it; a shut core refuses every call and stays as it
-- is. A refusal that takes no grant hands the same one back.
use Rattle.std.specs.Prelude.{◌≡◌, ℕ, Bool, false, if◌then◌else◌, ◌||◌, List, [], ◌∷◌, Some, None, Ok, Err, Option, Result, ◌==◌}
use Rattle.queue.specs.declared.waiting.Waiting.{Waiting as WaitingEntry}
use Rattle.queue.specs.declared.released.Released.{Released as ReleasedEntry}
use Rattle.queue.specs.Meaning.{queued}
use Rattle.machine.specs.declared.call.Call.{Call}
use Rattle.machine.specs.declared.call.Refusal.TheVariants.{NotInnermost, NotOpen}
use Rattle.machine.specs.State.{Table, Job, State, inherited}
use Rattle.machine.specs.State.{Counts as Tally}
use Rattle.machine.specs.Step.{step}
use Rattle.machine.specs.declared.call.Answer.{Answer}
use Rattle.machine.specs.declared.call.Answer.TheVariants.{Advanced, Granted, Running as Runs, Refused}
use Rattle.scheduler.specs.declared.answer.Refusal.{Refusal}
use Rattle.scheduler.specs.declared.answer.Refusal.TheVariants.{Shut, Machine}
use Rattle.scheduler.specs.declared.question.Counts.{Counts}
use Rattle.scheduler.specs.declared.grant.Grant.{Grant}
use Rattle.scheduler.specs.declared.grant.LeaveRefusal.{LeaveRefusal}
use Rattle.scheduler.specs.declared.grant.LeaveRefusal.TheVariants.{Shut as ShutBack, NotInnermost as NotInnermostBack, NotOpen as Spent}
use Rattle.scheduler.specs.declared.question.Place.{Place}
use Rattle.scheduler.specs.declared.question.Place.TheVariants.{Waiting, Released, Stacked}
use Rattle.scheduler.specs.declared.question.Running.{Running}
use Rattle.scheduler.specs.Answered.{told, refusal_number}
use Rattle.scheduler.specs.View.{tally_of}

-- what a core answers to a call in a state, and the state that it is left in
abbrev pub answer_of : Bool → Table → Call → State → Answer Refusal
answer_of live k c s = if live then told (step k c s).answer else Refused Shut

abbrev pub state_after : Bool → Table → Call → State → State
state_after live k c s = if live then (step k c s).state else s

-- the results of the four calls, as answers
abbrev pub of_advance : {R : Type 0} → Result (ℕ × ℕ × ℕ) R → Answer R
of_advance (Ok a) = Advanced a
of_advance (Err r) = Refused r

abbrev pub of_enter : {R : Type 0} → Result Grant R → Answer R
of_enter (Ok g) = Granted g.ticket
of_enter (Err r) = Refused r

-- the refusal behind a refusal to leave, without its grant
abbrev pub refusal_of : LeaveRefusal → Refusal
refusal_of (ShutBack g) = Shut
refusal_of (NotInnermostBack g) = Machine (NotInnermost g.ticket)
refusal_of Spent = Machine NotOpen

abbrev pub of_leave : Result ℕ LeaveRefusal → Answer Refusal
of_leave (Ok i) = Runs i
of_leave (Err r) = Refused (refusal_of r)

abbrev pub of_finish : {R : Type 0} → Result ℕ R → Answer R
of_finish (Ok i) = Runs i
of_finish (Err r) = Refused r

-- a grant that is handed back is the one that was given
abbrev pub HandsBack : Grant → Result ℕ LeaveRefusal → Type 0
HandsBack g (Ok i) = Unit {0}
HandsBack g (Err (ShutBack h)) = h ≡ g
HandsBack g (Err (NotInnermostBack h)) = h ≡ g
HandsBack g (Err Spent) = Unit {0}

-- the number of a refusal to leave
abbrev pub leave_number : LeaveRefusal → ℕ
leave_number r = refusal_number (refusal_of r)

-- a question's answer: a shut core refuses
abbrev pub asked : {X : Type 0} → Bool → X → Result X Refusal
asked live x = if live then Ok x else Err Shut

-- whether a task has a job on the stack
abbrev pub stacked : ℕ → List Job → Bool
stacked i [] = false
stacked i (j ∷ js) = j.task == i || stacked i js

-- where a task is: none for a number outside the table
abbrev pub place_of : State → ℕ → Option Place
place_of s i =
    if queued (λ (w : WaitingEntry). w.task) i s.waiting then Some Waiting
    else if queued (λ (e : ReleasedEntry). e.task) i s.released then Some Released
    else if stacked i s.stack then Some Stacked
    else None

-- the running task with its deadlines: none where none runs
abbrev pub running_job : Table → List Job → Option Running
running_job k [] = None
running_job k (j ∷ js) = Some (record { task = j.task; deadline = j.deadline; inherited = inherited k j })

-- the counts, as the machine has them
abbrev pub tallied : Result Counts Refusal → Result Tally Refusal
tallied (Ok c) = Ok (tally_of c)
tallied (Err r) = Err r
