-- Replay: a list of calls on a core, one after the other. A core that runs answers each as the machine does and is left as the machine is, given the
-- same table and the same calls and nothing else, so no queue has a say in it; and what is promised of every run holds of this one all along. A shut
-- core answers each call that it is shut, and stays as it is.
use Rattle.std.specs.Prelude.{◌≡◌, ℕ, ◌≤◌, Bool, List, [], ◌∷◌, ◌++◌, map, length, take, drop, replicate}
use Rattle.machine.specs.declared.call.Call.{Call}
use Rattle.machine.specs.State.{Table, State}
use Rattle.machine.specs.Run.{history, reached}
use Rattle.machine.specs.Worked.{answers_of}
use Rattle.machine.specs.Promise.{Promise}
use Rattle.machine.specs.declared.call.Answer.{Answer}
use Rattle.machine.specs.declared.call.Answer.TheVariants.{Refused}
use Rattle.scheduler.specs.declared.answer.Refusal.{Refusal}
use Rattle.scheduler.specs.declared.answer.Refusal.TheVariants.{Shut}
use Rattle.scheduler.specs.Answered.{told}
use Rattle.scheduler.specs.Calls.{answer_of, state_after}

-- what a core answers to a list of calls, one answer to a call
abbrev pub answers_from : Bool → Table → List Call → State → List (Answer Refusal)
answers_from live k [] s = []
answers_from live k (c ∷ cs) s = answer_of live k c s ∷ answers_from live k cs (state_after live k c s)

-- the state after a list of calls
abbrev pub state_from : Bool → Table → List Call → State → State
state_from live k [] s = s
state_from live k (c ∷ cs) s = state_from live k cs (state_after live k c s)

-- what replay leaves of a core that runs: answers and state are the machine's, given the same calls alone, and at the start and after each call
-- all promises hold
pub record Ran (k : Table) (cs : List Call) (answers old : List (Answer Refusal)) (s : State) : Type 0 where
  pub answered : answers ≡ map told (answers_of (history k cs)) ++ drop (length cs) old
  pub state : s ≡ reached k cs
  pub promised : (n : ℕ) → n ≤ length cs → Promise k (take n cs)

-- what replay leaves of a shut core: every answer is that it is shut
abbrev pub AllShut : List Call → List (Answer Refusal) → List (Answer Refusal) → Type 0
AllShut cs answers old = answers ≡ replicate (length cs) (Refused Shut) ++ drop (length cs) old
