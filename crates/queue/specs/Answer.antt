-- What an insert answers, and what it leaves: refusals have numbers, and a refused entry changes nothing.
use Rattle.std.specs.Prelude.{ℕ, Bool, cond, ◌||◌, List, length, Some, None, Ok, Err, Option, Result, nat_le}
use Rattle.queue.specs.Order.{Order, insert_sorted}
use Rattle.queue.specs.Meaning.{limit, queued}
use Rattle.queue.specs.declared.refusal.Refusal.{Refusal}
use Rattle.queue.specs.declared.refusal.Refusal.TheVariants.{Present, Full}

-- the number of a refusal
abbrev pub number_of : Refusal → ℕ
number_of Present = 23
number_of Full = 24

-- whether the entry's task has a number above 31 or is in the list
abbrev pub unfit : {E : Type 0} → Order E → E → List E → Bool
unfit o e xs = nat_le limit (o.task_of e) || queued o.task_of (o.task_of e) xs

-- the refusal of what is not fit, then of what finds no room
abbrev pub chosen : Bool → Bool → Option Refusal
chosen unfit full = cond unfit (Some Present) (cond full (Some Full) None)

-- why a queue with this capacity and list refuses the entry, if it does
abbrev pub refusal_of : {E : Type 0} → Order E → ℕ → E → List E → Option Refusal
refusal_of o capacity e xs = chosen (unfit o e xs) (nat_le capacity (length xs))

-- what an insert answers where it is refused so
abbrev pub answer_of : Option Refusal → Result (Unit {0}) Refusal
answer_of None = Ok tt
answer_of (Some r) = Err r

-- the second list where there is a refusal, and the first where there is none
abbrev pub unless : {E : Type 0} → Option Refusal → List E → List E → List E
unless None xs ys = xs
unless (Some r) xs ys = ys

-- what an insert answers
abbrev pub answered : {E : Type 0} → Order E → ℕ → E → List E → Result (Unit {0}) Refusal
answered o capacity e xs = answer_of (refusal_of o capacity e xs)

-- the list after an insert
abbrev pub inserted : {E : Type 0} → Order E → ℕ → E → List E → List E
inserted o capacity e xs = unless (refusal_of o capacity e xs) (insert_sorted o.before e xs) xs
