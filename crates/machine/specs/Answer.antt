-- The numbers of refusals. What is returned beside a number (the instant that is due, the grant) is a member of the refusal itself.
use Rattle.std.specs.Prelude.{ℕ, List, [], ◌∷◌}
use Rattle.machine.specs.declared.call.Refusal.{Refusal}
use Rattle.machine.specs.declared.call.Refusal.TheVariants.{Past, Far, BeyondDue, NothingRuns, NotEnterable, TooManyEntries, NotInnermost, NotOpen, StillOpen}

-- the number of a refusal
abbrev pub refusal_number : Refusal → ℕ
refusal_number Past = 14
refusal_number Far = 15
refusal_number (BeyondDue due) = 16
refusal_number NothingRuns = 17
refusal_number NotEnterable = 18
refusal_number TooManyEntries = 19
refusal_number (NotInnermost grant) = 20
refusal_number NotOpen = 21
refusal_number StillOpen = 22

-- the numbers that a refusal is written as: its own, and for an instant past what is due the instant that is due. A grant that is handed back is not written
abbrev pub shown_numbers : Refusal → List ℕ
shown_numbers Past = 14 ∷ []
shown_numbers Far = 15 ∷ []
shown_numbers (BeyondDue due) = 16 ∷ due ∷ []
shown_numbers NothingRuns = 17 ∷ []
shown_numbers NotEnterable = 18 ∷ []
shown_numbers TooManyEntries = 19 ∷ []
shown_numbers (NotInnermost grant) = 20 ∷ []
shown_numbers NotOpen = 21 ∷ []
shown_numbers StillOpen = 22 ∷ []
