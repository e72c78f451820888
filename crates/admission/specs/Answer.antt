-- Refusals as numbers: the number that a refusal goes by, and the numbers that are returned for it, its own first.
use Rattle.std.specs.Prelude.{ℕ, List, [], ◌∷◌}
use Rattle.admission.specs.declared.refusal.Refusal.{Refusal}
use Rattle.admission.specs.declared.refusal.Refusal.TheVariants.{Records, Demand, Undecided as NotDecided}

-- the refusal's number
abbrev pub refusal_number : Refusal → ℕ
refusal_number Records = 10
refusal_number (Demand t all) = 11
refusal_number NotDecided = 12

-- what is returned: the number, and for an instant that does not fit the instant, with all that is asked for by then
abbrev pub returned : Refusal → List ℕ
returned Records = 10 ∷ []
returned (Demand t all) = 11 ∷ t ∷ all ∷ []
returned NotDecided = 12 ∷ []
