-- The numbers of refusals, what each returns (its number, then line and byte where it has a place), and how that is written.
use Rattle.std.specs.Prelude.{ℕ, List, [], ◌∷◌, ◌++◌, decimal}
use Rattle.table.specs.declared.refusal.Rule.{Rule}
use Rattle.table.specs.declared.refusal.Rule.TheVariants.{Form, Number, Times, Tasks, Sections, Repeated, Length}
use Rattle.table.specs.declared.refusal.Refusal.{Refusal}
use Rattle.table.specs.declared.refusal.Refusal.TheVariants.{TooLong, Empty, Broken}

-- the number of a rule
abbrev pub rule_number : Rule → ℕ
rule_number Form = 3
rule_number Number = 4
rule_number Times = 5
rule_number Tasks = 6
rule_number Sections = 7
rule_number Repeated = 8
rule_number Length = 9

-- the number of a refusal
abbrev pub refusal_number : Refusal → ℕ
refusal_number TooLong = 1
refusal_number Empty = 2
refusal_number (Broken rule place) = rule_number rule

-- what a refusal returns
abbrev pub returned : Refusal → List ℕ
returned TooLong = 1 ∷ []
returned Empty = 2 ∷ []
returned (Broken rule place) = rule_number rule ∷ place.line ∷ place.byte ∷ []

-- numbers as they are written, one space apart
abbrev pub spaced : List ℕ → List ℕ
spaced [] = []
spaced (n ∷ []) = decimal n
spaced (n ∷ (m ∷ ms)) = decimal n ++ (32 ∷ spaced (m ∷ ms))
