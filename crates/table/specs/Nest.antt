-- A stack of numbers, one for each open section: the list of them, innermost first.
use Rattle.std.specs.Prelude.{ℕ, List, [], ◌∷◌, Some, None, Option}

-- the innermost number, if there is one
abbrev pub top : List ℕ → Option ℕ
top [] = None
top (x ∷ xs) = Some x

-- what is left when the innermost section closes
abbrev pub outer : List ℕ → List ℕ
outer [] = []
outer (x ∷ xs) = xs

-- another number for the innermost section
abbrev pub renewed : ℕ → List ℕ → List ℕ
renewed v [] = []
renewed v (x ∷ xs) = v ∷ xs
