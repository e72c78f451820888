-- An order of entries: which of two comes before the other, and of which task an entry is. Sorted insertion puts an entry where the order says.
use Rattle.std.specs.Prelude.{◌≡◌, ℕ, Bool, true, false, cond, List, [], ◌∷◌}
use Rattle.std.specs.List.{AllByRecursion}

-- what a queue knows of its entries
pub record Order (E : Type 0) : Type 0 where
  pub before : E → E → Bool
  pub task_of : E → ℕ

-- what a test has to keep to be "comes before" of a total order: only identical entries are equal
pub record Total {E : Type 0} (before : E → E → Bool) : Type 0 where
  pub irreflexive : (x : E) → before x x ≡ false
  pub transitive : (x y z : E) → before x y ≡ true → before y z ≡ true → before x z ≡ true
  pub total : (x y : E) → before x y ≡ false → before y x ≡ false → x ≡ y

-- the list with e put in front of the first entry that it comes before
abbrev pub insert_sorted : {E : Type 0} → (E → E → Bool) → E → List E → List E
insert_sorted before e [] = e ∷ []
insert_sorted before e (x ∷ xs) = cond (before e x) (e ∷ x ∷ xs) (x ∷ insert_sorted before e xs)

-- the entries of a list, each put in its place
abbrev pub sorted : {E : Type 0} → (E → E → Bool) → List E → List E
sorted before [] = []
sorted before (x ∷ xs) = insert_sorted before x (sorted before xs)

-- each entry comes before all that stand after it
abbrev pub Rising : {E : Type 0} → (E → E → Bool) → List E → Type 0
Rising before [] = Unit {0}
Rising before (x ∷ xs) = AllByRecursion (λ y. before x y ≡ true) xs × Rising before xs
