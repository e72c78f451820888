-- The records of a line's sections, one by one.
use Rattle.std.proofs.Common.{◌≡◌, ℕ, ◌+◌, Bool, true, false, List, [], ◌∷◌, length, refl, arith}
use Rattle.std.specs.List.{filter}
use Rattle.table.specs.declared.line.Item.{Item}
use Rattle.table.specs.declared.line.Item.TheVariants.{Open, Named, Close}
use Rattle.table.specs.Nest.{outer}
use Rattle.table.specs.Rule.{opens}
use Rattle.table.specs.Record.{sections_in}

-- sections that open, among items
abbrev pub is_open : Item → Bool
is_open (Open n) = true
is_open (Named l) = false
is_open Close = false

pub opens_filter : (is : List Item) → length (filter is_open is) ≡ opens is
opens_filter [] = refl
opens_filter (Open n ∷ is) = omega (arith, opens_filter is)
opens_filter (Named l ∷ is) = opens_filter is
opens_filter (Close ∷ is) = opens_filter is

-- there are as many records as sections that open
pub length-sections_in : (task n : ℕ) (around : List ℕ) (is : List Item) → length (sections_in task n around is) ≡ opens is
length-sections_in task n around [] = refl
length-sections_in task n around (Open m ∷ is) = omega (arith, length-sections_in task (n + 1) (n ∷ around) is)
length-sections_in task n around (Named l ∷ is) = length-sections_in task n around is
length-sections_in task n around (Close ∷ is) = length-sections_in task n (outer around) is
