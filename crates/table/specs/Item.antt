-- The items of a line behind its head: sections that open, letters, sections that close. Spaces, opening braces and the line's end
-- say nothing more, and are passed over.
use Rattle.std.specs.Prelude.{ℕ, ◌+◌, ◌-◌, ◌^◌, Bool, true, false, cond, List, [], ◌∷◌, drop, Some, None, Option, ◌==◌}
use Rattle.table.specs.declared.line.Cursor.{Cursor}
use Rattle.table.specs.declared.line.Item.{Item}
use Rattle.table.specs.declared.line.Item.TheVariants.{Open, Named, Close}
use Rattle.table.specs.Byte.{is_digit, is_small, is_capital}
use Rattle.table.specs.Number.{digit_run, value_of}

-- the item that a byte at p is by itself: a letter, or a closing brace
abbrev pub mark_at : ℕ → ℕ → Option Item
mark_at p b =
    cond (is_small b) (Some (Named (record { place = p; bit = 2 ^ (b - 97); capital = false })))
    (cond (is_capital b) (Some (Named (record { place = p; bit = 2 ^ (b - 65); capital = true })))
    (cond (b == 125) (Some Close) None))

-- an item, if there is one, before others
abbrev pub joined : Option Item → List Item → List Item
joined None rest = rest
joined (Some item) rest = item ∷ rest

-- the items of a text whose first byte stands at p; a number opens a section at its first digit
abbrev pub items : Bool → ℕ → List ℕ → List Item
items within p [] = []
items within p (b ∷ t) =
    cond (is_digit b)
    (cond within (items true (p + 1) t) (Open (record { place = p; value = value_of (digit_run (b ∷ t)) }) ∷ items true (p + 1) t))
    (joined (mark_at p b) (items false (p + 1) t))

-- the items of a line from a place on
abbrev pub items_from : ℕ → List ℕ → List Item
items_from p line = items false p (drop p line)

-- the items that a cursor has still to give
abbrev pub left : Cursor → List Item
left c = items_from c.place c.line.now
