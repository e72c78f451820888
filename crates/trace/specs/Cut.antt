-- Where an input is cut: behind the table, and at the end of each line.
use Rattle.std.specs.Prelude.{ℕ, Bool, true, not, cond, ◌&&◌, List, [], ◌∷◌, length, filter, ◌==◌}
use Rattle.std.specs.List.{before_first, after_first, slice_split}

-- a text up to its first byte 10, and what stands behind that
abbrev pub line_of : List ℕ → List ℕ
line_of text = before_first (λ b. b == 10) text

abbrev pub behind_line : List ℕ → List ℕ
behind_line text = after_first (λ b. b == 10) text

-- a text up to its first empty line, and what stands behind that: a byte 10 is an empty line where a line begins
abbrev pub up_to_empty : Bool → List ℕ → List ℕ
up_to_empty begins [] = []
up_to_empty begins (b ∷ t) = cond (b == 10 && begins) [] (b ∷ up_to_empty (b == 10) t)

abbrev pub behind_empty : Bool → List ℕ → List ℕ
behind_empty begins [] = []
behind_empty begins (b ∷ t) = cond (b == 10 && begins) t (behind_empty (b == 10) t)

abbrev pub table_of : List ℕ → List ℕ
table_of input = up_to_empty true input

abbrev pub behind_table : List ℕ → List ℕ
behind_table input = behind_empty true input

-- the pieces between the bytes 10 of a text
abbrev pub pieces_of : List ℕ → List (List ℕ)
pieces_of text = slice_split (λ b. b == 10) text

-- those that are not empty
abbrev pub filled : List (List ℕ) → List (List ℕ)
filled pieces = filter (λ piece. not (length piece == 0)) pieces
