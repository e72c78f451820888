-- The lines of a text, each with its byte 10; the last may lack it.
use Rattle.std.specs.Prelude.{ℕ, ◌+◌, cond, List, [], ◌∷◌, ◌==◌}

-- a byte before lines belongs to the first of them
abbrev pub start_line : ℕ → List (List ℕ) → List (List ℕ)
start_line b [] = (b ∷ []) ∷ []
start_line b (line ∷ lines) = (b ∷ line) ∷ lines

abbrev pub lines_of : List ℕ → List (List ℕ)
lines_of [] = []
lines_of (b ∷ t) = cond (b == 10) ((b ∷ []) ∷ lines_of t) (start_line b (lines_of t))

-- how long the first line is
abbrev pub line_length : List ℕ → ℕ
line_length [] = 0
line_length (b ∷ t) = cond (b == 10) 1 (1 + line_length t)
