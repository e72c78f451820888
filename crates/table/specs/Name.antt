-- A part of a text, by the place of its first byte and its length.
use Rattle.std.specs.Prelude.{ℕ, ◌+◌, cond, List, [], length, take, drop, nat_le}

-- the bytes, if all of them lie in the text
abbrev pub part_of : ℕ → ℕ → List ℕ → List ℕ
part_of first count text = cond (nat_le (first + count) (length text)) (take count (drop first text)) []
