-- Where a text stops being lines: at the first byte that cannot stand there.
use Rattle.std.specs.Prelude.{◌≡◌, ℕ, ◌+◌, ◌≤◌, List, ◌++◌, length, take, ◌≢◌}
use Rattle.table.specs.Grammar.{Line, render}

-- some line begins with these bytes
abbrev pub Begins : List ℕ → Type 0
Begins p = (l : Line) × (more : List ℕ) × (render l ≡ p ++ more)

-- the byte at k is the first that cannot stand there, in a text that should begin with a line; at the text's length, its end is that byte
pub record BrokenAt (text : List ℕ) (k : ℕ) : Type 0 where
  pub within : k ≤ length text
  pub before : Begins (take k text)
  pub not_here : (k ≢ length text) → Begins (take (k + 1) text) → ⊥
  pub not_whole : (l : Line) (more : List ℕ) → text ≢ render l ++ more
