-- The head of a well-formed line: its name, then `: D=`, a number, ` T=`, a number, ` C=` and a number. What stands behind is the
-- line's body.
use Rattle.std.specs.Prelude.{ℕ, ◌+◌, cond, List, [], ◌∷◌, ◌==◌}
use Rattle.table.specs.declared.line.Item.{Item}
use Rattle.table.specs.declared.head.Head.{Head}
use Rattle.table.specs.Number.{numeral_at, behind}
use Rattle.table.specs.Item.{items_from}

-- how many bytes stand before the colon
abbrev pub name_length : List ℕ → ℕ
name_length [] = 0
name_length (b ∷ t) = cond (b == 58) 0 (1 + name_length t)

-- where the three numbers and the body begin
abbrev pub deadline_at : List ℕ → ℕ
deadline_at line = name_length line + 4

abbrev pub period_at : List ℕ → ℕ
period_at line = behind (deadline_at line) line + 3

abbrev pub cost_at : List ℕ → ℕ
cost_at line = behind (period_at line) line + 3

abbrev pub body_at : List ℕ → ℕ
body_at line = behind (cost_at line) line

abbrev pub head_of : List ℕ → Head
head_of line = record {
  name = name_length line;
  deadline = numeral_at (deadline_at line) line;
  period = numeral_at (period_at line) line;
  cost = numeral_at (cost_at line) line;
  body = body_at line;
}

-- the items of a line
abbrev pub line_items : List ℕ → List Item
line_items line = items_from (body_at line) line
