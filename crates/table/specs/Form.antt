-- The form of a line as an automaton that reads it byte by byte. It keeps how many sections are open, and not which; so any
-- depth is well formed, and so is a number of any length. What the numbers and letters say is judged elsewhere.
use Rattle.std.specs.Prelude.{ℕ, ◌+◌, ◌-◌, cond, ◌&&◌, List, [], ◌∷◌, Some, None, Option, ◌==◌, nat_lt}
use Rattle.table.specs.Limits.{longest_name}
use Rattle.table.specs.Byte.{is_digit, is_small, is_letter}
use Rattle.table.specs.declared.form.Field.{Field}
use Rattle.table.specs.declared.form.Field.TheVariants.{Deadline, Period, Cost}
use Rattle.table.specs.declared.form.State.{State}
use Rattle.table.specs.declared.form.State.TheVariants.{Name, Colon, Key, Equals, Start, Digits, Closed, Inner, Length, Body, Member}
use Rattle.table.specs.declared.form.Move.{Move}
use Rattle.table.specs.declared.form.Move.TheVariants.{Refuse, Finish, Go}

-- the key of a number: D, T or C
abbrev pub key : Field → ℕ
key Deadline = 68
key Period = 84
key Cost = 67

-- a name has 1 to 8 small letters, and ends at its colon
abbrev pub in_name : ℕ → ℕ → Move
in_name n b = cond (is_small b && nat_lt n longest_name) (Go (Name (n + 1))) (cond (b == 58 && nat_lt 0 n) (Go Colon) Refuse)

abbrev pub in_colon : ℕ → Move
in_colon b = cond (b == 32) (Go (Key Deadline)) Refuse

abbrev pub in_key : Field → ℕ → Move
in_key f b = cond (b == key f) (Go (Equals f)) Refuse

abbrev pub in_equals : Field → ℕ → Move
in_equals f b = cond (b == 61) (Go (Start f)) Refuse

abbrev pub in_start : Field → ℕ → Move
in_start f b = cond (is_digit b) (Go (Digits f)) Refuse

-- D is followed by T, T by C, and C by a section or the line's end
abbrev pub after_digits : Field → ℕ → Move
after_digits Deadline b = cond (b == 32) (Go (Key Period)) Refuse
after_digits Period b = cond (b == 32) (Go (Key Cost)) Refuse
after_digits Cost b = cond (b == 32) (Go (Inner 0)) (cond (b == 10) Finish Refuse)

abbrev pub in_digits : Field → ℕ → Move
in_digits f b = cond (is_digit b) (Go (Digits f)) (after_digits f b)

-- after a closing brace the line ends only where nothing is open
abbrev pub in_closed : ℕ → ℕ → Move
in_closed d b = cond (b == 32) (Go (Inner d)) (cond (b == 10 && d == 0) Finish Refuse)

abbrev pub in_inner : ℕ → ℕ → Move
in_inner d b = cond (is_digit b) (Go (Length d)) (cond (b == 125 && nat_lt 0 d) (Go (Closed (d - 1))) Refuse)

abbrev pub in_length : ℕ → ℕ → Move
in_length d b = cond (is_digit b) (Go (Length d)) (cond (b == 123) (Go (Body d)) Refuse)

abbrev pub in_body : ℕ → ℕ → Move
in_body d b = cond (b == 32) (Go (Member d)) Refuse

-- in a section come its letters, then the sections inside it
abbrev pub in_member : ℕ → ℕ → Move
in_member d b = cond (is_letter b) (Go (Body d)) (cond (is_digit b) (Go (Length (d + 1))) (cond (b == 125) (Go (Closed d)) Refuse))

abbrev pub stepped : State → ℕ → Move
stepped (Name n) b = in_name n b
stepped Colon b = in_colon b
stepped (Key f) b = in_key f b
stepped (Equals f) b = in_equals f b
stepped (Start f) b = in_start f b
stepped (Digits f) b = in_digits f b
stepped (Closed d) b = in_closed d b
stepped (Inner d) b = in_inner d b
stepped (Length d) b = in_length d b
stepped (Body d) b = in_body d b
stepped (Member d) b = in_member d b

-- how many sections are open around what is being read
abbrev pub depth_of : State → ℕ
depth_of (Name n) = 0
depth_of Colon = 0
depth_of (Key f) = 0
depth_of (Equals f) = 0
depth_of (Start f) = 0
depth_of (Digits f) = 0
depth_of (Closed d) = d
depth_of (Inner d) = d
depth_of (Length d) = d
depth_of (Body d) = d
depth_of (Member d) = d

-- the first byte that cannot stand there, when t is read from a state and its first byte stands at i; the text's end counts as one
abbrev pub broken_at : State → ℕ → List ℕ → Option ℕ
broken_at s i [] = Some i
broken_at s i (b ∷ t) = elim (stepped s b) [ Refuse ↦ Some i | Finish ↦ None | Go s' ↦ broken_at s' (i + 1) t ]

-- the same of a whole line; none where it is well formed
abbrev pub form_fault : List ℕ → Option ℕ
form_fault line = broken_at (Name 0) 0 line
