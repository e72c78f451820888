-- What a number is. Its digits have no zero first, and its value is 1 to 1,048,576.
use Rattle.std.specs.Prelude.{◌≡◌, ℕ, ◌+◌, ◌-◌, ◌*◌, ◌<◌, Bool, true, false, cond, ◌&&◌, List, [], ◌∷◌, length, drop, Some, None, Option, nat_le, nat_lt, slice_index}
use Rattle.std.specs.Option.{unwrap_or}
use Rattle.table.specs.declared.line.Numeral.{Numeral}
use Rattle.table.specs.Limits.{largest}
use Rattle.table.specs.Byte.{is_digit}

-- the digits that a text begins with
abbrev pub digit_run : List ℕ → List ℕ
digit_run [] = []
digit_run (b ∷ t) = cond (is_digit b) (b ∷ digit_run t) []

-- the value of digits in base ten, after what has been read of them
abbrev pub decimal_from : ℕ → List ℕ → ℕ
decimal_from a [] = a
decimal_from a (b ∷ t) = decimal_from (a * 10 + (b - 48)) t

abbrev pub decimal : List ℕ → ℕ
decimal ds = decimal_from 0 ds

-- no zero first, and at most the largest number
abbrev pub allowed : List ℕ → Bool
allowed ds = nat_lt 48 (slice_index ds 0) && nat_le (decimal ds) largest

-- the number that digits are; none where they break a rule
abbrev pub value_of : List ℕ → Option ℕ
value_of ds = cond (allowed ds) (Some (decimal ds)) None

-- the same by the first digit, if there is one, and what all the digits come to
abbrev pub ranged : Option ℕ → ℕ → Option ℕ
ranged None v = None
ranged (Some d) v = cond (nat_lt 0 d && nat_le v largest) (Some v) None

-- the number at a place, and the place behind it
abbrev pub numeral_at : ℕ → List ℕ → Numeral
numeral_at p line = record { place = p; value = value_of (digit_run (drop p line)) }

abbrev pub behind : ℕ → List ℕ → ℕ
behind p line = p + length (digit_run (drop p line))

-- a number's ticks; 0 for one that breaks a rule
abbrev pub ticks_of : Numeral → ℕ
ticks_of n = unwrap_or n.value 0

-- no digit stands at i; the digit d does
abbrev pub NoDigit : List ℕ → ℕ → Type 0
NoDigit xs i = is_digit (slice_index xs i) ≡ false

pub record IsDigit (xs : List ℕ) (i d : ℕ) : Type 0 where
  pub within : i < length xs
  pub here : is_digit (slice_index xs i) ≡ true
  pub value : d ≡ slice_index xs i - 48
