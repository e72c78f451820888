-- Which call a line is.
use Rattle.std.specs.Prelude.{◌≡◌, ℕ, ◌^◌, ◌<◌, true, List, ◌∷◌, ◌++◌, length, codes, Option, MatchOption}
use Rattle.std.specs.Str.{all_ascii_digits}
use Rattle.table.specs.Number.{decimal}
use Rattle.machine.specs.declared.call.Ticket.{Ticket}
use Rattle.machine.specs.declared.call.Call.{Call}
use Rattle.machine.specs.declared.call.Call.TheVariants.{Advance, Enter, Leave, Finish}

-- digits, one or more, that come to a number of so many bits
pub record Number (bits : ℕ) (ds : List ℕ) (n : ℕ) : Type 0 where
  pub digits : all_ascii_digits ds ≡ true
  pub some : 0 < length ds
  pub value : n ≡ decimal ds
  pub fits : n < 2 ^ bits

-- the number of so many bits that a word is, if it is one
abbrev pub Counts : ℕ → List ℕ → Option ℕ → Type 0
Counts bits word r = MatchOption r ((n : ℕ) → Number bits word n → ⊥) (λ n. Number bits word n)

-- three numbers, one space apart, and the grant that they name
abbrev pub Three : List ℕ → Ticket → Type 0
Three words g = (ts : List ℕ) × (ss : List ℕ) × (ns : List ℕ) × (words ≡ ts ++ (32 ∷ (ss ++ (32 ∷ ns)))) × Number 64 ts g.task × Number 64 ss g.section × Number 32 ns g.serial

abbrev pub Names : List ℕ → Option Ticket → Type 0
Names words r = MatchOption r ((g : Ticket) → Three words g → ⊥) (λ g. Three words g)

-- a line that writes a call: its word and its numbers, one space apart
abbrev pub Writes : List ℕ → Call → Type 0
Writes line (Advance t) = (ds : List ℕ) × (line ≡ codes "advance " ++ ds) × Number 64 ds t
Writes line (Enter s) = (ds : List ℕ) × (line ≡ codes "enter " ++ ds) × Number 64 ds s
Writes line (Leave g) = (ds : List ℕ) × (line ≡ codes "leave " ++ ds) × Three ds g
Writes line Finish = line ≡ codes "finish"

-- the call that a line is: one that it writes, or none where it writes none
abbrev pub Says : List ℕ → Option Call → Type 0
Says line r = MatchOption r ((c : Call) → Writes line c → ⊥) (λ c. Writes line c)
