-- What it means that a line breaks a rule at a place, from 0 in the line, by what the line consists of. The line stands after so many tasks
-- and sections, and there is room for so many of each in all.
use Rattle.std.specs.Prelude.{◌≡◌, ℕ, ◌+◌, ◌-◌, ◌<◌, ◌≤◌, cond, ◌⊎◌, List, [], ◌∷◌, ◌++◌, length, ◌≢◌}
use Rattle.table.specs.declared.refusal.Rule.{Rule}
use Rattle.table.specs.declared.refusal.Rule.TheVariants.{Form, Number, Times, Tasks, Sections as Room, Repeated, Length}
use Rattle.table.specs.declared.records.Counts.{Counts}
use Rattle.table.specs.Limits.{largest, deepest}
use Rattle.table.specs.Byte.{is_small}
use Rattle.table.specs.Number.{decimal}
use Rattle.table.specs.Grammar.{Letter, Byte, Numeral, Sections, none, section, Line, numeral, letters, sections_text}

-- how many digits a number has
abbrev pub width : Numeral → ℕ
width n = length (numeral n [])

-- what a number says in base ten
abbrev pub value : Numeral → ℕ
value n = decimal (numeral n [])

-- a number that may stand: no zero first, and at most the largest
abbrev pub Fair : Numeral → Type 0
Fair n = (n.first.byte ≢ 48) × (value n ≤ largest)

-- the resource that a letter names, in either case: a is 0
abbrev pub resource : Byte Letter → ℕ
resource l = cond (is_small l.byte) (l.byte - 97) (l.byte - 65)

-- where the three numbers of a line stand, and where its sections begin
abbrev pub deadline_place : Line → ℕ
deadline_place l = length l.name + 4

abbrev pub period_place : Line → ℕ
period_place l = deadline_place l + width l.deadline + 3

abbrev pub cost_place : Line → ℕ
cost_place l = period_place l + width l.period + 3

abbrev pub sections_place : Line → ℕ
sections_place l = cost_place l + width l.cost

-- a section without those inside it
pub record Own : Type 0 where
  pub number : Numeral
  pub letters : List (Byte Letter)

abbrev pub own : Numeral → List (Byte Letter) → Own
own n ls = record { number = n; letters = ls }

-- a section of a line: the place of its first digit, what it has of its own, and the sections around it, innermost first
pub record Spot : Type 0 where
  pub place : ℕ
  pub own : Own
  pub around : List Own

-- where a section's first letter stands
abbrev pub letters_place : Spot → ℕ
letters_place s = s.place + width s.own.number + 2

-- the sections that are written from p on, inside these, in the order of their opening braces; behind them come others
abbrev pub spots : List Own → ℕ → Sections → List Spot → List Spot
spots around p none rest = rest
spots around p (section n ls inner after) rest =
    record { place = p + 1; own = own n ls; around = around }
    ∷ spots (own n ls ∷ around) (p + length (32 ∷ numeral n (123 ∷ letters ls []))) inner
    (spots around (p + length (sections_text (section n ls inner none) [])) after rest)

-- the sections of a line
abbrev pub line_spots : Line → List Spot
line_spots l = spots [] (sections_place l) l.sections []

-- how many sections there are
abbrev pub count : Sections → ℕ
count none = 0
count (section n ls inner after) = 1 + count inner + count after

-- one of these is so, where the first of them has the number k
abbrev pub Any : {X : Type 0} → (ℕ → X → Type 0) → ℕ → List X → Type 0
Any P k [] = ⊥
Any P k (x ∷ xs) = P k x ⊎ Any P (k + 1) xs

-- a number stands at p that may not
abbrev pub Unfair : ℕ → Numeral → ℕ → Type 0
Unfair place n p = (place ≡ p) × (Fair n → ⊥)

-- one of these letters names the resource
abbrev pub Names : List (Byte Letter) → ℕ → Type 0
Names [] r = ⊥
Names (l ∷ ls) r = (resource l ≡ r) ⊎ Names ls r

-- the letters of sections
abbrev pub letters_of : List Own → List (Byte Letter)
letters_of [] = []
letters_of (o ∷ os) = o.letters ++ letters_of os

-- of these letters, the first of which stands at q, the one at p names a resource that `before` or a letter in front of it names
abbrev pub Repeats : List (Byte Letter) → ℕ → List (Byte Letter) → ℕ → Type 0
Repeats before q [] p = ⊥
Repeats before q (l ∷ ls) p = ((q ≡ p) × Names before (resource l)) ⊎ Repeats (l ∷ before) (q + 2) ls p

-- how long a section may be: as long as the one right around it, or C
abbrev pub limit : ℕ → List Own → ℕ
limit cost [] = cost
limit cost (o ∷ os) = value o.number

-- the line breaks the rule at p
abbrev pub Breaks : Counts → Counts → Line → Rule → ℕ → Type 0
Breaks room before l Form p = ⊥
Breaks room before l Number p =
    Unfair (deadline_place l) l.deadline p ⊎ (Unfair (period_place l) l.period p ⊎ (Unfair (cost_place l) l.cost p
    ⊎ Any (λ k s. Unfair s.place s.own.number p) 0 (line_spots l)))
Breaks room before l Times p = (p ≡ 0) × ((value l.cost ≤ value l.deadline) × (value l.deadline ≤ value l.period) → ⊥)
Breaks room before l Tasks p = (p ≡ 0) × (room.tasks ≤ before.tasks)
Breaks room before l Room p =
    Any (λ k s. (s.place ≡ p) × ((room.sections ≤ k) ⊎ (deepest ≤ length s.around))) before.sections (line_spots l)
Breaks room before l Repeated p = Any (λ k s. Repeats (letters_of s.around) (letters_place s) s.own.letters p) 0 (line_spots l)
Breaks room before l Length p = Any (λ k s. (s.place ≡ p) × (limit (value l.cost) s.around < value s.own.number)) 0 (line_spots l)

-- the line breaks no rule
abbrev pub Good : Counts → Counts → Line → Type 0
Good room before l = (rule : Rule) (p : ℕ) → Breaks room before l rule p → ⊥

-- the counts behind a line, and behind lines
abbrev pub past : Counts → Line → Counts
past before l = record { tasks = before.tasks + 1; sections = before.sections + count l.sections }

abbrev pub past_all : Counts → List Line → Counts
past_all before [] = before
past_all before (l ∷ ls) = past_all (past before l) ls

-- each line breaks no rule where it stands
abbrev pub AllGood : Counts → Counts → List Line → Type 0
AllGood room before [] = Unit {0}
AllGood room before (l ∷ ls) = Good room before l × AllGood room (past before l) ls
