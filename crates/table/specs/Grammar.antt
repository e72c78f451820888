-- The grammar of a table: what a line consists of, and how it is written. A name, three numbers, then sections, each with its number, its
-- letters and the sections inside it. Any depth, and numbers of any length: what they may say is another matter.
use Rattle.std.specs.Prelude.{ℕ, ◌≤◌, ◌⊎◌, List, [], ◌∷◌, ◌++◌, length}
use Rattle.table.specs.Limits.{longest_name}

-- the digits 0 to 9
abbrev pub Digit : ℕ → Type 0
Digit b = (48 ≤ b) × (b ≤ 57)

-- the letters a to z
abbrev pub Small : ℕ → Type 0
Small b = (97 ≤ b) × (b ≤ 122)

-- the letters A to Z
abbrev pub Capital : ℕ → Type 0
Capital b = (65 ≤ b) × (b ≤ 90)

abbrev pub Letter : ℕ → Type 0
Letter b = Small b ⊎ Capital b

-- a byte of one kind
pub record Byte (Kind : ℕ → Type 0) : Type 0 where
  pub byte : ℕ
  pub is : Kind byte

-- a number as it is written: one digit, and more
pub record Numeral : Type 0 where
  pub first : Byte Digit
  pub more : List (Byte Digit)

-- sections side by side: none, or one with its number, its letters and the sections inside it, and then those after it
pub data Sections : Type 0 where
  none : Sections
  section : Numeral → List (Byte Letter) → Sections → Sections → Sections

pub record Line : Type 0 where
  pub name : List (Byte Small)
  pub named : 1 ≤ length name
  pub short : length name ≤ longest_name
  pub deadline : Numeral
  pub period : Numeral
  pub cost : Numeral
  pub sections : Sections

-- each of these writes its part before a text
abbrev pub bytes : {K : ℕ → Type 0} → List (Byte K) → List ℕ → List ℕ
bytes [] t = t
bytes (b ∷ bs) t = b.byte ∷ bytes bs t

abbrev pub numeral : Numeral → List ℕ → List ℕ
numeral n t = n.first.byte ∷ bytes n.more t

-- a space before each letter
abbrev pub letters : List (Byte Letter) → List ℕ → List ℕ
letters [] t = t
letters (l ∷ ls) t = 32 ∷ l.byte ∷ letters ls t

-- ` N{`, the letters, the sections inside, ` }`, and the sections after it
abbrev pub sections_text : Sections → List ℕ → List ℕ
sections_text none t = t
sections_text (section n ls inner after) t =
    32 ∷ numeral n (123 ∷ letters ls (sections_text inner (32 ∷ 125 ∷ sections_text after t)))

-- a line as it is written: `name: D=N T=N C=N`, its sections, and the byte 10
abbrev pub render : Line → List ℕ
render l =
    bytes l.name (58 ∷ 32 ∷ 68 ∷ 61 ∷ numeral l.deadline (32 ∷ 84 ∷ 61 ∷ numeral l.period
    (32 ∷ 67 ∷ 61 ∷ numeral l.cost (sections_text l.sections (10 ∷ [])))))

-- lines one after another
abbrev pub render_all : List Line → List ℕ
render_all [] = []
render_all (l ∷ ls) = render l ++ render_all ls
