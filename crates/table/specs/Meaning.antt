-- What the answer of reading means, in the words of the grammar. A text is read exactly when it is what one or more lines look like that
-- break no rule, and its records are those of the lines. A refusal names the first bad line: its form breaks at the first byte that cannot
-- stand there, or else it is a line that breaks the rule named, at the earliest place, and no rule with a lower number.
use Rattle.std.specs.Prelude.{◌≡◌, ℕ, ◌+◌, ◌<◌, ◌≤◌, true, List, [], ◌++◌, length, is_ok, Ok, Err, Result}
use Rattle.table.specs.declared.refusal.Rule.{Rule}
use Rattle.table.specs.declared.refusal.Rule.TheVariants.{Form, Number, Times, Tasks, Sections, Repeated, Length}
use Rattle.table.specs.declared.refusal.Place.{Place}
use Rattle.table.specs.declared.refusal.Refusal.{Refusal}
use Rattle.table.specs.declared.refusal.Refusal.TheVariants.{TooLong, Empty, Broken}
use Rattle.table.specs.declared.records.Counts.{Counts}
use Rattle.table.specs.Limits.{longest_text}
use Rattle.table.specs.Answer.{rule_number}
use Rattle.table.specs.Grammar.{Line, render, render_all}
use Rattle.table.specs.Breach.{Breaks, AllGood, past_all}
use Rattle.table.specs.Broken.{BrokenAt}
use Rattle.table.specs.Meant.{tasks_meant, all_sections_meant}
use Rattle.table.specs.Judged.{nothing_read}
use Rattle.table.specs.Record.{text_tasks, bare_sections}

-- the line breaks the rule at p, nowhere earlier, and no rule with a lower number anywhere
pub record First (room before : Counts) (l : Line) (rule : Rule) (p : ℕ) : Type 0 where
  pub breaks : Breaks room before l rule p
  pub earliest : (q : ℕ) → q < p → Breaks room before l rule q → ⊥
  pub lowest : (other : Rule) (q : ℕ) → rule_number other < rule_number rule → Breaks room before l other q → ⊥

-- the text begins with a line of which this is the breach that counts
abbrev pub Bad : Counts → Counts → List ℕ → Rule → ℕ → Type 0
Bad room before text rule p = (l : Line) × (more : List ℕ) × (text ≡ render l ++ more) × First room before l rule p

-- why a text, which should begin with one more line, is refused at p
abbrev pub Fault : Counts → Counts → List ℕ → Rule → ℕ → Type 0
Fault room before text Form p = BrokenAt text p
Fault room before text Number p = Bad room before text Number p
Fault room before text Times p = Bad room before text Times p
Fault room before text Tasks p = Bad room before text Tasks p
Fault room before text Sections p = Bad room before text Sections p
Fault room before text Repeated p = Bad room before text Repeated p
Fault room before text Length p = Bad room before text Length p

-- a text that is read: its lines, its counts and its records
pub record Table (text : List ℕ) (room counts : Counts) : Type 0 where
  pub lines : List Line
  pub some : 1 ≤ length lines
  pub short : length text ≤ longest_text
  pub written : text ≡ render_all lines
  pub good : AllGood room nothing_read lines
  pub counted : counts ≡ past_all nothing_read lines
  pub tasks : text_tasks text ≡ tasks_meant 0 0 lines
  pub sections : bare_sections text ≡ all_sections_meant 0 0 lines

-- a text that is refused at a place: good lines, and then one that is not
pub record Refused (text : List ℕ) (room : Counts) (rule : Rule) (place : Place) : Type 0 where
  pub lines : List Line
  pub rest : List ℕ
  pub more : 1 ≤ length rest
  pub short : length text ≤ longest_text
  pub written : text ≡ render_all lines ++ rest
  pub good : AllGood room nothing_read lines
  pub line : place.line ≡ length lines + 1
  pub before_byte : ℕ
  pub byte : place.byte ≡ before_byte + 1
  pub fault : Fault room (past_all nothing_read lines) rest rule before_byte

-- what each answer means
abbrev pub Meaning : List ℕ → Counts → Result Counts Refusal → Type 0
Meaning text room (Ok counts) = Table text room counts
Meaning text room (Err TooLong) = longest_text < length text
Meaning text room (Err Empty) = text ≡ []
Meaning text room (Err (Broken rule place)) = Refused text room rule place

-- every text of lines that break no rule is read, unless it is too long
abbrev pub Exactly : List ℕ → Counts → Result Counts Refusal → Type 0
Exactly text room r = (lines : List Line) → 1 ≤ length lines → length text ≤ longest_text → text ≡ render_all lines → AllGood room nothing_read lines → is_ok r ≡ true
