-- The records of a written line are those that it stands for.
use Rattle.std.proofs.Common.{◌≡◌, ℕ, ◌+◌, ◌^◌, Bool, true, false, cond, not, List, [], ◌∷◌, ◌++◌, length, Some, None, sym, refl, ap, ◌∙◌, append_assoc, append-nil, arith}
use lib.Bits.{bit_or}
use Rattle.table.specs.declared.line.Item.{Item}
use Rattle.table.specs.declared.line.Item.TheVariants.{Open, Named, Close}
use Rattle.table.specs.declared.fill.Letters.{Letters}
use Rattle.table.specs.declared.records.TaskRecord.{TaskRecord}
use Rattle.table.specs.Byte.{is_small}
use Rattle.table.specs.Number.{ticks_of}
use Rattle.table.specs.Nest.{top}
use Rattle.table.specs.Head.{head_of, line_items}
use Rattle.table.specs.Rule.{opens}
use Rattle.table.specs.Grammar.{Letter, Byte, Sections, none, section, Line, render}
use Rattle.table.specs.Breach.{value, resource, sections_place, count}
use Rattle.table.specs.Record.{letters_from, section_of, sections_in, task_of}
use Rattle.table.specs.Meant.{small_set, capital_set, section_meant, sections_meant, task_meant}
use Rattle.table.proofs.Parsed.{read, fair_ticks, name_length_lem}
use Rattle.table.proofs.Sectioned.{opens_line}
use Rattle.table.proofs.Timed.{FairAll, AllFair, ticks_deadline, ticks_period, ticks_cost}
use Rattle.table.proofs.Spotted.{letter_items, letters_at, inside_at, after_at, forest_items, items_line}

abbrev pair : ℕ → ℕ → Letters
pair s c = record { small = s; capital = c }

-- items that begin with no letter
abbrev NoLetter : List Item → Type 0
NoLetter [] = Unit {0}
NoLetter (Open n ∷ is) = Unit {0}
NoLetter (Named l ∷ is) = ⊥
NoLetter (Close ∷ is) = Unit {0}

no_letters : (s c : ℕ) (is : List Item) → NoLetter is → letters_from s c is ≡ pair s c
no_letters s c [] h = refl
no_letters s c (Open n ∷ is) h = refl
no_letters s c (Named l ∷ is) h = absurd h
no_letters s c (Close ∷ is) h = refl

swapped : (b : Bool) (x y : ℕ) → cond (not b) x y ≡ cond b y x
swapped true x y = refl
swapped false x y = refl

letters_are : (p s c : ℕ) (ls : List (Byte Letter)) (is : List Item) → NoLetter is → letters_from s c (letter_items p ls is) ≡ pair (small_set s ls) (capital_set c ls)
letters_are p s c [] is h = no_letters s c is h
letters_are p s c (l ∷ ls) is h =
    let b = is_small l.byte in
    let bit = 2 ^ resource l in
    ap (λ x. letters_from x (cond (not b) (bit_or c bit) c) (letter_items (p + 2) ls is)) (swapped b s (bit_or s bit))
    ∙ ap (λ x. letters_from (cond b (bit_or s bit) s) x (letter_items (p + 2) ls is)) (swapped b (bit_or c bit) c)
    ∙ letters_are (p + 2) _ _ ls is h

forest_no_letter : (p : ℕ) (f : Sections) (is : List Item) → NoLetter (forest_items p f (Close ∷ is))
forest_no_letter p none is = tt
forest_no_letter p (section n ls f g) is = tt

-- letters make no records
past_letters : (task k p : ℕ) (st : List ℕ) (ls : List (Byte Letter)) (is : List Item) → sections_in task k st (letter_items p ls is) ≡ sections_in task k st is
past_letters task k p st [] is = refl
past_letters task k p st (l ∷ ls) is = past_letters task k (p + 2) st ls is

-- the records of a forest before others
sections_are : (task k p : ℕ) (st : List ℕ) (f : Sections) (is : List Item) → FairAll f → sections_in task k st (forest_items p f is) ≡ sections_meant task k (top st) f ++ sections_in task (k + count f) st is
sections_are task k p st none is h = ap (λ n. sections_in task n st is) (let e : k ≡ k + 0 = omega arith in e)
sections_are task k p st (section n ls f g) is (fair, (in_f, in_g)) =
    let rest = forest_items (after_at p n ls f) g is in
    let inside = forest_items (inside_at p n ls) f (Close ∷ rest) in
    let here : section_of task (top st) (letters_from 0 0 (letter_items (letters_at p n) ls inside)) (ticks_of (read (p + 1) n)) ≡ section_meant task (top st) n ls =
    ap (λ x. section_of task (top st) x (ticks_of (read (p + 1) n))) (letters_are (letters_at p n) 0 0 ls inside (forest_no_letter (inside_at p n ls) f rest))
    ∙ ap (λ x. section_of task (top st) (pair (small_set 0 ls) (capital_set 0 ls)) x) (fair_ticks (p + 1) n fair) in
    let count-is : k + 1 + count f + count g ≡ k + (1 + count f + count g) = omega arith in
    ap (λ x. x ∷ sections_in task (k + 1) (k ∷ st) (letter_items (letters_at p n) ls inside)) here
    ∙ ap (λ l. section_meant task (top st) n ls ∷ l) (past_letters task (k + 1) (letters_at p n) (k ∷ st) ls inside
    ∙ sections_are task (k + 1) (inside_at p n ls) (k ∷ st) f (Close ∷ rest) in_f
    ∙ ap (λ l. sections_meant task (k + 1) (Some k) f ++ l) (sections_are task (k + 1 + count f) (after_at p n ls f) st g is in_g
    ∙ ap (λ x. sections_meant task (k + 1 + count f) (top st) g ++ sections_in task x st is) count-is)
    ∙ sym (append_assoc (sections_meant task (k + 1) (Some k) f) (sections_meant task (k + 1 + count f) (top st) g) _))

pub sections_line : (task k : ℕ) (l : Line) → AllFair l → sections_in task k [] (line_items (render l)) ≡ sections_meant task k None l.sections
sections_line task k l h =
    ap (sections_in task k []) (items_line l) ∙ sections_are task k (sections_place l) [] l.sections [] h.sections ∙ append-nil (sections_meant task k None l.sections)

abbrev make : ℕ → ℕ → ℕ → ℕ → ℕ → ℕ → ℕ → TaskRecord
make place name d t c k n = record {
  name = record { first = place; count = name };
  deadline = d;
  period = t;
  cost = c;
  sections = record { first = k; count = n };
}

pub task_line : (place k : ℕ) (l : Line) → AllFair l → task_of place k (render l) ≡ task_meant place k l
task_line place k l h =
    let d = ticks_deadline l h in
    let t = ticks_period l h in
    let c = ticks_cost l h in
    let r = head_of (render l) in
    let n = opens (line_items (render l)) in
    ap (λ x. make place x (ticks_of r.deadline) (ticks_of r.period) (ticks_of r.cost) k n) (name_length_lem l)
    ∙ ap (λ x. make place (length l.name) x (ticks_of r.period) (ticks_of r.cost) k n) d
    ∙ ap (λ x. make place (length l.name) (value l.deadline) x (ticks_of r.cost) k n) t
    ∙ ap (λ x. make place (length l.name) (value l.deadline) (value l.period) x k n) c
    ∙ ap (λ x. make place (length l.name) (value l.deadline) (value l.period) (value l.cost) k x) (opens_line l)
