-- Faults lie in their line.
use Rattle.std.proofs.Common.{ℕ, suc, ◌+◌, ◌-◌, ◌<◌, ◌≤◌, Bool, true, false, cond, ◌&&◌, eqb, ltb, leb, List, [], ◌∷◌, length, drop, Some, None, Ok, Err, Option, Result, unwrap_or, arith}
use lib.Bits.{bit_and, bit_or}
use Rattle.std.specs.List.{AllByRecursion}
use Rattle.std.proofs.lemmas.List.{length-drop}
use Rattle.std.proofs.lemmas.Bool.{cond_both}
use Rattle.table.specs.declared.refusal.Rule.{Rule}
use Rattle.table.specs.declared.refusal.Rule.TheVariants.{Form, Number, Times, Tasks, Sections, Repeated, Length}
use Rattle.table.specs.declared.form.State.{State}
use Rattle.table.specs.declared.form.Move.TheVariants.{Refuse, Finish, Go}
use Rattle.table.specs.declared.line.Numeral.{Numeral}
use Rattle.table.specs.declared.line.Item.{Item}
use Rattle.table.specs.declared.line.Item.TheVariants.{Open, Named, Close}
use Rattle.table.specs.declared.check.Fault.{Fault}
use Rattle.table.specs.declared.records.Counts.{Counts}
use Rattle.table.specs.Byte.{is_digit, is_small, is_capital}
use Rattle.table.specs.Form.{stepped, broken_at, form_fault}
use Rattle.table.specs.Number.{numeral_at, behind, ticks_of}
use Rattle.table.specs.Head.{name_length, deadline_at, period_at, cost_at, body_at, head_of, line_items}
use Rattle.table.specs.Item.{mark_at, joined, items}
use Rattle.table.specs.Nest.{top, outer, renewed}
use Rattle.table.specs.Rule.{or_else, unreadable, item_fault, head_fault, number_fault, times_fault, tasks_fault, section_fault, named, repeat_fault, length_fault}
use Rattle.table.specs.Judged.{unless, line_judged}
use Rattle.table.proofs.Values.{behind_bound}

-- a place below n, if there is one
abbrev pub Below : ℕ → Option ℕ → Type 0
Below n None = Unit {0}
Below n (Some p) = p < n

-- an item that begins below n
abbrev pub Begun : ℕ → Item → Type 0
Begun n (Open m) = m.place < n
Begun n (Named l) = l.place < n
Begun n Close = Unit {0}

abbrev BegunOr : ℕ → Option Item → Type 0
BegunOr n None = Unit {0}
BegunOr n (Some i) = Begun n i

mark_begun : (n p b : ℕ) → p < n → BegunOr n (mark_at p b)
mark_begun n p b h =
    cond_both (is_small b) _ _ (BegunOr n) (λ _. h)
    (λ _. cond_both (is_capital b) _ _ (BegunOr n) (λ _. h) (λ _. cond_both (eqb b 125) _ _ (BegunOr n) (λ _. tt) (λ _. tt)))

joined_begun : (n : ℕ) (o : Option Item) (is : List Item) → BegunOr n o → AllByRecursion (Begun n) is → AllByRecursion (Begun n) (joined o is)
joined_begun n None is h k = k
joined_begun n (Some i) is h k = (h, k)

items_begun : (n : ℕ) (w : Bool) (p : ℕ) (t : List ℕ) → p + length t ≤ n → AllByRecursion (Begun n) (items w p t)
items_begun n w p [] h = tt
items_begun n w p (b ∷ t) h =
    let in-number = items_begun n true (p + 1) t (omega arith) in
    let after = items_begun n false (p + 1) t (omega arith) in
    cond_both (is_digit b) _ _ (AllByRecursion (Begun n))
    (λ _. cond_both w _ _ (AllByRecursion (Begun n)) (λ _. in-number) (λ _. (omega arith, in-number)))
    (λ _. joined_begun n (mark_at p b) (items false (p + 1) t) (mark_begun n p b (omega arith)) after)

unreadable_below : (n : ℕ) (m : Numeral) → m.place < n → Below n (unreadable m)
unreadable_below n m h = elim m.value as (λ v. Below n (elim v [ None ↦ Some m.place | Some x ↦ None ])) [ None ↦ h | Some x ↦ tt ]

or_below : (n : ℕ) (a b : Option ℕ) → Below n a → Below n b → Below n (or_else a b)
or_below n None b h k = k
or_below n (Some p) b h k = h

item_below : (n : ℕ) (i : Item) → Begun n i → Below n (item_fault i)
item_below n (Open m) h = unreadable_below n m h
item_below n (Named l) h = tt
item_below n Close h = tt

number_below : (n : ℕ) (is : List Item) → AllByRecursion (Begun n) is → Below n (number_fault is)
number_below n [] h = tt
number_below n (i ∷ is) h = or_below n (item_fault i) (number_fault is) (item_below n i h.0) (number_below n is h.1)

section_below : (n room before depth : ℕ) (is : List Item) → AllByRecursion (Begun n) is → Below n (section_fault room before depth is)
section_below n room before depth [] h = tt
section_below n room before depth (Open m ∷ is) h =
    let later = section_below n room (before + 1) (depth + 1) is h.1 in
    cond_both (ltb before room && ltb depth 8) _ _ (Below n) (λ _. later) (λ _. h.0)
section_below n room before depth (Named l ∷ is) h = section_below n room before depth is h.1
section_below n room before depth (Close ∷ is) h = section_below n room before (depth - 1) is h.1

repeat_below : (n : ℕ) (seen : List ℕ) (is : List Item) → AllByRecursion (Begun n) is → Below n (repeat_fault seen is)
repeat_below n seen [] h = tt
repeat_below n seen (Open m ∷ is) h = repeat_below n (named seen ∷ seen) is h.1
repeat_below n seen (Named l ∷ is) h =
    let later = repeat_below n (renewed (bit_or (named seen) l.bit) seen) is h.1 in
    cond_both (eqb (bit_and (named seen) l.bit) 0) _ _ (Below n) (λ _. later) (λ _. h.0)
repeat_below n seen (Close ∷ is) h = repeat_below n (outer seen) is h.1

length-below : (n cost : ℕ) (lengths : List ℕ) (is : List Item) → AllByRecursion (Begun n) is → Below n (length_fault cost lengths is)
length-below n cost lengths [] h = tt
length-below n cost lengths (Open m ∷ is) h =
    let later = length-below n cost (ticks_of m ∷ lengths) is h.1 in
    cond_both (leb (ticks_of m) (unwrap_or (top lengths) cost)) _ _ (Below n) (λ _. later) (λ _. h.0)
length-below n cost lengths (Named l ∷ is) h = length-below n cost lengths is h.1
length-below n cost lengths (Close ∷ is) h = length-below n cost (outer lengths) is h.1

form_below : (n : ℕ) (s : State) (i : ℕ) (t : List ℕ) → i + length t < n → Below n (broken_at s i t)
form_below n s i [] h = omega arith
form_below n s i (b ∷ t) h =
    elim (stepped s b) as (λ m. Below n (elim m [ Refuse ↦ Some i | Finish ↦ None | Go s' ↦ broken_at s' (i + 1) t ])) [
      | Refuse ↦ omega arith
      | Finish ↦ tt
      | Go s' ↦ form_below n s' (i + 1) t (omega arith)
    ]

name_short : (t : List ℕ) → name_length t ≤ length t
name_short [] = omega arith
name_short (b ∷ t) = cond_both (eqb b 58) 0 (1 + name_length t) (λ n. n ≤ suc (length t)) (λ _. omega arith) (λ _. omega (arith, name_short t))

-- a fault below n
abbrev pub FaultBelow : ℕ → Result ℕ Fault → Type 0
FaultBelow n (Ok sections) = Unit {0}
FaultBelow n (Err f) = f.place < n

unless_below : (n : ℕ) (rule : Rule) (o : Option ℕ) (later : Result ℕ Fault) → Below n o → FaultBelow n later → FaultBelow n (unless rule o later)
unless_below n rule None later h k = k
unless_below n rule (Some p) later h k = h

times_below : (n : ℕ) (b : Bool) → 0 < n → Below n (cond b None (Some 0))
times_below n b h = cond_both b None (Some 0) (Below n) (λ _. tt) (λ _. h)

pub line_below : (room before : Counts) (line : List ℕ) → FaultBelow (length line + 11) (line_judged room before line)
line_below room before line =
    let n = length line + 11 in
    let is = line_items line in
    let d = deadline_at line in
    let short = name_short line in
    let p₁ : behind d line ≤ length line + 4 = behind_bound (length line + 4) d line (omega arith) (omega arith) in
    let p₂ : behind (period_at line) line ≤ length line + 7 = behind_bound (length line + 7) (period_at line) line (omega arith) (omega arith) in
    let p₃ : body_at line ≤ length line + 10 = behind_bound (length line + 10) (cost_at line) line (omega arith) (omega arith) in
    let cut = length-drop (body_at line) line in
    let begun : AllByRecursion (Begun n) is = items_begun n false (body_at line) (drop (body_at line) line) (omega arith) in
    unless_below n Form (form_fault line) _ (form_below n _ 0 line (omega arith))
    (unless_below n Number (head_fault (head_of line)) _
    (or_below n _ _ (unreadable_below n (numeral_at (deadline_at line) line) (omega arith))
    (or_below n _ _ (unreadable_below n (numeral_at (period_at line) line) (omega arith)) (unreadable_below n (numeral_at (cost_at line) line) (omega arith))))
    (unless_below n Number (number_fault is) _ (number_below n is begun)
    (unless_below n Times (times_fault (head_of line)) _ (times_below n _ (omega arith))
    (unless_below n Tasks (tasks_fault room.tasks before.tasks) _ (times_below n _ (omega arith))
    (unless_below n Sections (section_fault room.sections before.sections 0 is) _ (section_below n room.sections before.sections 0 is begun)
    (unless_below n Repeated (repeat_fault [] is) _ (repeat_below n [] is begun)
    (unless_below n Length (length_fault (ticks_of (head_of line).cost) [] is) _ (length-below n (ticks_of (head_of line).cost) [] is begun) tt)))))))
