-- A line that is not refused keeps each rule.
use Rattle.std.proofs.Common.{◌≡◌, ℕ, ◌+◌, ◌<◌, Bool, true, false, cond, ltb, List, [], ◌∷◌, is_ok, Some, None, Ok, Err, Option, Result, sym, refl, ap, arith}
use Rattle.std.proofs.lemmas.Bool.{ltb-true}
use Rattle.table.specs.declared.refusal.Rule.{Rule}
use Rattle.table.specs.declared.check.Fault.{Fault}
use Rattle.table.specs.declared.records.Counts.{Counts}
use Rattle.table.specs.Number.{ticks_of}
use Rattle.table.specs.Form.{form_fault}
use Rattle.table.specs.Head.{head_of, line_items}
use Rattle.table.specs.Rule.{head_fault, number_fault, times_fault, tasks_fault, section_fault, repeat_fault, length_fault, opens}
use Rattle.table.specs.Judged.{unless, line_judged, lines_judged}
use Rattle.table.proofs.Turns.{go_on}

pub record Kept (room before : Counts) (line : List ℕ) : Type 0 where
  pub form : form_fault line ≡ None
  pub head : head_fault (head_of line) ≡ None
  pub numbers : number_fault (line_items line) ≡ None
  pub times : times_fault (head_of line) ≡ None
  pub tasks : tasks_fault room.tasks before.tasks ≡ None
  pub sections : section_fault room.sections before.sections 0 (line_items line) ≡ None
  pub letters : repeat_fault [] (line_items line) ≡ None
  pub lengths : length_fault (ticks_of (head_of line).cost) [] (line_items line) ≡ None

-- a rule is kept where the judgement comes out well
unless_ok : (rule : Rule) (o : Option ℕ) (later : Result ℕ Fault) (n : ℕ) → unless rule o later ≡ Ok n → (o ≡ None) × (later ≡ Ok n)
unless_ok rule None later n e = (refl, e)
unless_ok rule (Some p) later n e = let z : ◌≡◌ {A = ℕ} 0 1 = cc in absurd (omega arith)

same_ok : (m n : ℕ) → ◌≡◌ {A = Result ℕ Fault} (Ok m) (Ok n) → m ≡ n
same_ok m n e = cc

pub kept_if : (room before : Counts) (line : List ℕ) (n : ℕ) → line_judged room before line ≡ Ok n → Kept room before line × (n ≡ before.sections + opens (line_items line))
kept_if room before line n e =
    let p₁ = unless_ok _ (form_fault line) _ n e in
    let p₂ = unless_ok _ (head_fault (head_of line)) _ n p₁.1 in
    let p₃ = unless_ok _ (number_fault (line_items line)) _ n p₂.1 in
    let p₄ = unless_ok _ (times_fault (head_of line)) _ n p₃.1 in
    let p₅ = unless_ok _ (tasks_fault room.tasks before.tasks) _ n p₄.1 in
    let p₆ = unless_ok _ (section_fault room.sections before.sections 0 (line_items line)) _ n p₅.1 in
    let p₇ = unless_ok _ (repeat_fault [] (line_items line)) _ n p₆.1 in
    let p₈ = unless_ok _ (length_fault (ticks_of (head_of line).cost) [] (line_items line)) _ n p₇.1 in (
      record {
        form = p₁.0;
        head = p₂.0;
        numbers = p₃.0;
        times = p₄.0;
        tasks = p₅.0;
        sections = p₆.0;
        letters = p₇.0;
        lengths = p₈.0;
      },
      sym (same_ok _ _ p₈.1),
    )

-- there is room for the task of such a line
pub task_room : (room before : ℕ) → tasks_fault room before ≡ None → before < room
task_room room before e = ltb-true before room (room_test (ltb before room) e)
  where
    room_test : (b : Bool) → ◌≡◌ {A = Option ℕ} (cond b None (Some 0)) None → b ≡ true
    room_test true h = refl
    room_test false h = let z : ◌≡◌ {A = ℕ} 0 1 = cc in absurd (omega arith)

-- the counts after a line with so many sections
abbrev pub after_line : Counts → List ℕ → Counts
after_line before line = record { tasks = before.tasks + 1; sections = before.sections + opens (line_items line) }

-- lines that are accepted: the first keeps the rules, and the judgement is that of the others after it
pub accepted_more : (room before : Counts) (line : List ℕ) (lines : List (List ℕ)) → is_ok (lines_judged room before (line ∷ lines)) ≡ true → Kept room before line × (lines_judged room before (line ∷ lines) ≡ lines_judged room (after_line before line) lines)
accepted_more room before line lines h = by_line (line_judged room before line) refl h
  where
    by_line : (r : Result ℕ Fault) → line_judged room before line ≡ r → is_ok (go_on room before r lines) ≡ true → Kept room before line × (go_on room before r lines ≡ lines_judged room (after_line before line) lines)
    by_line (Err f) e k = let z : ◌≡◌ {A = ℕ} 0 1 = cc in absurd (omega arith)
    by_line (Ok n) e k =
        let p = kept_if room before line n e in
        (p.0, ap (λ s. lines_judged room (record { tasks = before.tasks + 1; sections = s }) lines) p.1)
