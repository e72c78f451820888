-- What the judgement on a written line says: it breaks no rule, or it breaks this one here, none earlier in the line and none of a lower number.
use Rattle.std.proofs.Common.{◌≡◌, ℕ, ◌+◌, ◌<◌, ◌≤◌, cond, eqb, [], Some, None, Ok, Err, Option, Result, sym, refl, ap, ◌∙◌, subst, ⊎_elim, arith}
use Rattle.std.proofs.lemmas.Bool.{cases_lt}
use Rattle.table.specs.declared.refusal.Rule.{Rule}
use Rattle.table.specs.declared.refusal.Rule.TheVariants.{Form, Number, Times, Tasks, Sections as Room, Repeated, Length}
use Rattle.table.specs.declared.check.Fault.{Fault}
use Rattle.table.specs.declared.records.Counts.{Counts}
use Rattle.table.specs.Number.{ticks_of}
use Rattle.table.specs.Form.{form_fault}
use Rattle.table.specs.Head.{head_of, line_items}
use Rattle.table.specs.Rule.{or_else, head_fault, number_fault, times_fault, tasks_fault, section_fault, repeat_fault, length_fault, opens}
use Rattle.table.specs.Judged.{unless, line_judged}
use Rattle.table.specs.Grammar.{Line, render}
use Rattle.table.specs.Breach.{count, Breaks, Good}
use Rattle.table.specs.Answer.{rule_number}
use Rattle.table.specs.Meaning.{First}
use Rattle.table.proofs.Formed.{line_formed}
use Rattle.table.proofs.Exact.{Exact, exact_tasks}
use Rattle.table.proofs.Numbered.{exact_number}
use Rattle.table.proofs.Sectioned.{exact_sections, opens_line}
use Rattle.table.proofs.Timed.{AllFair, fair_if, exact_times, exact_lengths}
use Rattle.table.proofs.Repeated.{exact_repeated}

-- what the verdict on a written line means
abbrev pub Told : Counts → Counts → Line → Result ℕ Fault → Type 0
Told room before l (Ok n) = Good room before l × (n ≡ before.sections + count l.sections)
Told room before l (Err f) = (f.rule ≡ Form → ⊥) × First room before l f.rule f.place

-- the rule with a number
rule_of : ℕ → Rule
rule_of n =
    cond (eqb n 3) Form (cond (eqb n 4) Number (cond (eqb n 5) Times (cond (eqb n 6) Tasks (cond (eqb n 7) Room (cond (eqb n 8) Repeated Length)))))

rule_of_lem : (rule : Rule) → rule_of (rule_number rule) ≡ rule
unfolding rule_of
rule_of_lem Form = refl
rule_of_lem Number = refl
rule_of_lem Times = refl
rule_of_lem Tasks = refl
rule_of_lem Room = refl
rule_of_lem Repeated = refl
rule_of_lem Length = refl

same_rule : (a b : Rule) → rule_number a ≡ rule_number b → a ≡ b
same_rule a b e = sym (rule_of_lem a) ∙ ap rule_of e ∙ rule_of_lem b

rule_within : (rule : Rule) → (3 ≤ rule_number rule) × (rule_number rule < 10)
rule_within Form = (omega arith, omega arith)
rule_within Number = (omega arith, omega arith)
rule_within Times = (omega arith, omega arith)
rule_within Tasks = (omega arith, omega arith)
rule_within Room = (omega arith, omega arith)
rule_within Repeated = (omega arith, omega arith)
rule_within Length = (omega arith, omega arith)

-- the line breaks no rule of a number below n
abbrev Clear : Counts → Counts → Line → ℕ → Type 0
Clear room before l n = (rule : Rule) (q : ℕ) → rule_number rule < n → Breaks room before l rule q → ⊥

unless_twice : (rule : Rule) (a b : Option ℕ) (later : Result ℕ Fault) → unless rule (or_else a b) later ≡ unless rule a (unless rule b later)
unless_twice rule None b later = refl
unless_twice rule (Some p) b later = refl

module _ (room before : Counts) (l : Line) where
  clear_next : (rule : Rule) → Clear room before l (rule_number rule) → ((q : ℕ) → Breaks room before l rule q → ⊥) → Clear room before l (rule_number rule + 1)
  clear_next rule clear never rule' q lt h =
      ⊎_elim (λ less. clear rule' q less h) (λ past. never q (subst (λ x. Breaks room before l x q) (same_rule rule' rule (omega arith)) h))
      (cases_lt (rule_number rule') (rule_number rule))

  -- one rule in its turn
  step : (rule : Rule) (o : Option ℕ) (later : Result ℕ Fault) → Clear room before l (rule_number rule) → Exact (Breaks room before l rule) o → (Clear room before l (rule_number rule + 1) → Told room before l later) → Told room before l (unless rule o later)
  step rule None later clear exact told = told (clear_next rule clear exact)
  step rule (Some p) later clear exact told = (λ e. subst (λ x. Breaks room before l x p) e exact.0, record { breaks = exact.0; earliest = exact.1; lowest = clear })

  -- the rules in their order
  chain : (form head numbers times tasks sections letters lengths : Option ℕ) (n : ℕ)
      → form ≡ None
      → Exact (Breaks room before l Number) (or_else head numbers)
      → (AllFair l → Exact (Breaks room before l Times) times)
      → Exact (Breaks room before l Tasks) tasks
      → Exact (Breaks room before l Room) sections
      → Exact (Breaks room before l Repeated) letters
      → (AllFair l → Exact (Breaks room before l Length) lengths)
      → n ≡ before.sections + count l.sections
      → Told room before l (unless Form form (unless Number head (unless Number numbers (unless Times times (unless Tasks tasks (unless Room sections (unless Repeated letters (unless Length lengths (Ok n)))))))))
  chain form head numbers times tasks sections letters lengths n e₃ e₄ e₅ e₆ e₇ e₈ e₉ counted =
      let none : Clear room before l 3 = λ rule q lt h. omega (arith, (rule_within rule).0) in
      let later = unless Times times (unless Tasks tasks (unless Room sections (unless Repeated letters (unless Length lengths (Ok n))))) in
      subst (λ o. Told room before l (unless Form o (unless Number head (unless Number numbers later)))) (sym e₃)
      (subst (Told room before l) (unless_twice Number head numbers later)
      (step Number (or_else head numbers) later (clear_next Form none (λ q h. h)) e₄ (λ c₅.
      let fair = fair_if room before l (λ p. c₅ Number p (omega arith)) in
      step Times times _ c₅ (e₅ fair) (λ c₆.
      step Tasks tasks _ c₆ e₆ (λ c₇.
      step Room sections _ c₇ e₇ (λ c₈.
      step Repeated letters _ c₈ e₈ (λ c₉.
      step Length lengths _ c₉ (e₉ fair) (λ c. (λ rule q h. c rule q (rule_within rule).1 h, counted)))))))))

pub line_told : (room before : Counts) (l : Line) → Told room before l (line_judged room before (render l))
line_told room before l =
    chain room before l (form_fault (render l)) (head_fault (head_of (render l))) (number_fault (line_items (render l))) (times_fault (head_of (render l))) (tasks_fault room.tasks before.tasks)
    (section_fault room.sections before.sections 0 (line_items (render l))) (repeat_fault [] (line_items (render l)))
    (length_fault (ticks_of (head_of (render l)).cost) [] (line_items (render l))) (before.sections + opens (line_items (render l)))
    (line_formed l) (exact_number room before l) (λ fair. exact_times room before l fair) (exact_tasks room before l) (exact_sections room before l) (exact_repeated room before l)
    (λ fair. exact_lengths room before l fair) (ap (λ k. before.sections + k) (opens_line l))
