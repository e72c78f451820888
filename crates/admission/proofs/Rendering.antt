-- The line of a task and its sections, and what the reader makes of it.
use Rattle.std.proofs.Common.{◌≡◌, ℕ, ◌+◌, ◌<◌, ◌≤◌, true, ◌&&◌, ltb, leb, List, [], ◌∷◌, map, length, Some, None, Ok, Option, Result, sym, refl, ap, ◌∙◌, subst, arith}
use Rattle.std.proofs.lemmas.Bool.{and_from, cond-true, le-leb, lt-ltb}
use Rattle.std.proofs.lemmas.List.{length-map}
use Rattle.table.specs.declared.line.Numeral.{Numeral as Read}
use Rattle.table.specs.declared.refusal.Rule.{Rule}
use Rattle.table.specs.declared.check.Fault.{Fault}
use Rattle.table.specs.declared.records.Counts.{Counts}
use Rattle.table.specs.declared.records.TaskRecord.{TaskRecord}
use Rattle.table.specs.declared.records.SectionRecord.{SectionRecord}
use Rattle.table.specs.Limits.{largest}
use Rattle.table.specs.Number.{ticks_of}
use Rattle.table.specs.Head.{head_of, line_items}
use Rattle.table.specs.Rule.{unreadable, times_fault, section_fault, length_fault, opens as openings}
use Rattle.table.specs.Judged.{unless, line_judged}
use Rattle.table.specs.Record.{sections_in}
use Rattle.table.specs.Grammar.{Small, Byte, Line, render}
use Rattle.table.specs.Breach.{deadline_place, period_place, cost_place, sections_place}
use Rattle.table.proofs.Kept.{Kept}
use Rattle.table.proofs.Formed.{line_formed}
use Rattle.table.proofs.Writes.{length-sections_in}
use Rattle.table.proofs.Parsed.{read, fair_ticks, head_deadline, head_period, head_cost}
use Rattle.table.proofs.Spotted.{items_line}
use Rattle.admission.specs.Sound.{sections_sound}
use Rattle.admission.specs.Facts.{Timed}
use Rattle.admission.proofs.Digits.{numeral_of, numeral_value, numeral_fair}
use Rattle.admission.proofs.Itemed.{strip, Says, readable, says_numbers, says_sections, says_lengths, says_once, says_records}
use Rattle.admission.proofs.Forest.{nodes, forest, left_says}

-- each task is named x
abbrev pub ex : Byte Small
ex = record { byte = 120; is = (omega arith, omega arith) }

-- the line of a task with its own sections, which are numbered from n on
abbrev pub line_for : ℕ → TaskRecord → List SectionRecord → Line
line_for n t own = record {
  name = ex ∷ [];
  named = omega arith;
  short = omega arith;
  deadline = numeral_of t.deadline;
  period = numeral_of t.period;
  cost = numeral_of t.cost;
  sections = forest (nodes n [] own) 0;
}

-- a number that is read as it was written
record SaysSo (r : Read) (v : ℕ) : Type 0 where
  ticks : ticks_of r ≡ v
  fine : unreadable r ≡ None

says_so : (p v : ℕ) (r : Read) → r ≡ read p (numeral_of v) → 1 ≤ v → v ≤ largest → SaysSo r v
says_so p v r e some high = record {
  ticks = ap ticks_of e ∙ fair_ticks p (numeral_of v) (numeral_fair v some high) ∙ numeral_value v some high;
  fine = ap unreadable e ∙ readable p (numeral_of v) (numeral_fair v some high);
}

-- a line that keeps each rule is judged well
unless_none : (rule : Rule) (o : Option ℕ) (later r : Result ℕ Fault) → o ≡ None → later ≡ r → unless rule o later ≡ r
unless_none rule o later r e h = ap (λ x. unless rule x later) e ∙ h

pub kept_judged : (room before : Counts) (line : List ℕ) → Kept room before line → line_judged room before line ≡ Ok (before.sections + openings (line_items line))
kept_judged room before line kept =
    unless_none _ _ _ _ kept.form (unless_none _ _ _ _ kept.head (unless_none _ _ _ _ kept.numbers (unless_none _ _ _ _ kept.times
    (unless_none _ _ _ _ kept.tasks (unless_none _ _ _ _ kept.sections (unless_none _ _ _ _ kept.letters (unless_none _ _ _ _ kept.lengths refl)))))))

module _ (k n : ℕ) (t : TaskRecord) (own : List SectionRecord) (timed : Timed t) (ok : sections_sound k t.cost n [] own ≡ true) where
  abbrev line : List ℕ
  line = render (line_for n t own)

  line_says : Says k t.cost [] n own (line_items line)
  line_says =
      let l = line_for n t own in
      subst (Says k t.cost [] n own) (sym (items_line l))
      (left_says k t.cost n (sections_place l) [] [] own (omega (arith, timed.early, timed.cyclic, timed.near)) tt refl ok)

  deadline_says : SaysSo (head_of line).deadline t.deadline
  deadline_says =
      let l = line_for n t own in
      says_so (deadline_place l) t.deadline (head_of line).deadline (head_deadline l)
      (omega (arith, timed.works, timed.early)) (omega (arith, timed.cyclic, timed.near))

  period_says : SaysSo (head_of line).period t.period
  period_says =
      let l = line_for n t own in
      says_so (period_place l) t.period (head_of line).period (head_period l) (omega (arith, timed.works, timed.early, timed.cyclic)) timed.near

  cost_says : SaysSo (head_of line).cost t.cost
  cost_says =
      let l = line_for n t own in
      says_so (cost_place l) t.cost (head_of line).cost (head_cost l) timed.works (omega (arith, timed.early, timed.cyclic, timed.near))

  pub line_deadline : ticks_of (head_of line).deadline ≡ t.deadline
  line_deadline = deadline_says.ticks

  pub line_period : ticks_of (head_of line).period ≡ t.period
  line_period = period_says.ticks

  pub line_cost : ticks_of (head_of line).cost ≡ t.cost
  line_cost = cost_says.ticks

  pub line_records : sections_in k n [] (line_items line) ≡ map strip own
  line_records = says_records k t.cost line_says

  pub line_opens : openings (line_items line) ≡ length own
  line_opens = sym (length-sections_in k n [] (line_items line)) ∙ ap length line_records ∙ length-map own strip

  line_times : times_fault (head_of line) ≡ None
  line_times =
      let h = head_of line in
      let early : ticks_of h.cost ≤ ticks_of h.deadline = omega (arith, line_cost, line_deadline, timed.early) in
      let cyclic : ticks_of h.deadline ≤ ticks_of h.period = omega (arith, line_deadline, line_period, timed.cyclic) in
      cond-true (leb (ticks_of h.cost) (ticks_of h.deadline) && leb (ticks_of h.deadline) (ticks_of h.period)) None (Some 0)
      (and_from _ _ (le-leb _ _ early) (le-leb _ _ cyclic))

  line_kept : (room before : Counts) → before.tasks < room.tasks → before.sections ≡ n → n + length own ≤ room.sections → Kept room before line
  line_kept room before free at fits = record {
    form = line_formed (line_for n t own);
    head = simp (deadline_says.fine, period_says.fine, cost_says.fine);
    numbers = says_numbers k t.cost line_says;
    times = line_times;
    tasks = cond-true (ltb before.tasks room.tasks) None (Some 0) (lt-ltb before.tasks room.tasks free);
    sections = ap (λ x. section_fault room.sections x 0 (line_items line)) at ∙ says_sections k t.cost room.sections fits line_says;
    letters = says_once k t.cost [] tt line_says;
    lengths = ap (λ x. length_fault x [] (line_items line)) line_cost ∙ says_lengths k t.cost line_says;
  }

  pub line_judged_lem : (room before : Counts) → before.tasks < room.tasks → before.sections ≡ n → n + length own ≤ room.sections → line_judged room before line ≡ Ok (n + length own)
  line_judged_lem room before free at fits =
      kept_judged room before line (line_kept room before free at fits) ∙ ap Ok (let e : before.sections + openings (line_items line) ≡ n + length own = omega (arith, line_opens) in e)
