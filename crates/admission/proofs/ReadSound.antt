-- A table that is read breaks no rule as records.
use Rattle.std.proofs.Common.{◌≡◌, ℕ, suc, ◌+◌, ◌≤◌, Bool, true, false, cond, ◌&&◌, eqb, leb, List, [], ◌∷◌, ◌++◌, map, length, drop, is_ok, Some, None, Ok, Option, sym, refl, ap, ◌∙◌, arith}
use Rattle.std.specs.List.{range_with_len}
use Rattle.std.proofs.lemmas.Bool.{and_from, eq-eqb, le-leb}
use Rattle.std.proofs.lemmas.Bool.Decides.{nat_tests}
use Rattle.std.proofs.lemmas.List.{map-append, length-map, length-append, take_at, drop_at}
use Rattle.table.specs.declared.records.Counts.{Counts}
use Rattle.table.specs.declared.records.TaskRecord.{TaskRecord}
use Rattle.table.specs.declared.records.SectionRecord.{SectionRecord}
use Rattle.table.specs.Number.{ticks_of, digit_run}
use Rattle.table.specs.Head.{cost_at, period_at, head_of, line_items}
use Rattle.table.specs.Lines.{start_line, lines_of}
use Rattle.table.specs.Rule.{unreadable, head_fault, times_fault, opens}
use Rattle.table.specs.Judged.{lines_judged, judged, room_for, nothing_read}
use Rattle.table.specs.Level.{names, deadline_of, lesser, letter_level, letter_levels, least_level}
use Rattle.table.specs.Record.{sections_in, task_of, tasks_of, sections_of, leveled, text_tasks, bare_sections, text_sections}
use Rattle.table.proofs.Kept.{Kept, accepted_more, after_line}
use Rattle.table.proofs.Rooms.{shallow_if}
use Rattle.table.proofs.Counted.{counted, judged_ok}
use Rattle.table.proofs.Writes.{length-sections_in}
use Rattle.admission.specs.Sound.{sections_sound, times_sound, task_sound, tasks_sound, same_level, levels_sound, sound}
use Rattle.admission.proofs.Fine.{ranged_value, ranged_ticks, fine_line}
use Rattle.admission.proofs.Spelled.{no_fault}
use Rattle.admission.proofs.Nested.{or_none, nested}

-- the times of a line's task
module _ (place n : ℕ) (line : List ℕ) (head : head_fault (head_of line) ≡ None) (times : times_fault (head_of line) ≡ None) where
  times_kept : times_sound (task_of place n line) ≡ true
  times_kept =
      let h = head_of line in
      let a = or_none (unreadable h.deadline) _ head in
      let b = or_none (unreadable h.period) (unreadable h.cost) a.1 in
      let t = (no_fault (leb (ticks_of h.cost) (ticks_of h.deadline) && leb (ticks_of h.deadline) (ticks_of h.period)) None 0 times).0 in
      let cost = ranged_ticks h.cost (ranged_value (digit_run (drop (cost_at line) line))) b.1 in
      let period = ranged_ticks h.period (ranged_value (digit_run (drop (period_at line) line))) b.0 in
      grind (arith, nat_tests)

module _ (levels : List (Option ℕ)) where
  -- the task of a line, with its sections before others
  task_kept : (room before : Counts) (place : ℕ) (line : List ℕ) (more : List SectionRecord) → Kept room before line → task_sound before.tasks before.sections (task_of place before.sections line) (map (leveled levels) (sections_in before.tasks before.sections [] (line_items line)) ++ more) ≡ true
  task_kept room before place line more kept =
      let is = line_items line in
      let own = map (leveled levels) (sections_in before.tasks before.sections [] is) in
      let long : length own ≡ opens is = length-map (sections_in before.tasks before.sections [] is) (leveled levels) ∙ length-sections_in before.tasks before.sections [] is in
      let cost = ticks_of (head_of line).cost in
      let good : sections_sound before.tasks cost before.sections [] own ≡ true =
      nested before.tasks cost levels before.sections [] [] [] is (fine_line line) kept.numbers
      (shallow_if room.sections before.sections 0 is kept.sections) kept.letters kept.lengths tt tt tt in
      and_from _ _ (times_kept place before.sections line kept.head kept.times)
      (and_from _ _ (eq-eqb before.sections before.sections refl)
      (and_from _ _ (le-leb _ _ (omega (arith, length-append own more)))
      (ap (sections_sound before.tasks cost before.sections []) (take_at own more (opens is) long) ∙ good)))

  tasks_kept : (room before counts : Counts) (place : ℕ) (lines : List (List ℕ)) → lines_judged room before lines ≡ Ok counts → tasks_sound before.tasks before.sections (tasks_of place before.sections lines) (map (leveled levels) (sections_of before.tasks before.sections lines)) ≡ true
  tasks_kept room before counts place [] e = refl
  tasks_kept room before counts place (line ∷ lines) e =
      let k = accepted_more room before line lines (ap is_ok e) in
      let is = line_items line in
      let new = sections_in before.tasks before.sections [] is in
      let later = sections_of (before.tasks + 1) (before.sections + opens is) lines in
      let own = map (leveled levels) new in
      let rest = map (leveled levels) later in
      let long : length own ≡ opens is = length-map new (leveled levels) ∙ length-sections_in before.tasks before.sections [] is in
      let ts = tasks_of (place + length line) (before.sections + opens is) lines in
      ap (tasks_sound before.tasks before.sections (task_of place before.sections line ∷ ts)) (map-append (leveled levels) new later)
      ∙ and_from _ _ (task_kept room before place line rest k.0)
      (ap (tasks_sound (before.tasks + 1) (before.sections + opens is) ts) (drop_at own rest (opens is) long)
      ∙ tasks_kept room (after_line before line) counts (place + length line) lines (sym k.1 ∙ e))

-- levels do not depend on levels
letter_same : (tasks : List TaskRecord) (levels : List (Option ℕ)) (ss : List SectionRecord) (r : ℕ) → letter_level tasks (map (leveled levels) ss) r ≡ letter_level tasks ss r
letter_same tasks levels [] r = refl
letter_same tasks levels (s ∷ ss) r = ap (lesser (cond (names s r) (deadline_of tasks s.task) None)) (letter_same tasks levels ss r)

pub letters_same : (tasks : List TaskRecord) (levels : List (Option ℕ)) (ss : List SectionRecord) → letter_levels tasks (map (leveled levels) ss) ≡ letter_levels tasks ss
unfolding letter_levels
letters_same tasks levels ss = ap (λ f. map f (range_with_len 0 26)) (λ i r. letter_same tasks levels ss r i)

pub least_same : (all levels : List (Option ℕ)) (r : ℕ) (s : SectionRecord) → least_level all r (leveled levels s) ≡ least_level all r s
least_same [] levels r s = refl
least_same (l ∷ ls) levels r s = ap (lesser (cond (names s r) l None)) (least_same ls levels (r + 1) s)

same_self : (o : Option ℕ) → same_level o o ≡ true
same_self None = refl
same_self (Some x) = eq-eqb x x refl

levels_kept : (tasks : List TaskRecord) (bare ss : List SectionRecord) → levels_sound tasks (map (leveled (letter_levels tasks bare)) bare) (map (leveled (letter_levels tasks bare)) ss) ≡ true
levels_kept tasks bare [] = refl
levels_kept tasks bare (s ∷ ss) =
    let levels = letter_levels tasks bare in
    and_from _ _
    (ap (same_level (least_level levels 0 s)) (ap (λ l. least_level l 0 (leveled levels s)) (letters_same tasks levels bare) ∙ least_same levels levels 0 s)
    ∙ same_self (least_level levels 0 s))
    (levels_kept tasks bare ss)

-- a text that is read has a line
some_lines : (text : List ℕ) (tasks sections : ℕ) (counts : Counts) → judged text tasks sections ≡ Ok counts → 1 ≤ length (lines_of text)
unfolding judged
some_lines [] tasks sections counts e = let z : ◌≡◌ {A = ℕ} 0 1 = cc in absurd (omega arith)
some_lines (b ∷ t) tasks sections counts e = lines_in (eqb b 10) (lines_of t)
  where
    started : (ls : List (List ℕ)) → 1 ≤ length (start_line b ls)
    started [] = omega arith
    started (l ∷ ls) = omega arith

    lines_in : (end : Bool) (ls : List (List ℕ)) → 1 ≤ length (cond end ((b ∷ []) ∷ ls) (start_line b ls))
    lines_in true ls = omega arith
    lines_in false ls = started ls

length-tasks : (place n : ℕ) (lines : List (List ℕ)) → length (tasks_of place n lines) ≡ length lines
length-tasks place n [] = refl
length-tasks place n (line ∷ lines) = ap suc (length-tasks (place + length line) (n + opens (line_items line)) lines)

pub read_sound : (text : List ℕ) (tasks sections : ℕ) (counts : Counts) → judged text tasks sections ≡ Ok counts → sound (text_tasks text) (text_sections text) ≡ true
unfolding sound
read_sound text tasks sections counts e =
    let lined = judged_ok text tasks sections counts e in
    let count = counted (room_for tasks sections) nothing_read counts 0 (lines_of text) lined in
    let ts = text_tasks text in
    let bare = bare_sections text in
    let levels = letter_levels ts bare in
    let some = some_lines text tasks sections counts e in
    let same = length-tasks 0 0 (lines_of text) in
    let long = length-map bare (leveled levels) in
    let one : 1 ≤ length ts = omega arith in
    let few : length ts ≤ 32 = omega (arith, count.tasks, count.tasks_within) in
    let short : length (text_sections text) ≤ 64 = omega (arith, count.sections, count.sections_within) in
    and_from _ _ (le-leb _ _ one) (and_from _ _ (le-leb _ _ few) (and_from _ _ (le-leb _ _ short)
    (and_from _ _ (tasks_kept levels (room_for tasks sections) nothing_read counts 0 (lines_of text) lined) (levels_kept ts bare bare))))
