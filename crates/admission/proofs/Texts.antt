-- The text of records that keep the rules, and what the reader makes of it: the records, but for levels and names.
use Rattle.std.proofs.Common.{◌≡◌, ℕ, suc, ◌+◌, ◌*◌, ◌<◌, ◌≤◌, true, eqb, ltb, List, [], ◌∷◌, ◌++◌, map, length, take, drop, Ok, sym, refl, ap, ◌∙◌, arith}
use Rattle.std.specs.List.{AllByRecursion}
use Rattle.std.proofs.lemmas.Bool.Decides.{nat_tests}
use Rattle.std.proofs.lemmas.Bool.{and_parts, cond-false, le-ltb, ne_eqb, false≢true}
use Rattle.std.proofs.lemmas.List.{map-append, length-append, length-take-le, length-drop, take-append-drop}
use Rattle.table.specs.declared.records.Counts.{Counts}
use Rattle.table.specs.declared.records.TaskRecord.{TaskRecord}
use Rattle.table.specs.declared.records.SectionRecord.{SectionRecord}
use Rattle.table.specs.Limits.{longest_text}
use Rattle.table.specs.Number.{ticks_of}
use Rattle.table.specs.Head.{head_of, line_items}
use Rattle.table.specs.Lines.{lines_of}
use Rattle.table.specs.Rule.{opens}
use Rattle.table.specs.Judged.{line_judged, lines_judged, judged, room_for, nothing_read}
use Rattle.table.specs.Record.{task_of, tasks_of, sections_of}
use Rattle.table.specs.Grammar.{Line, render, render_all}
use Rattle.table.specs.Breach.{count}
use Rattle.table.proofs.Turns.{go_on}
use Rattle.table.proofs.Rendered.{one_line}
use Rattle.table.proofs.Sectioned.{opens_line}
use Rattle.admission.specs.Sound.{sections_sound, task_sound, tasks_sound}
use Rattle.admission.specs.Facts.{Timed}
use Rattle.admission.specs.Origin.{nameless}
use Rattle.admission.proofs.Runs.{sound_fits, sound_sections}
use Rattle.admission.proofs.Itemed.{strip}
use Rattle.admission.proofs.Rendering.{line_for, line_deadline, line_period, line_cost, line_records, line_opens, line_judged_lem}
use Rattle.admission.proofs.Lengths.{line_long}

-- a line for each task, with the first of the sections, which are numbered from n on
abbrev pub lines_for : ℕ → List TaskRecord → List SectionRecord → List Line
lines_for n [] ss = []
lines_for n (t ∷ ts) ss = line_for n t (take t.sections.count ss) ∷ lines_for (n + t.sections.count) ts (drop t.sections.count ss)

lines_written : (ls : List Line) → lines_of (render_all ls) ≡ map render ls
lines_written [] = refl
lines_written (l ∷ ls) = one_line l (render_all ls) ∙ ap (λ x. render l ∷ x) (lines_written ls)

abbrev counts : ℕ → ℕ → Counts
counts k n = record { tasks = k; sections = n }

abbrev make : ℕ → ℕ → ℕ → ℕ → ℕ → TaskRecord
make d t c first count = record {
  name = record { first = 0; count = 0 };
  deadline = d;
  period = t;
  cost = c;
  sections = record { first = first; count = count };
}

-- one task that keeps the rules, with its own sections before others
module _ (k n : ℕ) (t : TaskRecord) (ss : List SectionRecord) (timed : Timed t) (ok : task_sound k n t ss ≡ true) where
  abbrev own : List SectionRecord
  own = take t.sections.count ss

  abbrev line : List ℕ
  line = render (line_for n t own)

  own_sound : sections_sound k t.cost n [] own ≡ true
  own_sound = sound_sections k n t ss ok

  own_count : length own ≡ t.sections.count
  own_count = length-take-le t.sections.count ss (sound_fits k n t ss ok)

  own_first : t.sections.first ≡ n
  own_first = grind (arith, nat_tests)

  own_opens : opens (line_items line) ≡ t.sections.count
  own_opens = line_opens k n t own timed own_sound ∙ own_count

  own_task : (place : ℕ) → nameless (task_of place n line) ≡ nameless t
  own_task place =
      let h = head_of line in
      ap (λ x. make x (ticks_of h.period) (ticks_of h.cost) n (opens (line_items line))) (line_deadline k n t own timed own_sound)
      ∙ ap (λ x. make t.deadline x (ticks_of h.cost) n (opens (line_items line))) (line_period k n t own timed own_sound)
      ∙ ap (λ x. make t.deadline t.period x n (opens (line_items line))) (line_cost k n t own timed own_sound)
      ∙ ap (λ x. make t.deadline t.period t.cost x (opens (line_items line))) (sym own_first)
      ∙ ap (λ x. make t.deadline t.period t.cost t.sections.first x) own_opens

  own_judged : (room : Counts) → k < room.tasks → n + t.sections.count ≤ room.sections → line_judged room (counts k n) line ≡ Ok (n + t.sections.count)
  own_judged room free fits =
      line_judged_lem k n t own timed own_sound room (counts k n) free refl (omega (arith, own_count)) ∙ ap (λ x. Ok (n + x)) own_count

  own_long : length line ≤ 33 + 63 * t.sections.count
  own_long = omega (arith, line_long n t own, opens_line (line_for n t own), own_opens)

tasks_back : (place k n : ℕ) (ts : List TaskRecord) (ss : List SectionRecord) → AllByRecursion Timed ts → tasks_sound k n ts ss ≡ true → map nameless (tasks_of place n (map render (lines_for n ts ss))) ≡ map nameless ts
tasks_back place k n [] ss all ok = refl
tasks_back place k n (t ∷ ts) ss (timed, all) ok =
    let parts = and_parts (task_sound k n t ss) _ ok in
    let c = t.sections.count in
    let later = map render (lines_for (n + c) ts (drop c ss)) in
    let here = render (line_for n t (take c ss)) in
    ap (λ x. x ∷ map nameless (tasks_of (place + length here) (n + opens (line_items here)) later)) (own_task k n t ss timed parts.0 place)
    ∙ ap (λ x. nameless t ∷ map nameless (tasks_of (place + length here) (n + x) later)) (own_opens k n t ss timed parts.0)
    ∙ ap (λ x. nameless t ∷ x) (tasks_back (place + length here) (k + 1) (n + c) ts (drop c ss) all parts.1)

sections_back : (k n : ℕ) (ts : List TaskRecord) (ss : List SectionRecord) → AllByRecursion Timed ts → tasks_sound k n ts ss ≡ true → sections_of k n (map render (lines_for n ts ss)) ≡ map strip ss
sections_back k n [] [] all ok = refl
sections_back k n [] (s ∷ ss) all ok = absurd (false≢true ok)
sections_back k n (t ∷ ts) ss (timed, all) ok =
    let parts = and_parts (task_sound k n t ss) _ ok in
    let c = t.sections.count in
    let later = map render (lines_for (n + c) ts (drop c ss)) in
    let here = render (line_for n t (take c ss)) in
    ap (λ x. x ++ sections_of (k + 1) (n + opens (line_items here)) later) (line_records k n t (take c ss) timed (own_sound k n t ss timed parts.0))
    ∙ ap (λ x. map strip (take c ss) ++ sections_of (k + 1) (n + x) later) (own_opens k n t ss timed parts.0)
    ∙ ap (λ x. map strip (take c ss) ++ x) (sections_back (k + 1) (n + c) ts (drop c ss) all parts.1)
    ∙ sym (map-append strip (take c ss) (drop c ss)) ∙ ap (map strip) (take-append-drop c ss)

lines_judged_lem :
    (room : Counts) (k n : ℕ) (ts : List TaskRecord) (ss : List SectionRecord) → AllByRecursion Timed ts → tasks_sound k n ts ss ≡ true
    → k + length ts ≤ room.tasks → n + length ss ≤ room.sections
    → lines_judged room (counts k n) (map render (lines_for n ts ss)) ≡ Ok (counts (k + length ts) (n + length ss))
lines_judged_lem room k n [] [] all ok free fits = ap (λ x. Ok (counts x n)) (let e : k ≡ k + 0 = omega arith in e) ∙ ap (λ x. Ok (counts (k + 0) x)) (let e : n ≡ n + 0 = omega arith in e)
lines_judged_lem room k n [] (s ∷ ss) all ok free fits = absurd (false≢true ok)
lines_judged_lem room k n (t ∷ ts) ss (timed, all) ok free fits =
    let parts = and_parts (task_sound k n t ss) _ ok in
    let c = t.sections.count in
    let rest = drop c ss in
    let later = map render (lines_for (n + c) ts rest) in
    let within = sound_fits k n t ss parts.0 in
    let left = length-drop c ss in
    ap (λ r. go_on room (counts k n) r later) (own_judged k n t ss timed parts.0 room (omega arith) (omega arith))
    ∙ lines_judged_lem room (k + 1) (n + c) ts rest all parts.1 (omega arith) (omega arith)
    ∙ ap (λ x. Ok (counts x (n + c + length rest))) (let e : k + 1 + length ts ≡ k + suc (length ts) = omega arith in e)
    ∙ ap (λ x. Ok (counts (k + suc (length ts)) x)) (let e : n + c + length rest ≡ n + length ss = omega arith in e)

text_long : (k n : ℕ) (ts : List TaskRecord) (ss : List SectionRecord) → AllByRecursion Timed ts → tasks_sound k n ts ss ≡ true → length (render_all (lines_for n ts ss)) ≤ 33 * length ts + 63 * length ss
text_long k n [] ss all ok = omega arith
text_long k n (t ∷ ts) ss (timed, all) ok =
    let parts = and_parts (task_sound k n t ss) _ ok in
    let c = t.sections.count in
    let l = line_for n t (take c ss) in
    let more = render_all (lines_for (n + c) ts (drop c ss)) in
    omega (
      arith,
      length-append (render l) more,
      own_long k n t ss timed parts.0,
      text_long (k + 1) (n + c) ts (drop c ss) all parts.1,
      sound_fits k n t ss parts.0,
      length-drop c ss,
    )

some_text : (n : ℕ) (ts : List TaskRecord) (ss : List SectionRecord) → 1 ≤ length ts → length (render_all (lines_for n ts ss)) ≡ 0 → ⊥
some_text n [] ss some e = omega arith
some_text n (t ∷ ts) ss some e = omega arith

-- the text of records
abbrev pub text_for : List TaskRecord → List SectionRecord → List ℕ
text_for ts ss = render_all (lines_for 0 ts ss)

module _ (ts : List TaskRecord) (ss : List SectionRecord) (some : 1 ≤ length ts) (few : length ts ≤ 32) (short : length ss ≤ 64) (all : AllByRecursion Timed ts) (ok : tasks_sound 0 0 ts ss ≡ true) where
  pub text_judged : judged (text_for ts ss) (length ts) (length ss) ≡ Ok (counts (length ts) (length ss))
  unfolding judged
  text_judged =
      let text = text_for ts ss in
      let low : length text ≤ longest_text = omega (arith, text_long 0 0 ts ss all ok) in
      let room = room_for (length ts) (length ss) in
      cond-false (ltb longest_text (length text)) _ _ (le-ltb longest_text (length text) low)
      ∙ cond-false (eqb (length text) 0) _ _ (ne_eqb (length text) 0 (some_text 0 ts ss some))
      ∙ ap (lines_judged room nothing_read) (lines_written (lines_for 0 ts ss))
      ∙ lines_judged_lem room 0 0 ts ss all ok (omega arith) (omega arith)
      ∙ ap (λ x. Ok (counts x (0 + length ss))) (let e : 0 + length ts ≡ length ts = omega arith in e)
      ∙ ap (λ x. Ok (counts (length ts) x)) (let e : 0 + length ss ≡ length ss = omega arith in e)

  pub text_tasks_lem : map nameless (tasks_of 0 0 (lines_of (text_for ts ss))) ≡ map nameless ts
  text_tasks_lem = ap (λ x. map nameless (tasks_of 0 0 x)) (lines_written (lines_for 0 ts ss)) ∙ tasks_back 0 0 0 ts ss all ok

  pub text_sections_lem : sections_of 0 0 (lines_of (text_for ts ss)) ≡ map strip ss
  text_sections_lem = ap (sections_of 0 0) (lines_written (lines_for 0 ts ss)) ∙ sections_back 0 0 ts ss all ok
