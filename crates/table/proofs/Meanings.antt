-- What a text's verdict means, from what the verdict on each of its lines means.
use Rattle.std.proofs.Common.{◌≡◌, ℕ, ◌+◌, ◌<◌, ◌≤◌, true, eqb, ltb, List, [], ◌∷◌, ◌++◌, map, length, is_ok, Some, None, Ok, Err, Option, Result, sym, refl, ap, ◌∙◌, subst, append_assoc, arith}
use Rattle.std.proofs.lemmas.Bool.{cond-false, cond_both, ltb-true, ltb-false, le-ltb, eqb-true, eqb-false, ne_eqb}
use Rattle.std.proofs.lemmas.List.{nil_from_length}
use Rattle.table.specs.declared.refusal.Rule.{Rule}
use Rattle.table.specs.declared.refusal.Rule.TheVariants.{Form, Number, Times, Tasks, Sections as Room, Repeated, Length}
use Rattle.table.specs.declared.refusal.Refusal.{Refusal}
use Rattle.table.specs.declared.refusal.Refusal.TheVariants.{TooLong, Empty, Broken}
use Rattle.table.specs.declared.records.Counts.{Counts}
use Rattle.table.specs.declared.check.Fault.{Fault as LineFault}
use Rattle.table.specs.declared.form.State.TheVariants.{Name}
use Rattle.table.specs.Limits.{longest_text}
use Rattle.table.specs.Form.{form_fault}
use Rattle.table.specs.Lines.{lines_of}
use Rattle.table.specs.Head.{line_items}
use Rattle.table.specs.Rule.{opens}
use Rattle.table.specs.Grammar.{Line, render, render_all}
use Rattle.table.specs.Breach.{Good, AllGood, past, past_all, count}
use Rattle.table.specs.Meant.{task_meant, tasks_meant, sections_meant, all_sections_meant}
use Rattle.table.specs.Judged.{unless, line_judged, lines_judged, judged, room_for, nothing_read}
use Rattle.table.specs.Record.{tasks_of, sections_of}
use Rattle.table.specs.Meaning.{Bad, Fault, Meaning, Exactly}
use Rattle.table.proofs.Turns.{go_on}
use Rattle.table.proofs.Formed.{Formed, formed}
use Rattle.table.proofs.Rendered.{one_line, first_formed}
use Rattle.table.proofs.Split.{at_front}
use Rattle.table.proofs.Sectioned.{opens_line}
use Rattle.table.proofs.Timed.{all_fair}
use Rattle.table.proofs.LineMeaning.{Told, line_told}
use Rattle.table.proofs.Recorded.{sections_line, task_line}

-- the lines of written lines
lines_written : (ls : List Line) → lines_of (render_all ls) ≡ map render ls
lines_written [] = refl
lines_written (l ∷ ls) = one_line l (render_all ls) ∙ ap (λ x. render l ∷ x) (lines_written ls)

tasks_written : (room before : Counts) (place k : ℕ) (ls : List Line) → AllGood room before ls → tasks_of place k (map render ls) ≡ tasks_meant place k ls
tasks_written room before place k [] h = refl
tasks_written room before place k (l ∷ ls) (good, more) =
    ap (λ x. x ∷ tasks_of (place + length (render l)) (k + opens (line_items (render l))) (map render ls)) (task_line place k l (all_fair room before l good))
    ∙ ap (λ n. task_meant place k l ∷ tasks_of (place + length (render l)) (k + n) (map render ls)) (opens_line l)
    ∙ ap (λ x. task_meant place k l ∷ x) (tasks_written room (past before l) (place + length (render l)) (k + count l.sections) ls more)

sections_written : (room before : Counts) (task k : ℕ) (ls : List Line) → AllGood room before ls → sections_of task k (map render ls) ≡ all_sections_meant task k ls
sections_written room before task k [] h = refl
sections_written room before task k (l ∷ ls) (good, more) =
    ap (λ x. x ++ sections_of (task + 1) (k + opens (line_items (render l))) (map render ls)) (sections_line task k l (all_fair room before l good))
    ∙ ap (λ n. sections_meant task k None l.sections ++ sections_of (task + 1) (k + n) (map render ls)) (opens_line l)
    ∙ ap (λ x. sections_meant task k None l.sections ++ x) (sections_written room (past before l) (task + 1) (k + count l.sections) ls more)

-- a breach of a line that a text begins with
bad_fault : (room before : Counts) (text : List ℕ) (rule : Rule) (p : ℕ) → (rule ≡ Form → ⊥) → Bad room before text rule p → Fault room before text rule p
bad_fault room before text Form p real h = absurd (real refl)
bad_fault room before text Number p real h = h
bad_fault room before text Times p real h = h
bad_fault room before text Tasks p real h = h
bad_fault room before text Room p real h = h
bad_fault room before text Repeated p real h = h
bad_fault room before text Length p real h = h

-- what the verdict on a text's lines means, after so many tasks and sections
abbrev LinesMean : Counts → Counts → List ℕ → Result Counts Refusal → Type 0
LinesMean room before text (Ok counts) = (ls : List Line) × (text ≡ render_all ls) × AllGood room before ls × (counts ≡ past_all before ls)
LinesMean room before text (Err TooLong) = ⊥
LinesMean room before text (Err Empty) = ⊥
LinesMean room before text (Err (Broken rule place)) =
    (ls : List Line) × (rest : List ℕ) × (1 ≤ length rest) × (text ≡ render_all ls ++ rest) × AllGood room before ls × (place.line ≡ before.tasks + length ls + 1)
    × (p : ℕ) × (place.byte ≡ p + 1) × Fault room (past_all before ls) rest rule p

-- one good line more in front
prepend : (room before : Counts) (l : Line) (text more : List ℕ) (r : Result Counts Refusal) → text ≡ render l ++ more → Good room before l → LinesMean room (past before l) more r → LinesMean room before text r
prepend room before l text more (Ok counts) e good (ls, is, all, n) = (l ∷ ls, e ∙ ap (λ x. render l ++ x) is, (good, all), n)
prepend room before l text more (Err TooLong) e good h = absurd h
prepend room before l text more (Err Empty) e good h = absurd h
prepend room before l text more (Err (Broken rule place)) e good (ls, rest, some, is, all, at, p, byte, fault) =
    (l ∷ ls, rest, some, e ∙ ap (λ x. render l ++ x) is ∙ sym (append_assoc (render l) (render_all ls) rest), (good, all), omega arith, p, byte, fault)

-- a line whose form is broken is refused there
form_refused : (room before : Counts) (line : List ℕ) (k : ℕ) → form_fault line ≡ Some k → line_judged room before line ≡ Err (record { rule = Form; place = k })
form_refused room before line k e = at_once (form_fault line) _ e
  where
    at_once : (o : Option ℕ) (later : Result ℕ LineFault) → o ≡ Some k → unless Form o later ≡ Err (record { rule = Form; place = k })
    at_once o later h = ap (λ x. unless Form x later) h

no_lines : (t : List ℕ) → lines_of t ≡ [] → t ≡ []
no_lines [] h = refl
no_lines (b ∷ t) h = absurd (some_lines (at_front (b ∷ t) (omega arith)) h)
  where
    some_lines : {x : List ℕ} {xs : List (List ℕ)} → lines_of (b ∷ t) ≡ x ∷ xs → lines_of (b ∷ t) ≡ [] → ⊥
    some_lines p q = let z : ◌≡◌ {A = ℕ} 0 1 = cc in omega arith

some_text : (t piece : List ℕ) (lines : List (List ℕ)) → lines_of t ≡ piece ∷ lines → 0 < length t
some_text [] piece lines e = let z : ◌≡◌ {A = ℕ} 0 1 = cc in absurd (omega arith)
some_text (b ∷ t) piece lines e = omega arith

same_first : (x y : List ℕ) (xs ys : List (List ℕ)) → x ∷ xs ≡ y ∷ ys → (x ≡ y) × (xs ≡ ys)
same_first x y xs ys e = ((cc), (cc))

some_line : (ls : List Line) → (ls ≡ [] → ⊥) → 1 ≤ length ls
some_line [] h = absurd (h refl)
some_line (l ∷ ls) h = omega arith

no_line : (ls : List Line) → 1 ≤ length ls → map render ls ≡ [] → ⊥
no_line [] h e = omega arith
no_line (l ∷ ls) h e = let z : ◌≡◌ {A = ℕ} 0 1 = cc in omega arith

-- a text whose first line is well formed
by_line : (room before : Counts) (text : List ℕ) (lines : List (List ℕ)) (l : Line) (more : List ℕ) (r : Result ℕ LineFault) → 1 ≤ length text → text ≡ render l ++ more → Told room before l r → LinesMean room (past before l) more (lines_judged room (past before l) lines) → LinesMean room before text (go_on room before r lines)
by_line room before text lines l more (Err f) any e (real, first) next =
    ([], text, any, refl, tt, omega arith, f.place, refl, bad_fault room before text f.rule f.place real (l, more, e, first))
by_line room before text lines l more (Ok n) any e (good, is) next =
    subst (λ s. LinesMean room before text (lines_judged room (record { tasks = before.tasks + 1; sections = s }) lines)) (sym is)
    (prepend room before l text more (lines_judged room (past before l) lines) e good next)

-- a text whose first line may be broken
by_form : (room before : Counts) (text piece : List ℕ) (lines : List (List ℕ)) (o : Option ℕ) → 1 ≤ length text → form_fault piece ≡ o → Formed text o → ((l : Line) (more : List ℕ) → text ≡ render l ++ more → LinesMean room before text (lines_judged room before (piece ∷ lines))) → LinesMean room before text (lines_judged room before (piece ∷ lines))
by_form room before text piece lines (Some k) any e broken next =
    subst (λ r. LinesMean room before text (go_on room before r lines)) (sym (form_refused room before piece k e))
    ([], text, any, refl, tt, omega arith, k, refl, broken)
by_form room before text piece lines None any e (l, more, is) next = next l more is

lines_mean : (room before : Counts) (lines : List (List ℕ)) (text : List ℕ) → lines_of text ≡ lines → LinesMean room before text (lines_judged room before lines)
lines_mean room before [] text e = ([], no_lines text e, tt, refl)
lines_mean room before (piece ∷ lines) text e =
    let any = some_text text piece lines e in
    let front = same_first _ _ _ _ (sym (at_front text any) ∙ e) in
    by_form room before text piece lines (form_fault text) any (ap form_fault (sym front.0) ∙ first_formed (Name 0) 0 text) (formed text)
    (λ l more is.
    let same = same_first _ _ _ _ (sym (one_line l more) ∙ sym (ap lines_of is) ∙ e) in
    by_line room before text lines l more (line_judged room before piece) any is
    (subst (λ x. Told room before l (line_judged room before x)) same.0 (line_told room before l))
    (lines_mean room (past before l) lines more same.1))

-- lines that break no rule are read
good_line : (room before : Counts) (l : Line) (lines : List (List ℕ)) (r : Result ℕ LineFault) → Told room before l r → Good room before l → is_ok (lines_judged room (past before l) lines) ≡ true → is_ok (go_on room before r lines) ≡ true
good_line room before l lines (Err f) (real, first) good next = absurd (good f.rule f.place first.breaks)
good_line room before l lines (Ok n) (also, is) good next =
    ap (λ s. is_ok (lines_judged room (record { tasks = before.tasks + 1; sections = s }) lines)) is ∙ next

good_lines : (room before : Counts) (ls : List Line) → AllGood room before ls → is_ok (lines_judged room before (map render ls)) ≡ true
good_lines room before [] h = refl
good_lines room before (l ∷ ls) (good, more) =
    good_line room before l (map render ls) (line_judged room before (render l)) (line_told room before l) good (good_lines room (past before l) ls more)

-- the verdict on the lines of a text that has some
whole : (room : Counts) (text : List ℕ) (r : Result Counts Refusal) → length text ≤ longest_text → (length text ≡ 0 → ⊥) → LinesMean room nothing_read text r → Meaning text room r
whole room text (Ok counts) short some (ls, is, all, n) =
    let lined = ap lines_of is ∙ lines_written ls in
    record {
      lines = ls;
      some = some_line ls (λ none. some (ap length (is ∙ ap render_all none)));
      short = short;
      written = is;
      good = all;
      counted = n;
      tasks = ap (tasks_of 0 0) lined ∙ tasks_written room nothing_read 0 0 ls all;
      sections = ap (sections_of 0 0) lined ∙ sections_written room nothing_read 0 0 ls all;
    }
whole room text (Err TooLong) short some h = absurd h
whole room text (Err Empty) short some h = absurd h
whole room text (Err (Broken rule place)) short some (ls, rest, more, is, all, at, p, byte, fault) = record {
  lines = ls;
  rest = rest;
  more = more;
  short = short;
  written = is;
  good = all;
  line = omega arith;
  before_byte = p;
  byte = byte;
  fault = fault;
}

pub meaning : (text : List ℕ) (tasks sections : ℕ) → Meaning text (room_for tasks sections) (judged text tasks sections)
unfolding judged
meaning text tasks sections =
    let room = room_for tasks sections in
    cond_both (ltb longest_text (length text)) (Err TooLong) _ (Meaning text room) (λ e. ltb-true longest_text (length text) e)
    (λ within. cond_both (eqb (length text) 0) (Err Empty) _ (Meaning text room) (λ e. nil_from_length text (eqb-true (length text) 0 e))
    (λ e. whole room text (lines_judged room nothing_read (lines_of text)) (ltb-false longest_text (length text) within) (eqb-false (length text) 0 e) (lines_mean room nothing_read (lines_of text) text refl)))

pub exactly : (text : List ℕ) (tasks sections : ℕ) → Exactly text (room_for tasks sections) (judged text tasks sections)
unfolding judged
exactly text tasks sections ls some short is all =
    let room = room_for tasks sections in
    let lined = ap lines_of is ∙ lines_written ls in
    let r = lines_judged room nothing_read (lines_of text) in
    ap is_ok (cond-false (ltb longest_text (length text)) _ _ (le-ltb longest_text (length text) short)
    ∙ cond-false (eqb (length text) 0) _ _ (ne_eqb (length text) 0 (λ z. no_line ls some (sym lined ∙ ap lines_of (nil_from_length text z)))))
    ∙ ap (λ x. is_ok (lines_judged room nothing_read x)) lined ∙ good_lines room nothing_read ls all
