-- The counts that a text is judged to have are those of its records.
use Rattle.std.proofs.Common.{◌≡◌, ℕ, ◌+◌, ◌≤◌, max, Bool, true, false, cond, eqb, ltb, List, [], ◌∷◌, ◌++◌, map, length, take, drop, is_ok, IfOk, Ok, Err, Option, Result, sym, ap, ◌∙◌, zero-add, arith}
use Rattle.std.proofs.lemmas.List.{length-append, length-map, take_at, drop_at}
use Rattle.table.specs.declared.refusal.Refusal.{Refusal}
use Rattle.table.specs.declared.records.Counts.{Counts}
use Rattle.table.specs.declared.records.SectionRecord.{SectionRecord}
use Rattle.table.specs.Head.{line_items}
use Rattle.table.specs.Rule.{opens}
use Rattle.table.specs.Lines.{lines_of}
use Rattle.table.specs.Judged.{lines_judged, judged, room_for, nothing_read}
use Rattle.table.specs.Limits.{longest_text}
use Rattle.table.specs.Record.{sections_in, tasks_of, sections_of, leveled, written}
use Rattle.table.proofs.Rooms.{opens_within}
use Rattle.table.proofs.Kept.{accepted_more, task_room, after_line}
use Rattle.table.proofs.Writes.{length-sections_in}

pub record Counted (room before counts : Counts) (p : ℕ) (lines : List (List ℕ)) : Type 0 where
  pub tasks : counts.tasks ≡ before.tasks + length (tasks_of p before.sections lines)
  pub sections : counts.sections ≡ before.sections + length (sections_of before.tasks before.sections lines)
  pub tasks_within : counts.tasks ≤ max before.tasks room.tasks
  pub sections_within : counts.sections ≤ max before.sections room.sections

same_counts : (a b : Counts) → ◌≡◌ {A = Result Counts Refusal} (Ok a) (Ok b) → a ≡ b
same_counts a b e = cc

pub counted : (room before counts : Counts) (p : ℕ) (lines : List (List ℕ)) → lines_judged room before lines ≡ Ok counts → Counted room before counts p lines
counted room before counts p [] e =
    let same = same_counts before counts e in
    let t = ap (λ (c : Counts). c.tasks) same in
    let s = ap (λ (c : Counts). c.sections) same in
    record { tasks = omega arith; sections = omega arith; tasks_within = omega arith; sections_within = omega arith }
counted room before counts p (line ∷ lines) e =
    let k = accepted_more room before line lines (ap is_ok e) in
    let ih = counted room (after_line before line) counts (p + length line) lines (sym k.1 ∙ e) in
    let fits = opens_within room.sections before.sections 0 (line_items line) k.0.sections in
    let place = task_room room.tasks before.tasks k.0.tasks in
    let new = sections_in before.tasks before.sections [] (line_items line) in
    let rest = sections_of (before.tasks + 1) (before.sections + opens (line_items line)) lines in
    record {
      tasks = omega (arith, ih.tasks);
      sections = omega (arith, ih.sections, length-append new rest, length-sections_in before.tasks before.sections [] (line_items line));
      tasks_within = omega (arith, ih.tasks_within);
      sections_within = omega (arith, ih.sections_within);
    }

-- records that are written from the front
pub written_front : {X : Type 0} (new old : List X) → written 0 new old ≡ new ++ drop (length new) old
written_front new old = ap (λ k. new ++ drop k old) (zero-add (length new))

-- the records in front of such a list, and what lies behind them
pub front_is : {X : Type 0} (n : ℕ) (new old out : List X) → out ≡ new ++ drop (length new) old → n ≡ length new → take n out ≡ new
front_is n new old out is e = ap (take n) is ∙ take_at new _ n (sym e)

pub back_is : {X : Type 0} (n : ℕ) (new old out : List X) → out ≡ new ++ drop (length new) old → n ≡ length new → drop n out ≡ drop (length new) old
back_is n new old out is e = ap (drop n) is ∙ drop_at new _ n (sym e)

-- the sections get their levels
pub with_levels : (n : ℕ) (levels : List (Option ℕ)) (new old mid out : List SectionRecord) → mid ≡ new ++ drop (length new) old → n ≡ length new → out ≡ map (leveled levels) (take n mid) ++ drop n mid → out ≡ map (leveled levels) new ++ drop (length (map (leveled levels) new)) old
with_levels n levels new old mid out is e o =
    o ∙ ap (λ l. map (leveled levels) l ++ drop n mid) (front_is n new old mid is e) ∙ ap (λ l. map (leveled levels) new ++ l) (back_is n new old mid is e)
    ∙ ap (λ k. map (leveled levels) new ++ drop k old) (sym (length-map new (leveled levels)))

-- a text that is read is judged by its lines
pub judged_ok : (text : List ℕ) (tasks sections : ℕ) (counts : Counts) → judged text tasks sections ≡ Ok counts → lines_judged (room_for tasks sections) nothing_read (lines_of text) ≡ Ok counts
unfolding judged
judged_ok text tasks sections counts e = past (eqb (length text) 0) _ _ (past (ltb longest_text (length text)) _ _ e)
  where
    past : (b : Bool) (refusal : Refusal) (r : Result Counts Refusal) → cond b (Err refusal) r ≡ Ok counts → r ≡ Ok counts
    past true refusal r h = let z : ◌≡◌ {A = ℕ} 0 1 = cc in absurd (omega arith)
    past false refusal r h = h

-- its counts lie within the slices
pub judged_within : (text : List ℕ) (tasks sections : ℕ) (r : Result Counts Refusal) → r ≡ judged text tasks sections → IfOk r (λ c. (c.tasks ≤ tasks) × (c.sections ≤ sections))
judged_within text tasks sections (Ok counts) e =
    let p = counted (room_for tasks sections) nothing_read counts 0 (lines_of text) (judged_ok text tasks sections counts (sym e)) in
    (omega (arith, p.tasks_within), omega (arith, p.sections_within))
judged_within text tasks sections (Err refusal) e = tt
