-- One line more is written.
use Rattle.std.proofs.Common.{◌≡◌, ℕ, ◌+◌, ◌<◌, ◌≤◌, true, List, [], ◌∷◌, ◌++◌, length, set, is_ok, sym, ap, ◌∙◌, subst, arith}
use Rattle.table.specs.declared.records.Counts.{Counts}
use Rattle.table.specs.declared.records.TaskRecord.{TaskRecord}
use Rattle.table.specs.declared.records.SectionRecord.{SectionRecord}
use Rattle.table.specs.Head.{line_items}
use Rattle.table.specs.Rule.{opens, shallow}
use Rattle.table.specs.Judged.{lines_judged}
use Rattle.table.specs.Record.{sections_in, task_of, tasks_of, sections_of, written}
use Rattle.table.proofs.Rooms.{shallow_if, opens_within}
use Rattle.table.proofs.Kept.{Kept, accepted_more, task_room, after_line}
use Rattle.table.proofs.Written.{Sofar, wrote, wrote_all}
use Rattle.table.proofs.Writes.{length-sections_in}

-- the counts so far
abbrev pub sofar : ℕ → ℕ → Counts
sofar k m = record { tasks = k; sections = m }

-- the line is the k-th, and has n sections, after m others
module _ (room : Counts) (k m : ℕ) {n : ℕ} {all lines : List (List ℕ)} {line : List ℕ} (more : all ≡ line ∷ lines) (count : n ≡ opens (line_items line)) (ok : is_ok (lines_judged room (sofar k m) all) ≡ true) where
  ok_here : is_ok (lines_judged room (sofar k m) (line ∷ lines)) ≡ true
  ok_here = sym (ap (λ l. is_ok (lines_judged room (sofar k m) l)) more) ∙ ok

  both : Kept room (sofar k m) line × (lines_judged room (sofar k m) (line ∷ lines) ≡ lines_judged room (after_line (sofar k m) line) lines)
  both = accepted_more room (sofar k m) line lines ok_here

  pub next_ok : is_ok (lines_judged room (sofar (k + 1) (m + n)) lines) ≡ true
  next_ok = ap (λ c. is_ok (lines_judged room (sofar (k + 1) (m + c)) lines)) count ∙ sym (ap is_ok both.1) ∙ ok_here

  pub next_room : k < room.tasks
  next_room = task_room room.tasks k both.0.tasks

  pub next_shallow : shallow 0 (line_items line) ≡ true
  next_shallow = shallow_if room.sections m 0 (line_items line) both.0.sections

  pub next_few : m ≤ room.sections → m + n ≤ room.sections
  next_few h = omega (arith, opens_within room.sections m 0 (line_items line) both.0.sections)

  pub next_task : (i : ℕ) (entry whole out : List TaskRecord) (r : TaskRecord) → r ≡ task_of i m line → k < length out → Sofar entry 0 whole out k (tasks_of i m all) → Sofar entry 0 whole (set out k r) (k + 1) (tasks_of (i + length line) (m + n) lines)
  next_task i entry whole out r e room' h =
      wrote entry 0 whole out k r _ room'
      (subst (Sofar entry 0 whole out k) (ap (tasks_of i m) more ∙ ap (λ x. x ∷ tasks_of (i + length line) (m + opens (line_items line)) lines) (sym e) ∙ ap (λ c. r ∷ tasks_of (i + length line) (m + c) lines) (sym count)) h)

  pub next_sections : (entry whole out out' : List SectionRecord) → m + n ≤ length out → out' ≡ written m (sections_in k m [] (line_items line)) out → Sofar entry 0 whole out m (sections_of k m all) → Sofar entry 0 whole out' (m + n) (sections_of (k + 1) (m + n) lines)
  next_sections entry whole out out' room' e h =
      let new = sections_in k m [] (line_items line) in
      let size : length new ≡ n = length-sections_in k m [] (line_items line) ∙ sym count in
      let rest = sections_of (k + 1) (m + n) lines in
      subst (λ c. Sofar entry 0 whole out' (m + c) rest) size
      (wrote_all entry 0 whole out m new rest out' (omega arith) e
      (subst (Sofar entry 0 whole out m) (ap (sections_of k m) more ∙ ap (λ c. new ++ sections_of (k + 1) (m + c) lines) (sym count)) h))
