-- One turn of each loop of the check.
use Rattle.std.proofs.Common.{◌≡◌, ℕ, ◌+◌, ◌<◌, ◌≤◌, Bool, true, false, ◌&&◌, eqb, List, [], ◌∷◌, length, get_or, take, drop, Some, None, sym, refl, ap, ◌∙◌, arith}
use Rattle.std.proofs.lemmas.List.{at_drop_more, at_drop_all, drop_more, drop-drop, length-drop}
use Rattle.std.proofs.lemmas.Bool.{ne_eqb}
use Rattle.std.proofs.lemmas.Bool.Decides.{nat_tests}
use Rattle.table.specs.declared.records.TaskRecord.{TaskRecord}
use Rattle.table.specs.declared.records.SectionRecord.{SectionRecord}
use Rattle.admission.specs.declared.path.Opened.{Opened}
use Rattle.admission.specs.Sound.{sections_sound, times_sound, task_sound, tasks_sound}
use Rattle.admission.specs.Stack.{entered}
use Rattle.admission.proofs.Entered.{goes, sections_more}

-- one more section of a task
module _ (k cost n : ℕ) (path : List Opened) (ss : List SectionRecord) (i : ℕ) (d : SectionRecord) (within : i < length ss) where
  run_step : sections_sound k cost n path (drop i ss) ≡ goes k cost (n + 1) (drop (i + 1) ss) (entered k cost n path (get_or ss i d))
  run_step = at_drop_more (sections_sound k cost n path) ss i d within ∙ sections_more k cost n (get_or ss i d) (drop (i + 1) ss) path

  pub run_more : (next : List Opened) → entered k cost n path (get_or ss i d) ≡ Some next → sections_sound k cost (n + 1) next (drop (i + 1) ss) ≡ sections_sound k cost n path (drop i ss)
  run_more next e = sym (run_step ∙ ap (goes k cost (n + 1) (drop (i + 1) ss)) e)

  pub run_stop : entered k cost n path (get_or ss i d) ≡ None → false ≡ sections_sound k cost n path (drop i ss)
  run_stop e = sym (run_step ∙ ap (goes k cost (n + 1) (drop (i + 1) ss)) e)

-- what a task that keeps the rules keeps
module _ (k n : ℕ) (t : TaskRecord) (ss : List SectionRecord) (ok : task_sound k n t ss ≡ true) where
  pub sound_times : times_sound t ≡ true
  sound_times = grind (arith, nat_tests)

  pub sound_fits : t.sections.count ≤ length ss
  sound_fits = grind (arith, nat_tests)

  pub sound_sections : sections_sound k t.cost n [] (take t.sections.count ss) ≡ true
  sound_sections = grind (arith, nat_tests)

-- one more task: the sections that are left to it and those after it are the rest
module _
    (k n : ℕ) (ts : List TaskRecord) (ss rest : List SectionRecord) (i : ℕ) (d : TaskRecord) (within : i < length ts) (b : Bool) (are : rest ≡ drop n ss)
    (is : b ≡ task_sound k n (get_or ts i d) rest) where
  pub tasks_step : tasks_sound k n (drop i ts) (drop n ss) ≡ (b && tasks_sound (k + 1) (n + (get_or ts i d).sections.count) (drop (i + 1) ts) (drop (n + (get_or ts i d).sections.count) ss))
  tasks_step =
      ap (λ l. tasks_sound k n l (drop n ss)) (drop_more ts i d within)
      ∙ ap (λ x. x && tasks_sound (k + 1) (n + (get_or ts i d).sections.count) (drop (i + 1) ts) (drop (get_or ts i d).sections.count (drop n ss)))
      (ap (task_sound k n (get_or ts i d)) (sym are) ∙ sym is)
      ∙ ap (λ l. b && tasks_sound (k + 1) (n + (get_or ts i d).sections.count) (drop (i + 1) ts) l) (drop-drop (get_or ts i d).sections.count n ss)

  pub tasks_within : n ≤ length ss → true ≡ b → n + (get_or ts i d).sections.count ≤ length ss
  tasks_within before ok =
      let fits = sound_fits k n (get_or ts i d) rest (sym (ok ∙ is)) in
      let long = ap length are ∙ length-drop n ss in
      omega arith

-- after the last task
none_left : (k n : ℕ) (ss : List SectionRecord) → tasks_sound k n [] ss ≡ eqb (length ss) 0
none_left k n [] = refl
none_left k n (s ∷ ss) = sym (ne_eqb _ _ (λ e. omega arith))

pub tasks_end : (k n : ℕ) (ts : List TaskRecord) (ss : List SectionRecord) (i : ℕ) → length ts ≤ i → n ≤ length ss → eqb n (length ss) ≡ tasks_sound k n (drop i ts) (drop n ss)
tasks_end k n ts ss i past within =
    let left = length-drop n ss in
    let same : eqb n (length ss) ≡ eqb (length (drop n ss)) 0 = grind (arith, nat_tests) in
    same ∙ sym (at_drop_all (λ l. tasks_sound k n l (drop n ss)) ts i past ∙ none_left k n (drop n ss))
