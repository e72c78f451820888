-- Every level is the deadline of a task of the table.
use Rattle.std.proofs.Common.{◌≡◌, ℕ, ◌+◌, min, Bool, cond, List, [], ◌∷◌, Some, None, Option, refl, subst, ⊎_elim, arith}
use Rattle.std.specs.List.{AllByRecursion, range_with_len}
use Rattle.std.proofs.lemmas.Bool.{cases_lt, cond_both}
use Rattle.std.proofs.ByRecursion.{All-map}
use Rattle.table.specs.declared.records.TaskRecord.{TaskRecord}
use Rattle.table.specs.declared.records.SectionRecord.{SectionRecord}
use Rattle.table.specs.Level.{names, deadline_of, lesser, letter_level, letter_levels, least_level, section_level}
use Rattle.admission.specs.Facts.{LevelOf}

-- what holds of everything holds of a list
all_of : {X : Type 0} (P : X → Type 0) → ((x : X) → P x) → (xs : List X) → AllByRecursion P xs
all_of P h [] = tt
all_of P h (x ∷ xs) = (h x, all_of P h xs)

module _ (tasks : List TaskRecord) where
  due_task : (i : ℕ) → LevelOf tasks (deadline_of tasks i)
  due_task i =
      elim (deadline_of tasks i) as (λ o. deadline_of tasks i ≡ o → LevelOf tasks o) [ None ↦ λ _. tt | Some d ↦ λ e. (i, e) ] refl

  due_lesser : (a b : Option ℕ) → LevelOf tasks a → LevelOf tasks b → LevelOf tasks (lesser a b)
  due_lesser None b p q = q
  due_lesser (Some x) None p q = p
  due_lesser (Some x) (Some y) p q =
      let P : ℕ → Type 0 = λ n. LevelOf tasks (Some n) in
      ⊎_elim (λ less. let e : x ≡ min x y = omega arith in subst P e p) (λ more. let e : y ≡ min x y = omega arith in subst P e q) (cases_lt x y)

  due_if : (b : Bool) (a : Option ℕ) → LevelOf tasks a → LevelOf tasks (cond b a None)
  due_if b a p = cond_both b a None (LevelOf tasks) (λ _. p) (λ _. tt)

  due_letter : (r : ℕ) (ss : List SectionRecord) → LevelOf tasks (letter_level tasks ss r)
  due_letter r [] = tt
  due_letter r (s ∷ ss) =
      due_lesser (cond (names s r) (deadline_of tasks s.task) None) (letter_level tasks ss r)
      (due_if (names s r) (deadline_of tasks s.task) (due_task s.task)) (due_letter r ss)

  due_letters : (ss : List SectionRecord) → AllByRecursion (LevelOf tasks) (letter_levels tasks ss)
  unfolding letter_levels
  due_letters ss =
      All-map (LevelOf tasks) (letter_level tasks ss) (range_with_len 0 26) (all_of (λ r. LevelOf tasks (letter_level tasks ss r)) (λ r. due_letter r ss) (range_with_len 0 26))

  due_least : (levels : List (Option ℕ)) (r : ℕ) (s : SectionRecord) → AllByRecursion (LevelOf tasks) levels → LevelOf tasks (least_level levels r s)
  due_least [] r s all = tt
  due_least (l ∷ ls) r s all = due_lesser (cond (names s r) l None) (least_level ls (r + 1) s) (due_if (names s r) l all.0) (due_least ls (r + 1) s all.1)

  pub due_section : (ss : List SectionRecord) (s : SectionRecord) → LevelOf tasks (section_level tasks ss s)
  due_section ss s = due_least (letter_levels tasks ss) 0 s (due_letters ss)
