-- The least of several levels, as the least of those that are there.
use Rattle.std.proofs.Common.{◌≡◌, ℕ, ◌+◌, min, Bool, true, false, cond, List, [], ◌∷◌, Some, None, Option, refl, ap, ◌∙◌, arith}
use Rattle.std.specs.List.{fold, reduce, filter, filter_map, cons_option, enumerate_from}
use Rattle.table.specs.declared.records.TaskRecord.{TaskRecord}
use Rattle.table.specs.declared.records.SectionRecord.{SectionRecord}
use Rattle.table.specs.Level.{names, deadline_of, lesser, letter_level, least_level}

fold_min : (x y : ℕ) (xs : List ℕ) → fold min (min x y) xs ≡ min x (fold min y xs)
fold_min x y [] = refl
fold_min x y (z ∷ xs) = ap (λ a. fold min a xs) (let e : min (min x y) z ≡ min x (min y z) = omega arith in e) ∙ fold_min x (min y z) xs

-- one more number
reduce_more : (x : ℕ) (xs : List ℕ) → reduce min (x ∷ xs) ≡ lesser (Some x) (reduce min xs)
reduce_more x [] = refl
reduce_more x (y ∷ xs) = ap Some (fold_min x y xs)

-- one more level, if there is one
level_more : (o : Option ℕ) (xs : List ℕ) → reduce min (cons_option o xs) ≡ lesser o (reduce min xs)
level_more None xs = refl
level_more (Some x) xs = reduce_more x xs

-- one more thing, which passes the test and has a level, or not
module _ {X : Type 0} (test : X → Bool) (level : X → Option ℕ) where
  by_test : (b : Bool) (x : X) (xs : List X) → reduce min (filter_map level (cond b (x ∷ xs) xs)) ≡ lesser (cond b (level x) None) (reduce min (filter_map level xs))
  by_test true x xs = level_more (level x) (filter_map level xs)
  by_test false x xs = refl

  pub least_more : (x : X) (xs : List X) → reduce min (filter_map level (filter test (x ∷ xs))) ≡ lesser (cond (test x) (level x) None) (reduce min (filter_map level (filter test xs)))
  least_more x xs = by_test (test x) x (filter test xs)

pub letter_is : (tasks : List TaskRecord) (r : ℕ) (ss : List SectionRecord) → reduce min (filter_map (λ (s : SectionRecord). deadline_of tasks s.task) (filter (λ s. names s r) ss)) ≡ letter_level tasks ss r
letter_is tasks r [] = refl
letter_is tasks r (s ∷ ss) =
    least_more (λ (x : SectionRecord). names x r) (λ (x : SectionRecord). deadline_of tasks x.task) s ss
    ∙ ap (lesser (cond (names s r) (deadline_of tasks s.task) None)) (letter_is tasks r ss)

pub least_is : (s : SectionRecord) (r : ℕ) (ls : List (Option ℕ)) → reduce min (filter_map (λ (p : ℕ × Option ℕ). p.1) (filter (λ (p : ℕ × Option ℕ). names s p.0) (enumerate_from r ls))) ≡ least_level ls r s
least_is s r [] = refl
least_is s r (l ∷ ls) =
    least_more (λ (p : ℕ × Option ℕ). names s p.0) (λ (p : ℕ × Option ℕ). p.1) (r, l) (enumerate_from (r + 1) ls)
    ∙ ap (lesser (cond (names s r) l None)) (least_is s (r + 1) ls)
