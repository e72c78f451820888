-- Whether a task is among the entries of a list. Assumes nothing.
use Rattle.std.proofs.Common.{◌≡◌, ℕ, Bool, true, false, ◌||◌, eqb, List, [], ◌∷◌, refl, ap, ◌∙◌}
use Rattle.std.proofs.lemmas.Bool.{cond_both}
use Rattle.std.specs.List.{list_any}
use Rattle.queue.specs.Order.{insert_sorted, sorted}
use Rattle.queue.specs.Meaning.{queued}

module _ {E : Type 0} (task : E → ℕ) (t : ℕ) where
  pub queued_is : (xs : List E) → list_any (λ x. eqb (task x) t) xs ≡ queued task t xs
  queued_is [] = refl
  queued_is (x ∷ xs) = ap (λ b. eqb (task x) t || b) (queued_is xs)

module _ {E : Type 0} (before : E → E → Bool) where
  or_turn : (a b c : Bool) → (a || (b || c)) ≡ (b || (a || c))
  or_turn true true c = refl
  or_turn true false c = refl
  or_turn false b c = refl

  pub queued_insert : (task : E → ℕ) (t : ℕ) (e : E) (xs : List E) → queued task t (insert_sorted before e xs) ≡ (eqb (task e) t || queued task t xs)
  queued_insert task t e [] = refl
  queued_insert task t e (x ∷ xs) =
      cond_both (before e x) _ _ (λ l. queued task t l ≡ (eqb (task e) t || queued task t (x ∷ xs))) (λ _. refl)
      (λ _. ap (λ b. eqb (task x) t || b) (queued_insert task t e xs) ∙ or_turn (eqb (task x) t) (eqb (task e) t) (queued task t xs))

  pub queued_sorted : (task : E → ℕ) (t : ℕ) (xs : List E) → queued task t (sorted before xs) ≡ queued task t xs
  queued_sorted task t [] = refl
  queued_sorted task t (x ∷ xs) = queued_insert task t x (sorted before xs) ∙ ap (λ b. eqb (task x) t || b) (queued_sorted task t xs)
