-- A list that `from_fn` makes with a closure that computes a function.
use Rattle.std.proofs.Common.{◌≡◌, ℕ, zero, suc, ◌+◌, List, ◌∷◌, map, length, drop, ap, ◌∙◌, subst, arith}
use Rattle.std.specs.List.{range_with_len}
use Rattle.std.specs.Fn.{Mut, Called}
use Rattle.std.specs.Array.{IsFromFnResultFrom, IsFromFnResult}
use Rattle.std.proofs.lemmas.List.{drop_more, drop_all}

module _ {F B : Type 0} (g : Mut F (ℕ × Unit {0}) B) (f : F) (h : ℕ → B) (computes : (k : ℕ) (y : B) (q : F) → Called g f (k, tt) y q → (q ≡ f) × (y ≡ h k)) (ys : List B) where
  made_from : (i n : ℕ) → i + n ≡ length ys → IsFromFnResultFrom g f ys i n → drop i ys ≡ map h (range_with_len i n)
  made_from i zero long each = drop_all i ys (omega arith)
  made_from i (suc n) long each =
      let y = each.1 in
      let told = computes i y each.0 each.3 in
      drop_more ys i y (omega arith) ∙ ap (λ x. x ∷ drop (i + 1) ys) (each.2.0 ∙ told.1)
      ∙ ap (λ l. h i ∷ l) (made_from (i + 1) n (omega arith) (subst (λ p. IsFromFnResultFrom g p ys (i + 1) n) told.0 each.4))

  pub made_is : (n : ℕ) → IsFromFnResult g f ys n → ys ≡ map h (range_with_len 0 n)
  made_is n made = made_from 0 n (omega (arith, made.long)) made.each
