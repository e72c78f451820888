-- Rising numbers that all stand in a list are no more than the different numbers of that list.
use Rattle.std.proofs.Common.{◌≡◌, ℕ, ◌<◌, ◌≤◌, true, false, ◌||◌, nat_eq, ◌==◌, List, [], ◌∷◌, map, length, refl, arith}
use Rattle.std.specs.Cmp.{nat_eq_equiv}
use Rattle.std.specs.List.{AllByRecursion, IsDistinct}
use Rattle.std.specs.Set.{is_member, unique_keys, distinct_count}
use Rattle.std.proofs.lemmas.Bool.Decides.{nat_tests}
use Rattle.std.proofs.lemmas.List.{length-map}
use Rattle.std.proofs.lemmas.List.Recursion.{same_from_clauses}
use Rattle.std.proofs.lemmas.Map.Made.{length-le_from_is_member}
use Rattle.machine.specs.Promise.{among, different}
use Rattle.machine.proofs.Lists.{Rising}

among_is : (x : ℕ) (xs : List ℕ) → among x xs ≡ is_member nat_eq xs x
among_is x xs = same_from_clauses (among x) (λ ys. is_member nat_eq ys x) (λ y b. x == y || b) refl (λ _ _. refl) (λ _ _. refl) xs

different_is : (xs : List ℕ) → different xs ≡ distinct_count nat_eq xs
different_is [] = refl
different_is (x ∷ xs) = let ih = different_is xs in let e = among_is x xs in grind arith

unique_among : (q : ℕ) (xs : List ℕ) → is_member nat_eq xs q ≡ true → is_member nat_eq (unique_keys nat_eq xs) q ≡ true
unique_among q [] e = e
unique_among q (x ∷ xs) e = let ih = unique_among q xs in grind (arith, nat_tests)

module _ {X : Type 0} (f : X → ℕ) where
  apart : (n : ℕ) (ys : List X) → AllByRecursion (λ y. n < f y) ys → AllByRecursion (λ m. (n == m) ≡ false) (map f ys)
  apart n [] a = tt
  apart n (y ∷ ys) a = (grind (arith, nat_tests, a.0), apart n ys a.1)

  rising_distinct : (ys : List X) → Rising f ys → IsDistinct nat_eq (map f ys)
  unfolding IsDistinct
  rising_distinct [] ri = tt
  rising_distinct (y ∷ ys) ri = (apart (f y) ys ri.0, rising_distinct ys ri.1)

  all_among : (q : ℕ) (xs : List ℕ) (ys : List X) → AllByRecursion (λ y. among (f y) xs ≡ true) ys → is_member nat_eq (map f ys) q ≡ true → is_member nat_eq xs q ≡ true
  all_among q xs [] a e = grind arith
  all_among q xs (y ∷ ys) a e = let ih = all_among q xs ys a.1 in let is = among_is (f y) xs in grind (arith, nat_tests, a.0)

  pub rising_among : (xs : List ℕ) (ys : List X) → Rising f ys → AllByRecursion (λ y. among (f y) xs ≡ true) ys → length ys ≤ different xs
  rising_among xs ys ri a =
      let le : length (map f ys) ≤ distinct_count nat_eq xs =
      length-le_from_is_member nat_eq_equiv (map f ys) (unique_keys nat_eq xs) (rising_distinct ys ri) (λ q e. unique_among q xs (all_among q xs ys a e)) in
      omega (arith, different_is xs, length-map ys f)
