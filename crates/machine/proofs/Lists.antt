-- Sums over a list, facts of each element, and order, under sorted insertion.
use Rattle.std.proofs.Common.{◌≡◌, ℕ, ◌+◌, ◌<◌, ◌≤◌, Bool, true, false, ◌⊎◌, List, [], ◌∷◌, refl, arith}
use Rattle.std.specs.List.{AllByRecursion}
use Rattle.std.proofs.lemmas.Bool.{cond_both}
use Rattle.queue.specs.Order.{insert_sorted}

-- the sum of a function over a list
abbrev pub tot : {X : Type 0} → (X → ℕ) → List X → ℕ
tot f [] = 0
tot f (x ∷ xs) = f x + tot f xs

pub tot_insert : {X : Type 0} (f : X → ℕ) (b : X → X → Bool) (x : X) (xs : List X) → tot f (insert_sorted b x xs) ≡ f x + tot f xs
tot_insert f b x [] = refl
tot_insert f b x (y ∷ ys) =
    let ih = tot_insert f b x ys in grind arith

pub tot_le : {X : Type 0} (f g : X → ℕ) (xs : List X) → AllByRecursion (λ x. f x ≤ g x) xs → tot f xs ≤ tot g xs
tot_le f g [] h = omega arith
tot_le f g (x ∷ xs) h = omega (arith, tot_le f g xs h.1)

pub none_tot : {X : Type 0} (f : X → ℕ) (xs : List X) → tot f xs ≡ 0 → AllByRecursion (λ x. f x ≡ 0) xs
none_tot f [] e = tt
none_tot f (x ∷ xs) e = (omega arith, none_tot f xs (omega arith))

pub all_insert : {X : Type 0} (P : X → Type 0) (b : X → X → Bool) (x : X) (xs : List X) → P x → AllByRecursion P xs → AllByRecursion P (insert_sorted b x xs)
all_insert P b x [] p h = (p, tt)
all_insert P b x (y ∷ ys) p h =
    let ih = all_insert P b x ys p h.1 in grind arith

pub all_map : {X : Type 0} (P Q : X → Type 0) → ((x : X) → P x → Q x) → (xs : List X) → AllByRecursion P xs → AllByRecursion Q xs
all_map P Q f [] h = tt
all_map P Q f (x ∷ xs) h = (f x h.0, all_map P Q f xs h.1)

pub all_map2 : {X : Type 0} (P Q R : X → Type 0) → ((x : X) → P x → Q x → R x) → (xs : List X) → AllByRecursion P xs → AllByRecursion Q xs → AllByRecursion R xs
all_map2 P Q R f [] h g = tt
all_map2 P Q R f (x ∷ xs) h g = (f x h.0 g.0, all_map2 P Q R f xs h.1 g.1)

abbrev pub Sorted : {X : Type 0} → (X → ℕ) → List X → Type 0
Sorted f [] = Unit {0}
Sorted f (x ∷ xs) = AllByRecursion (λ y. f x ≤ f y) xs × Sorted f xs

abbrev pub Rising : {X : Type 0} → (X → ℕ) → List X → Type 0
Rising f [] = Unit {0}
Rising f (x ∷ xs) = AllByRecursion (λ y. f x < f y) xs × Rising f xs

-- what is at most the first of a sorted list, or of a rising one, is at most each
pub from_first : {X : Type 0} (f : X → ℕ) (t : ℕ) (x : X) (xs : List X) → Sorted f (x ∷ xs) → t ≤ f x → AllByRecursion (λ y. t ≤ f y) (x ∷ xs)
from_first f t x xs so le = (le, all_map (λ y. f x ≤ f y) (λ y. t ≤ f y) (λ y h. omega arith) xs so.0)

pub from_lowest : {X : Type 0} (f : X → ℕ) (t : ℕ) (x : X) (xs : List X) → Rising f (x ∷ xs) → t ≤ f x → AllByRecursion (λ y. t ≤ f y) (x ∷ xs)
from_lowest f t x xs ri le = (le, all_map (λ y. f x < f y) (λ y. t ≤ f y) (λ y h. omega arith) xs ri.0)

-- b goes by f
abbrev pub By : {X : Type 0} → (X → X → Bool) → (X → ℕ) → Type 0
By {X} b f = (x y : X) → ((b x y ≡ true) × (f x ≤ f y)) ⊎ ((b x y ≡ false) × (f y ≤ f x))

pub sorted_insert : {X : Type 0} (b : X → X → Bool) (f : X → ℕ) → By b f → (x : X) (xs : List X) → Sorted f xs → Sorted f (insert_sorted b x xs)
sorted_insert b f h x [] s = (tt, tt)
sorted_insert b f h x (y ∷ ys) s =
    let c = h x y in
    cond_both (b x y) (x ∷ y ∷ ys) (y ∷ insert_sorted b x ys) (Sorted f)
    (λ e. let le : f x ≤ f y = grind arith in (from_first f (f x) y ys s le, s))
    (λ e. let le : f y ≤ f x = grind arith in (all_insert (λ z. f y ≤ f z) b x ys le s.0, sorted_insert b f h x ys s.1))
