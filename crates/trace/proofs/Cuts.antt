-- Where a text is cut: at its first byte 10, and at the first two in a row.
use Rattle.std.proofs.Common.{◌≡◌, ℕ, ◌+◌, ◌-◌, ◌<◌, ◌≤◌, Bool, true, false, not, cond, suc, ◌&&◌, eqb, List, [], ◌∷◌, length, take, drop, Some, None, refl, ap, ◌∙◌, sym, subst, ⊎_elim, arith}
use Rattle.std.specs.List.{position, position_or_len}
use Rattle.std.specs.Str.{bytes_eq}
use Rattle.std.specs.Slice.Iter.{windows_rest, windows_size, windows_steps}
use Rattle.std.proofs.lemmas.Bool.{cases_Bool, false≢true}
use Rattle.std.proofs.lemmas.List.{take_all, length-drop}
use Rattle.std.proofs.lemmas.Grind.{common_steps}
use Rattle.std.proofs.lemmas.Iterator.{YieldsList}
use Rattle.std.proofs.lemmas.Iterator.Splits.{YieldsList-from_shown_while}
use Rattle.trace.specs.Cut.{up_to_empty, behind_empty, table_of, behind_table}

module _ {X : Type 0} (p : X → Bool) where
  pub found : (xs : List X) (i : ℕ) → position p xs ≡ Some i → position_or_len p xs ≡ i
  found xs i e = grind (arith, common_steps)

  pub not_found : (xs : List X) → position p xs ≡ None → length xs ≤ position_or_len p xs
  not_found xs e = grind (arith, common_steps)

-- the neighbours in a text
abbrev pub pairs : List ℕ → List (List ℕ)
pairs [] = []
pairs (a ∷ []) = []
pairs (a ∷ b ∷ t) = (a ∷ b ∷ []) ∷ pairs (b ∷ t)

no_pair : (xs : List ℕ) → length xs < 2 → length (pairs xs) ≡ 0
no_pair [] h = refl
no_pair (a ∷ []) h = refl
no_pair (a ∷ b ∷ t) h = absurd (omega arith)

first_pair : (xs : List ℕ) → 2 ≤ length xs → pairs xs ≡ take 2 xs ∷ pairs (drop 1 xs)
first_pair [] h = absurd (omega arith)
first_pair (a ∷ []) h = absurd (omega arith)
first_pair (a ∷ b ∷ t) h = refl

pub windows_are_pairs : {s : _} (xs : List ℕ) → windows_rest s ≡ xs → windows_size s ≡ 2 → YieldsList (windows_steps {A = ℕ}) (λ w. w.now) s (pairs xs)
windows_are_pairs {s} xs e two =
    subst (λ l. YieldsList windows_steps (λ w. w.now) s (pairs l)) e
    (YieldsList-from_shown_while windows_steps (λ w. w.now) (λ t. pairs (windows_rest t)) (λ t. windows_size t ≡ 2)
    (λ t u h k. no_pair (windows_rest t) (omega (arith, h, k.1.0)))
    (λ t x u h k. (k.0 ∙ h, first_pair (windows_rest t) (omega (arith, h, k.1.0)) ∙ ap (λ l. l ∷ pairs (drop 1 (windows_rest t))) (sym (k.1.1 ∙ ap (λ n. take n (windows_rest t)) h)) ∙ ap (λ l. x.now ∷ pairs l) (sym k.1.2)))
    s two)

abbrev pub two_ends : List ℕ → Bool
two_ends pair = bytes_eq pair (10 ∷ 10 ∷ [])

further : (a b n : ℕ) (t up behind : List ℕ) → (up ≡ take (n + 1) (b ∷ t)) × (behind ≡ drop (n + 2) (b ∷ t)) → (a ∷ up ≡ take (1 + n + 1) (a ∷ b ∷ t)) × (behind ≡ drop (1 + n + 2) (a ∷ b ∷ t))
further a b n t up behind h =
    let one : suc (n + 1) ≡ 1 + n + 1 = omega arith in
    let two : suc (n + 2) ≡ 1 + n + 2 = omega arith in (ap (λ l. a ∷ l) h.0 ∙ ap (λ k. take k (a ∷ b ∷ t)) one, h.1 ∙ ap (λ k. drop k (a ∷ b ∷ t)) two)

-- one byte more in front: p and q say that it and the next are 10
one_more : (p q : Bool) (a b n : ℕ) (t up behind : List ℕ) → (cond (q && false) [] (b ∷ up) ≡ take (n + 1) (b ∷ t)) × (cond (q && false) t behind ≡ drop (n + 2) (b ∷ t))
    → (cond (p && false) [] (a ∷ cond (q && p) [] (b ∷ up)) ≡ take (cond (not (p && (q && true))) (1 + n) 0 + 1) (a ∷ b ∷ t)) × (cond (p && false) (b ∷ t) (cond (q && p) t behind) ≡ drop (cond (not (p && (q && true))) (1 + n) 0 + 2) (a ∷ b ∷ t))
one_more true true a b n t up behind h = (refl, refl)
one_more true false a b n t up behind h = further a b n t (b ∷ up) behind h
one_more false true a b n t up behind h = further a b n t (b ∷ up) behind h
one_more false false a b n t up behind h = further a b n t (b ∷ up) behind h

-- a text that does not begin with byte 10 is cut behind the first of the first two in a row
pub cut_behind : (s : List ℕ) → let n = position_or_len two_ends (pairs s) in (up_to_empty false s ≡ take (n + 1) s) × (behind_empty false s ≡ drop (n + 2) s)
cut_behind [] = (refl, refl)
cut_behind (a ∷ []) = ⊎_elim (λ h. grind (arith, common_steps)) (λ h. grind (arith, common_steps)) (cases_Bool (eqb a 10))
cut_behind (a ∷ b ∷ t) = one_more (eqb a 10) (eqb b 10) a b (position_or_len two_ends (pairs (b ∷ t))) t (up_to_empty (eqb b 10) t) (behind_empty (eqb b 10) t) (cut_behind (b ∷ t))

-- nor does it begin with an empty line
unopened : (p : Bool) (b : ℕ) (t up behind : List ℕ) → (p && true) ≡ false → (cond (p && true) [] (b ∷ up) ≡ cond (p && false) [] (b ∷ up)) × (cond (p && true) t behind ≡ cond (p && false) t behind)
unopened true b t up behind h = absurd (false≢true (sym h))
unopened false b t up behind h = (refl, refl)

pub not_opened : (s : List ℕ) → bytes_eq (take 1 s) (10 ∷ []) ≡ false → (table_of s ≡ up_to_empty false s) × (behind_table s ≡ behind_empty false s)
not_opened [] h = (refl, refl)
not_opened (b ∷ t) h = unopened (eqb b 10) b t (up_to_empty (eqb b 10) t) (behind_empty (eqb b 10) t) h

pub length-pairs : (s : List ℕ) → length s ≤ length (pairs s) + 1
length-pairs [] = omega arith
length-pairs (a ∷ []) = omega arith
length-pairs (a ∷ b ∷ t) = omega (arith, length-pairs (b ∷ t))

-- what is left from a place on, as a part of the text
pub whole_rest : (s : List ℕ) (k : ℕ) → take (length s - k) (drop k s) ≡ drop k s
whole_rest s k = take_all (length s - k) (drop k s) (omega (arith, length-drop k s))
