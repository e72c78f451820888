-- What the reader makes of the letters of two sets: the sets, and no letter twice.
use Rattle.std.proofs.Common.{◌≡◌, ℕ, zero, suc, ◌+◌, ◌%◌, ◌^◌, ◌≤◌, true, eqb, ◌⊎◌, List, [], ◌∷◌, None, refl, ap, ◌∙◌, inl, inr, arith}
use lib.Bits.{bit_and, bit_or}
use Rattle.std.proofs.lemmas.Bool.{cond-true, cond_both, eq-eqb}
use Rattle.table.specs.declared.line.Item.{Item}
use Rattle.table.specs.declared.line.Item.TheVariants.{Open, Named, Close}
use Rattle.table.specs.declared.fill.Letters.{Letters}
use Rattle.table.specs.Level.{member}
use Rattle.table.specs.Rule.{repeat_fault}
use Rattle.table.specs.Record.{letters_from}
use Rattle.table.proofs.Spotted.{letter_items}
use Rattle.admission.proofs.Apart.{Apart, apart_or, or_apart, Within}
use Rattle.admission.proofs.Spelling.{spell, mark_small, mark_capital, low_with, low_without, bits_apart, not_both}

-- items that begin with no letter
abbrev pub NoLetter : List Item → Type 0
NoLetter [] = Unit {0}
NoLetter (Open n ∷ is) = Unit {0}
NoLetter (Named l ∷ is) = ⊥
NoLetter (Close ∷ is) = Unit {0}

abbrev pub pair : ℕ → ℕ → Letters
pair s c = record { small = s; capital = c }

no_letters : (s c : ℕ) (is : List Item) → NoLetter is → letters_from s c is ≡ pair s c
no_letters s c [] h = refl
no_letters s c (Open n ∷ is) h = refl
no_letters s c (Named l ∷ is) h = absurd h
no_letters s c (Close ∷ is) h = refl

module _ (small capital : ℕ) (apart : Apart small capital) (is : List Item) (ends : NoLetter is) where
  -- the sets are what the reader adds up
  pub spelt : (r k p a b : ℕ) → r + k ≡ 26 → a ≡ small % 2 ^ r → b ≡ capital % 2 ^ r → letters_from a b (letter_items p (spell small capital r k) is) ≡ pair (small % 2 ^ 26) (capital % 2 ^ 26)
  unfolding spell
  spelt r zero p a b at sa sb =
      let e : r ≡ 26 = omega arith in
      no_letters a b is ends ∙ ap (λ x. pair x b) (sa ∙ ap (λ x. small % 2 ^ x) e) ∙ ap (pair (small % 2 ^ 26)) (sb ∙ ap (λ x. capital % 2 ^ x) e)
  spelt r (suc k) p a b at sa sb =
      let rest = letter_items (p + 2) (spell small capital (r + 1) k) is in
      cond_both (member small r) _ _ (λ ls. letters_from a b (letter_items p ls is) ≡ pair (small % 2 ^ 26) (capital % 2 ^ 26))
      (λ e. ap (λ m. letters_from a b (Named m ∷ rest)) (mark_small p r (omega arith))
      ∙ spelt (r + 1) k (p + 2) (bit_or a (2 ^ r)) b (omega arith) (ap (λ x. bit_or x (2 ^ r)) sa ∙ low_with small r e) (sb ∙ low_without capital r (not_both small capital r apart e)))
      (λ no. cond_both (member capital r) _ _ (λ ls. letters_from a b (letter_items p ls is) ≡ pair (small % 2 ^ 26) (capital % 2 ^ 26))
      (λ e. ap (λ m. letters_from a b (Named m ∷ rest)) (mark_capital p r (omega arith))
      ∙ spelt (r + 1) k (p + 2) a (bit_or b (2 ^ r)) (omega arith) (sa ∙ low_without small r no) (ap (λ x. bit_or x (2 ^ r)) sb ∙ low_with capital r e))
      (λ e. spelt (r + 1) k p a b (omega arith) (sa ∙ low_without small r no) (sb ∙ low_without capital r e)))

-- a set has none of the letters from r on
abbrev pub Clear : ℕ → ℕ → ℕ → ℕ → Type 0
Clear small capital r s = (q : ℕ) → r ≤ q → (member small q ≡ true) ⊎ (member capital q ≡ true) → Apart s (2 ^ q)

module _ (small capital cover : ℕ) (seen : List ℕ) (is : List Item) (lies : (q : ℕ) → (member small q ≡ true) ⊎ (member capital q ≡ true) → Within (2 ^ q) cover) (later : (s : ℕ) → Within s cover → repeat_fault (s ∷ seen) is ≡ None) where
  clear_more : (r s : ℕ) → Clear small capital r s → Clear small capital (r + 1) (bit_or s (2 ^ r))
  clear_more r s clear q h m = apart_or s (2 ^ r) (2 ^ q) (clear q (omega arith) m) (bits_apart r q (omega arith))

  clear_on : (r s : ℕ) → Clear small capital r s → Clear small capital (r + 1) s
  clear_on r s clear q h m = clear q (omega arith) m

  lies_more : (r s : ℕ) → (member small r ≡ true) ⊎ (member capital r ≡ true) → Within s cover → Within (bit_or s (2 ^ r)) cover
  lies_more r s m w c p = or_apart c s (2 ^ r) (w c p) (lies r m c p)

  pub spelt_once : (r k p s : ℕ) → r + k ≡ 26 → Clear small capital r s → Within s cover → repeat_fault (s ∷ seen) (letter_items p (spell small capital r k) is) ≡ None
  unfolding spell
  spelt_once r zero p s at clear w = later s w
  spelt_once r (suc k) p s at clear w =
      let rest = letter_items (p + 2) (spell small capital (r + 1) k) is in
      cond_both (member small r) _ _ (λ ls. repeat_fault (s ∷ seen) (letter_items p ls is) ≡ None)
      (λ e. ap (λ m. repeat_fault (s ∷ seen) (Named m ∷ rest)) (mark_small p r (omega arith))
      ∙ cond-true (eqb (bit_and s (2 ^ r)) 0) _ _ (eq-eqb (bit_and s (2 ^ r)) 0 (clear r (omega arith) (inl e)))
      ∙ spelt_once (r + 1) k (p + 2) (bit_or s (2 ^ r)) (omega arith) (clear_more r s clear) (lies_more r s (inl e) w))
      (λ no. cond_both (member capital r) _ _ (λ ls. repeat_fault (s ∷ seen) (letter_items p ls is) ≡ None)
      (λ e. ap (λ m. repeat_fault (s ∷ seen) (Named m ∷ rest)) (mark_capital p r (omega arith))
      ∙ cond-true (eqb (bit_and s (2 ^ r)) 0) _ _ (eq-eqb (bit_and s (2 ^ r)) 0 (clear r (omega arith) (inr e)))
      ∙ spelt_once (r + 1) k (p + 2) (bit_or s (2 ^ r)) (omega arith) (clear_more r s clear) (lies_more r s (inr e) w))
      (λ e. spelt_once (r + 1) k p s (omega arith) (clear_on r s clear) w))
