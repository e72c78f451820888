-- Sets of letters that have no letter in common.
use Rattle.std.proofs.Common.{◌≡◌, ℕ, min, max, sym, ap, ◌∙◌, arith}
use lib.Bits.{bit_and, bit_or, and_comm, and_zero_r}
use Rattle.std.specs.Int.{bit_at}
use Rattle.std.proofs.lemmas.Nat.{and_or_apart}
use Rattle.std.proofs.lemmas.Nat.Bits.{bit_at-zero, bit_at_and, bit_at_or, same_from_bits}

abbrev pub Apart : ℕ → ℕ → Type 0
Apart a b = bit_and a b ≡ 0

pub apart_sym : (a b : ℕ) → Apart a b → Apart b a
apart_sym a b h = and_comm b a ∙ h

pub apart_none : (a : ℕ) → Apart a 0
apart_none a = and_zero_r a

pub apart_or : (a b c : ℕ) → Apart a c → Apart b c → Apart (bit_or a b) c
apart_or a b c p q = and_or_apart c a b q ∙ p

-- what has no bit is nothing
bare : (x : ℕ) → ((i : ℕ) → bit_at x i ≡ 0) → x ≡ 0
bare x none = same_from_bits x 0 (λ i. none i ∙ sym (bit_at-zero i))

pub apart_parts : (a b c : ℕ) → Apart (bit_or a b) c → Apart a c × Apart b c
apart_parts a b c p =
    let at : (i : ℕ) → min (max (bit_at a i) (bit_at b i)) (bit_at c i) ≡ 0 = λ i. ap (λ x. min x (bit_at c i)) (sym (bit_at_or a b i)) ∙ sym (bit_at_and (bit_or a b) c i) ∙ ap (λ x. bit_at x i) p ∙ bit_at-zero i in (
      bare (bit_and a c) (λ i. omega (arith, at i, bit_at_and a c i)),
      bare (bit_and b c) (λ i. omega (arith, at i, bit_at_and b c i)),
    )

-- the same on the other side
pub or_apart : (c a b : ℕ) → Apart c a → Apart c b → Apart c (bit_or a b)
or_apart c a b p q = apart_sym (bit_or a b) c (apart_or a b c (apart_sym c a p) (apart_sym c b q))

pub parts_apart : (c a b : ℕ) → Apart c (bit_or a b) → Apart c a × Apart c b
parts_apart c a b p =
    let q = apart_parts a b c (apart_sym c (bit_or a b) p) in
    (apart_sym a c q.0, apart_sym b c q.1)

-- every letter of the first set is in the second
abbrev pub Within : ℕ → ℕ → Type 0
Within a b = (c : ℕ) → Apart c b → Apart c a
