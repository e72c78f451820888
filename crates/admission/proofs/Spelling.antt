-- The letters of two sets, as they are written behind a section's brace.
use Rattle.std.proofs.Common.{◌≡◌, ℕ, zero, suc, ◌+◌, ◌-◌, ◌*◌, ◌/◌, ◌%◌, ◌^◌, ◌<◌, ◌≤◌, Bool, true, false, cond, not, List, [], ◌∷◌, length, sym, refl, ap, ◌∙◌, inl, inr, mod-eq_of_lt, arith}
use lib.Bits.{bit_or}
use Rattle.std.proofs.lemmas.Bool.{cond-true, cond-false, cond_both, eqb-true, eqb-false}
use Rattle.std.proofs.lemmas.Nat.{pow_pos, mod-pow-add, or_shifted, or_comm, mod_below}
use Rattle.std.specs.Int.{bit_at}
use Rattle.std.proofs.lemmas.Nat.Bits.{bit_at-zero, bit_at_and, bit_at-pow_other, and_pow}
use Rattle.std.proofs.lemmas.Bool.Decides.{nat_tests}
use Rattle.table.specs.declared.line.Letter.{Letter as Mark}
use Rattle.table.specs.Byte.{is_small}
use Rattle.table.specs.Level.{member}
use Rattle.table.specs.Grammar.{Letter, Byte}
use Rattle.table.specs.Breach.{resource}
use Rattle.table.proofs.Spotted.{mark}
use Rattle.admission.proofs.Apart.{Apart, Within}

-- the small letter and the capital of a resource
abbrev pub small_letter : ℕ → Byte Letter
small_letter r = record { byte = 97 + r % 26; is = inl (omega arith, omega arith) }

abbrev pub capital_letter : ℕ → Byte Letter
capital_letter r = record { byte = 65 + r % 26; is = inr (omega arith, omega arith) }

-- the letters of so many resources from r on
unfoldable pub spell : ℕ → ℕ → ℕ → ℕ → List (Byte Letter)
spell small capital r zero = []
spell small capital r (suc k) =
    cond (member small r) (small_letter r ∷ spell small capital (r + 1) k)
    (cond (member capital r) (capital_letter r ∷ spell small capital (r + 1) k) (spell small capital (r + 1) k))

pub spell_short : (small capital r k : ℕ) → length (spell small capital r k) ≤ k
unfolding spell
spell_short small capital r zero = omega arith
spell_short small capital r (suc k) =
    let rest = spell small capital (r + 1) k in
    let short = spell_short small capital (r + 1) k in
    cond_both (member small r) (small_letter r ∷ rest) (cond (member capital r) (capital_letter r ∷ rest) rest) (λ ls. length ls ≤ suc k) (λ _. omega arith)
    (λ _. cond_both (member capital r) (capital_letter r ∷ rest) rest (λ ls. length ls ≤ suc k) (λ _. omega arith) (λ _. omega arith))

-- what a letter says
abbrev pub marked : ℕ → ℕ → Bool → Mark
marked p r big = record { place = p; bit = 2 ^ r; capital = big }

is_small_lem : (r : ℕ) → is_small (97 + r % 26) ≡ true
is_small_lem r = grind (arith, nat_tests)

not_small : (r : ℕ) → is_small (65 + r % 26) ≡ false
not_small r = let low = mod_below r 26 (omega arith) in grind (arith, nat_tests)

small_resource : (r : ℕ) → r < 26 → resource (small_letter r) ≡ r
small_resource r h = cond-true (is_small (97 + r % 26)) (97 + r % 26 - 97) (97 + r % 26 - 65) (is_small_lem r) ∙ omega (arith, mod-eq_of_lt h)

capital_resource : (r : ℕ) → r < 26 → resource (capital_letter r) ≡ r
capital_resource r h = cond-false (is_small (65 + r % 26)) (65 + r % 26 - 97) (65 + r % 26 - 65) (not_small r) ∙ omega (arith, mod-eq_of_lt h)

pub mark_small : (p r : ℕ) → r < 26 → mark p (small_letter r) ≡ marked p r false
mark_small p r h = ap (λ x. marked p x (not (is_small (97 + r % 26)))) (small_resource r h) ∙ ap (λ b. marked p r (not b)) (is_small_lem r)

pub mark_capital : (p r : ℕ) → r < 26 → mark p (capital_letter r) ≡ marked p r true
mark_capital p r h = ap (λ x. marked p x (not (is_small (65 + r % 26)))) (capital_resource r h) ∙ ap (λ b. marked p r (not b)) (not_small r)

-- the members of a set below a resource, and with it
low_more : (set r : ℕ) → set % 2 ^ (r + 1) ≡ (set / 2 ^ r % 2) * 2 ^ r + set % 2 ^ r
low_more set r = ap (λ x. set % 2 ^ x) (let e : r + 1 ≡ 1 + r = omega arith in e) ∙ mod-pow-add set 1 r

pub low_with : (set r : ℕ) → member set r ≡ true → bit_or (set % 2 ^ r) (2 ^ r) ≡ set % 2 ^ (r + 1)
low_with set r e =
    let one = eqb-true (set / 2 ^ r % 2) 1 e in
    or_comm (set % 2 ^ r) (2 ^ r) ∙ ap (λ x. bit_or x (set % 2 ^ r)) (let s : 2 ^ r ≡ 1 * 2 ^ r = omega arith in s)
    ∙ or_shifted 1 r (set % 2 ^ r) (mod_below set (2 ^ r) (pow_pos r)) ∙ ap (λ x. x * 2 ^ r + set % 2 ^ r) (sym one) ∙ sym (low_more set r)

pub low_without : (set r : ℕ) → member set r ≡ false → set % 2 ^ r ≡ set % 2 ^ (r + 1)
low_without set r e =
    let other = eqb-false (set / 2 ^ r % 2) 1 e in
    let none : 0 ≡ set / 2 ^ r % 2 = omega arith in
    (let s : set % 2 ^ r ≡ 0 * 2 ^ r + set % 2 ^ r = omega arith in s) ∙ ap (λ x. x * 2 ^ r + set % 2 ^ r) none ∙ sym (low_more set r)

-- a member of a set is in it
pub member_within : (set r : ℕ) → member set r ≡ true → Within (2 ^ r) set
member_within set r e c p =
    let one = eqb-true (set / 2 ^ r % 2) 1 e in
    let none : bit_at c r ≡ 0 = omega (arith, one, bit_at_and c set r, ap (λ x. bit_at x r) p, bit_at-zero r) in
    omega (arith, and_pow c r, ap (λ x. x * 2 ^ r) none)

pub bits_apart : (r q : ℕ) → r < q → Apart (2 ^ r) (2 ^ q)
bits_apart r q h = omega (arith, and_pow (2 ^ r) q, ap (λ x. x * 2 ^ q) (bit_at-pow_other r q (λ e. omega arith)))

-- no member of one of two sets apart is one of the other
never_both : (a b r : ℕ) → Apart a b → member a r ≡ true → member b r ≡ true → ⊥
never_both a b r apart e k =
    omega (arith, eqb-true (a / 2 ^ r % 2) 1 e, eqb-true (b / 2 ^ r % 2) 1 k, bit_at_and a b r, ap (λ x. bit_at x r) apart, bit_at-zero r)

pub not_both : (a b r : ℕ) → Apart a b → member a r ≡ true → member b r ≡ false
not_both a b r apart e =
    elim (member b r) as (λ x. member b r ≡ x → x ≡ false) [ false ↦ λ _. refl | true ↦ λ k. absurd (never_both a b r apart e k) ] refl
