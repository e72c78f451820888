-- The rule on letters: the fault that is found in a written line is its earliest.
use Rattle.std.proofs.Common.{◌≡◌, ℕ, ◌+◌, ◌*◌, ◌^◌, ◌≤◌, cond, eqb, List, [], ◌∷◌, ◌++◌, length, Some, None, Option, sym, refl, ap, ◌∙◌, subst, inl, inr, ⊎_elim, arith}
use lib.Bits.{bit_and, bit_or}
use Rattle.std.specs.Int.{bit_at}
use Rattle.std.proofs.Math.Nat.{zero-mul, one-mul}
use Rattle.std.proofs.lemmas.Nat.{pow_pos}
use Rattle.std.proofs.lemmas.Nat.Bits.{bit_at-lt, bit_at-zero, bit_at-pow_same, bit_at-pow_other, bit_at_or, and_pow}
use Rattle.std.proofs.lemmas.Bool.{cases_eq, eqb-true, eqb-false}
use Rattle.table.specs.declared.line.Item.{Item}
use Rattle.table.specs.declared.refusal.Rule.TheVariants.{Repeated}
use Rattle.table.specs.declared.records.Counts.{Counts}
use Rattle.table.specs.Head.{line_items}
use Rattle.table.specs.Rule.{or_else, named, repeat_fault}
use Rattle.table.specs.Grammar.{Letter, Byte, Line, render}
use Rattle.table.specs.Breach.{resource, Own, letters_place, letters_of, Names, Repeats, Breaks, sections_place}
use Rattle.table.proofs.Spotted.{letter_items, letters_at, inside_is, items_line}
use Rattle.table.proofs.Exact.{Exact, exact_both, exact_test, else_cond, else_assoc}
use Rattle.table.proofs.Placed.{Walk, any_number, walked_line}

-- a set of one has no other
only : (r r' : ℕ) → bit_at (2 ^ r') r ≡ 1 → r' ≡ r
only r r' e = ⊎_elim (λ same. sym same) (λ other. absurd (let none = bit_at-pow_other r' r other in omega arith)) (cases_eq r r')

-- what meets a set of one has that one
has_none : (s r : ℕ) → bit_and s (2 ^ r) ≡ 0 → bit_at s r ≡ 0
has_none s r e =
    ⊎_elim (λ one. absurd (let full = sym (and_pow s r ∙ ap (λ b. b * 2 ^ r) one ∙ one-mul (2 ^ r)) ∙ e in omega (arith, pow_pos r)))
    (λ other. omega (arith, bit_at-lt s r)) (cases_eq (bit_at s r) 1)

none_has : (s r : ℕ) → bit_at s r ≡ 0 → bit_and s (2 ^ r) ≡ 0
none_has s r e = and_pow s r ∙ ap (λ b. b * 2 ^ r) e ∙ zero-mul (2 ^ r)

-- the set has just the resources that these letters name
abbrev Holds : ℕ → List (Byte Letter) → Type 0
Holds s ls = (r : ℕ) → (bit_at s r ≡ 1 → Names ls r) × (Names ls r → bit_at s r ≡ 1)

holds_more : (s : ℕ) (ls : List (Byte Letter)) (l : Byte Letter) → Holds s ls → Holds (bit_or s (2 ^ resource l)) (l ∷ ls)
holds_more s ls l h = λ r.
    let bit = 2 ^ resource l in
    let or = bit_at_or s bit r in
    let d = bit_at-lt s r in
    let d' = bit_at-lt bit r in (
      λ e. ⊎_elim (λ x. inr ((h r).0 x)) (λ x. inl (only r (resource l) (omega arith))) (cases_eq (bit_at s r) 1),
      ⊎_elim (λ e. let self : bit_at bit r ≡ 1 = subst (λ x. bit_at (2 ^ x) r ≡ 1) (sym e) (bit_at-pow_same r) in omega arith) (λ x. omega (arith, (h r).1 x)),
    )

-- a letter among others, or before them
to_front : (ls : List (Byte Letter)) (l : Byte Letter) (before : List (Byte Letter)) (r : ℕ) → Names (ls ++ l ∷ before) r → Names (l ∷ ls ++ before) r
to_front [] l before r h = h
to_front (x ∷ ls) l before r h = ⊎_elim (λ e. inr (inl e)) (λ y. ⊎_elim (λ e. inl e) (λ z. inr (inr z)) (to_front ls l before r y)) h

from_front : (ls : List (Byte Letter)) (l : Byte Letter) (before : List (Byte Letter)) (r : ℕ) → Names (l ∷ ls ++ before) r → Names (ls ++ l ∷ before) r
from_front [] l before r h = h
from_front (x ∷ ls) l before r h = ⊎_elim (λ e. inr (from_front ls l before r (inl e))) (⊎_elim (λ e. inl e) (λ z. inr (from_front ls l before r (inr z)))) h

-- a set with the resources of letters added, as the code adds them
abbrev added : List (Byte Letter) → ℕ → ℕ
added [] s = s
added (l ∷ ls) s = added ls (bit_or s (2 ^ resource l))

holds_added : (ls : List (Byte Letter)) (s : ℕ) (before : List (Byte Letter)) → Holds s before → Holds (added ls s) (ls ++ before)
holds_added [] s before h = h
holds_added (l ∷ ls) s before h = λ r.
    let k = holds_added ls (bit_or s (2 ^ resource l)) (l ∷ before) (holds_more s before l h) in
    (λ e. to_front ls l before r ((k r).0 e), λ x. (k r).1 (from_front ls l before r x))

-- the sets that the code keeps inside these sections
abbrev seen_in : List Own → List ℕ
seen_in [] = []
seen_in (o ∷ os) = added o.letters (named (seen_in os)) ∷ seen_in os

holds_seen : (around : List Own) → Holds (named (seen_in around)) (letters_of around)
holds_seen [] = λ r. (λ e. omega (arith, bit_at-zero r), λ x. absurd x)
holds_seen (o ∷ os) = holds_added o.letters (named (seen_in os)) (letters_of os) (holds_seen os)

-- the first of these letters that names again what the set has
abbrev letter_fault : ℕ → ℕ → List (Byte Letter) → Option ℕ
letter_fault s q [] = None
letter_fault s q (l ∷ ls) = or_else (cond (eqb (bit_and s (2 ^ resource l)) 0) None (Some q)) (letter_fault (bit_or s (2 ^ resource l)) (q + 2) ls)

through_letters : (s : ℕ) (seen : List ℕ) (q : ℕ) (ls : List (Byte Letter)) (is : List Item) → repeat_fault (s ∷ seen) (letter_items q ls is) ≡ or_else (letter_fault s q ls) (repeat_fault (added ls s ∷ seen) is)
through_letters s seen q [] is = refl
through_letters s seen q (l ∷ ls) is =
    let b = eqb (bit_and s (2 ^ resource l)) 0 in
    let more = bit_or s (2 ^ resource l) in
    ap (λ x. cond b x (Some q)) (through_letters more seen (q + 2) ls is) ∙ else_cond b q _
    ∙ sym (else_assoc (cond b None (Some q)) (letter_fault more (q + 2) ls) (repeat_fault (added ls more ∷ seen) is))

repeats_within : (before : List (Byte Letter)) (q : ℕ) (ls : List (Byte Letter)) (p : ℕ) → Repeats before q ls p → (q ≤ p) × (p + 2 ≤ q + 2 * length ls)
repeats_within before q [] p h = absurd h
repeats_within before q (l ∷ ls) p h =
    ⊎_elim (λ x. let e : q ≡ p = x.0 in (omega arith, omega arith))
    (λ x. let k = repeats_within (l ∷ before) (q + 2) ls p x in (omega (arith, k.0), omega (arith, k.1))) h

exact_letters : (before : List (Byte Letter)) (s q : ℕ) (ls : List (Byte Letter)) → Holds s before → Exact (Repeats before q ls) (letter_fault s q ls)
exact_letters before s q [] h = λ p x. x
exact_letters before s q (l ∷ ls) h =
    let r = resource l in
    let meet = bit_and s (2 ^ r) in
    exact_both (λ p. (q ≡ p) × Names before r) (Repeats (l ∷ before) (q + 2) ls) (cond (eqb meet 0) None (Some q)) (letter_fault (bit_or s (2 ^ r)) (q + 2) ls)
    (exact_test (eqb meet 0) q (Names before r) (λ e x. omega (arith, has_none s r (eqb-true meet 0 e), (h r).1 x))
    (λ e. (h r).0 (⊎_elim (λ x. x) (λ x. absurd (eqb-false meet 0 e (none_has s r (omega (arith, bit_at-lt s r))))) (cases_eq (bit_at s r) 1))))
    (exact_letters (l ∷ before) (bit_or s (2 ^ r)) (q + 2) ls (holds_more s before l h))
    (λ p p' x y. omega (arith, x.0, (repeats_within (l ∷ before) (q + 2) ls p' y).0))

repeats_walk : Walk (λ k s q. Repeats (letters_of s.around) (letters_place s) s.own.letters q) (λ around k is. repeat_fault (seen_in around) is) (λ around k p n ls. letter_fault (named (seen_in around)) (letters_at p n) ls) (λ n. Unit {0})
repeats_walk = record {
  ended = λ k. refl;
  opened = λ around k p n ls is each. through_letters (named (seen_in around)) (seen_in around) (letters_at p n) ls is;
  closed = λ around k o is. refl;
  exact = λ around k p n ls each. exact_letters (letters_of around) (named (seen_in around)) (letters_at p n) ls (holds_seen around);
  low = λ k s q x. omega (arith, (repeats_within (letters_of s.around) (letters_place s) s.own.letters q x).0);
  high = λ around k p n ls q x. omega (arith, (repeats_within (letters_of around) (letters_at p n) ls q x).1, inside_is p n ls);
}

pub exact_repeated : (room before : Counts) (l : Line) → Exact (Breaks room before l Repeated) (repeat_fault [] (line_items (render l)))
exact_repeated room before l =
    subst (λ is. Exact (Breaks room before l Repeated) (repeat_fault [] is)) (sym (items_line l))
    (walked_line _ _ _ _ repeats_walk l.sections (any_number l.sections) (sections_place l) 0)
