-- A number as it is written in base ten.
use Rattle.std.proofs.Common.{◌≡◌, ℕ, zero, suc, ◌+◌, ◌-◌, ◌*◌, ◌/◌, ◌%◌, ◌^◌, ◌<◌, ◌≤◌, cond, ltb, List, [], ◌∷◌, length, ap, ◌∙◌, pow-suc, arith}
use Rattle.std.proofs.lemmas.Bool.{cond_both, ltb-true, ltb-false}
use Rattle.table.specs.Limits.{largest}
use Rattle.table.specs.Number.{decimal_from, decimal}
use Rattle.table.specs.Grammar.{Digit, Byte, Numeral, bytes, numeral}
use Rattle.table.specs.Breach.{value, Fair}

-- the last digit of a number
abbrev digit : ℕ → Byte Digit
digit v = record { byte = 48 + v % 10; is = (omega arith, omega arith) }

-- a number's digits, at most so many more than one, before others
abbrev put : ℕ → ℕ → List (Byte Digit) → Numeral
put zero v more = record { first = digit v; more = more }
put (suc f) v more = cond (ltb v 10) (record { first = digit v; more = more }) (put f (v / 10) (digit v ∷ more))

-- a number written well: before some digits it comes to so much, with no zero first
record Written (v : ℕ) (more : List (Byte Digit)) (n : Numeral) : Type 0 where
  value : decimal (numeral n []) ≡ decimal_from v (bytes more [])
  lead : n.first.byte ≡ 48 → ⊥

written_one : (v : ℕ) (more : List (Byte Digit)) → 1 ≤ v → v < 10 → Written v more (record { first = digit v; more = more })
written_one v more some small = record {
  value = ap (λ x. decimal_from x (bytes more [])) (let e : 0 * 10 + (48 + v % 10 - 48) ≡ v = omega arith in e);
  lead = λ e. omega arith;
}

written_more : (v : ℕ) (more : List (Byte Digit)) (n : Numeral) → Written (v / 10) (digit v ∷ more) n → Written v more n
written_more v more n w = record {
  value = w.value ∙ ap (λ x. decimal_from x (bytes more [])) (let e : v / 10 * 10 + (48 + v % 10 - 48) ≡ v = omega arith in e);
  lead = w.lead;
}

written : (f v : ℕ) (more : List (Byte Digit)) → 1 ≤ v → v < 10 ^ suc f → Written v more (put f v more)
written zero v more some small = written_one v more some (omega (arith, pow-suc 10 zero))
written (suc f) v more some small =
    cond_both (ltb v 10) (record { first = digit v; more = more }) (put f (v / 10) (digit v ∷ more)) (Written v more)
    (λ e. written_one v more some (ltb-true v 10 e))
    (λ e. let high = ltb-false v 10 e in
    written_more v more (put f (v / 10) (digit v ∷ more)) (written f (v / 10) (digit v ∷ more) (omega arith) (omega (arith, pow-suc 10 (suc f)))))

-- it has few digits behind its first
put_short : (f v : ℕ) (more : List (Byte Digit)) → length (put f v more).more ≤ f + length more
put_short zero v more = omega arith
put_short (suc f) v more =
    cond_both (ltb v 10) (record { first = digit v; more = more }) (put f (v / 10) (digit v ∷ more)) (λ n. length n.more ≤ suc f + length more)
    (λ _. omega arith) (λ _. omega (arith, put_short f (v / 10) (digit v ∷ more)))

-- a number of a table
unfoldable pub numeral_of : ℕ → Numeral
numeral_of v = put 6 v []

module _ (v : ℕ) (some : 1 ≤ v) (high : v ≤ largest) where
  whole : Written v [] (put 6 v [])
  whole = written 6 v [] some (omega arith)

  pub numeral_value : value (numeral_of v) ≡ v
  unfolding numeral_of
  numeral_value = whole.value

  pub numeral_fair : Fair (numeral_of v)
  unfolding numeral_of
  numeral_fair = (whole.lead, omega (arith, whole.value))

pub numeral_short : (v : ℕ) → length (numeral_of v).more ≤ 6
unfolding numeral_of
numeral_short v = omega (arith, put_short 6 v [])
