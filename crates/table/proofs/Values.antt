-- The value of the digits that a text begins with, step by step.
use Rattle.std.proofs.Common.{◌≡◌, ℕ, suc, ◌+◌, ◌-◌, ◌*◌, ◌≤◌, min, List, [], ◌∷◌, length, get_or, drop, sym, ap, ◌∙◌, ⊎_elim, arith}
use Rattle.std.proofs.lemmas.Bool.{cond-true, cond-false, cond_both, cases_lt}
use Rattle.std.proofs.lemmas.List.{drop_more, drop_all, length-drop}
use Rattle.table.specs.Byte.{is_digit}
use Rattle.table.specs.Number.{digit_run, decimal_from, behind, NoDigit, IsDigit}

pub run_more : (xs : List ℕ) (i d : ℕ) → IsDigit xs i d → digit_run (drop i xs) ≡ get_or xs i 0 ∷ digit_run (drop (i + 1) xs)
run_more xs i d h = ap digit_run (drop_more xs i 0 h.within) ∙ cond-true _ _ _ h.here

pub run_none : (xs : List ℕ) (i : ℕ) → NoDigit xs i → digit_run (drop i xs) ≡ []
run_none xs i h =
    ⊎_elim (λ lt. ap digit_run (drop_more xs i 0 lt) ∙ cond-false _ _ _ h) (λ past. ap digit_run (drop_all i xs past)) (cases_lt i (length xs))

grows : (a : ℕ) (ds : List ℕ) → a ≤ decimal_from a ds
grows a [] = omega arith
grows a (b ∷ ds) = omega (arith, grows (a * 10 + (b - 48)) ds)

-- a value past the limit stays past it
capped : (m a : ℕ) (ds : List ℕ) → min m (decimal_from (min m a) ds) ≡ min m (decimal_from a ds)
capped m a ds =
    ⊎_elim (λ lt. ap (λ x. min m (decimal_from x ds)) (let e : min m a ≡ a = omega arith in e))
    (λ past. omega (arith, grows a ds, grows (min m a) ds)) (cases_lt a m)

pub value_more : (xs : List ℕ) (i d v : ℕ) → IsDigit xs i d → min 1048577 (decimal_from (min 1048577 (v * 10 + d)) (digit_run (drop (i + 1) xs))) ≡ min 1048577 (decimal_from v (digit_run (drop i xs)))
value_more xs i d v h =
    capped 1048577 (v * 10 + d) (digit_run (drop (i + 1) xs))
    ∙ ap (λ x. min 1048577 (decimal_from (v * 10 + x) (digit_run (drop (i + 1) xs)))) h.value
    ∙ ap (λ x. min 1048577 (decimal_from v x)) (sym (run_more xs i d h))

-- the digits that a text begins with are a part of it
pub run_short : (t : List ℕ) → length (digit_run t) ≤ length t
run_short [] = omega arith
run_short (b ∷ t) = cond_both (is_digit b) _ _ (λ l. length l ≤ suc (length t)) (λ _. omega (arith, run_short t)) (λ _. omega arith)

pub behind_bound : (n p : ℕ) (xs : List ℕ) → p ≤ n → length xs ≤ n → behind p xs ≤ n
behind_bound n p xs h k = omega (arith, run_short (drop p xs), length-drop p xs)
