-- What a line's items are, whatever the line says: a number that keeps its rule is at least 1, and a letter is one of 26.
use Rattle.std.proofs.Common.{◌≡◌, ℕ, ◌+◌, ◌-◌, ◌*◌, ◌^◌, ◌<◌, ◌≤◌, Bool, true, false, eqb, leb, List, [], ◌∷◌, get_or, drop, Some, None, Option, arith}
use Rattle.std.specs.List.{AllByRecursion}
use Rattle.std.proofs.lemmas.Bool.{and_parts, cond_both, ltb-true, leb-true}
use Rattle.std.proofs.lemmas.Nat.{pow_below}
use Rattle.table.specs.declared.line.Numeral.{Numeral}
use Rattle.table.specs.declared.line.Item.{Item}
use Rattle.table.specs.declared.line.Item.TheVariants.{Open, Named, Close}
use Rattle.table.specs.Limits.{largest}
use Rattle.table.specs.Byte.{is_digit, is_small, is_capital}
use Rattle.table.specs.Number.{digit_run, decimal_from, decimal, allowed, value_of, ticks_of}
use Rattle.table.specs.Item.{mark_at, joined, items}
use Rattle.table.specs.Head.{line_items, body_at}
use Rattle.table.specs.Rule.{unreadable}

-- a value, where there is one, is 1 to 1,048,576
abbrev pub Ranged : Option ℕ → Type 0
Ranged None = Unit {0}
Ranged (Some v) = (1 ≤ v) × (v ≤ largest)

grows : (a : ℕ) (ds : List ℕ) → a ≤ decimal_from a ds
grows a [] = omega arith
grows a (d ∷ ds) = omega (arith, grows (a * 10 + (d - 48)) ds)

-- digits with no zero first
leads : (ds : List ℕ) → 48 < get_or ds 0 0 → 1 ≤ decimal ds
leads [] h = omega arith
leads (d ∷ ds) h = omega (arith, grows (0 * 10 + (d - 48)) ds)

pub ranged_value : (ds : List ℕ) → Ranged (value_of ds)
ranged_value ds =
    cond_both (allowed ds) (Some (decimal ds)) None Ranged
    (λ e. let p = and_parts _ _ e in (leads ds (ltb-true _ _ p.0), leb-true _ _ p.1)) (λ _. tt)

-- a number that is readable has its ticks in range
pub ranged_ticks : (n : Numeral) → Ranged n.value → unreadable n ≡ None → (1 ≤ ticks_of n) × (ticks_of n ≤ largest)
ranged_ticks n r e = by_value n.value r e
  where
    by_value : (o : Option ℕ) → Ranged o → unreadable (record { place = n.place; value = o }) ≡ None → (1 ≤ ticks_of (record { place = 0; value = o })) × (ticks_of (record { place = 0; value = o }) ≤ largest)
    by_value None h k = let z : ◌≡◌ {A = ℕ} 0 1 = cc in absurd (omega arith)
    by_value (Some v) h k = h

abbrev pub Fine : Item → Type 0
Fine (Open n) = Ranged n.value
Fine (Named l) = l.bit < 2 ^ 26
Fine Close = Unit {0}

abbrev FineIf : Option Item → Type 0
FineIf None = Unit {0}
FineIf (Some item) = Fine item

fine_mark : (p b : ℕ) → FineIf (mark_at p b)
fine_mark p b =
    cond_both (is_small b) (Some (Named (record { place = p; bit = 2 ^ (b - 97); capital = false }))) _ FineIf
    (λ e. let q = and_parts (leb 97 b) (leb b 122) e in let high = leb-true b 122 q.1 in pow_below (b - 97) 26 (omega arith))
    (λ _. cond_both (is_capital b) (Some (Named (record { place = p; bit = 2 ^ (b - 65); capital = true }))) _ FineIf
    (λ e. let q = and_parts (leb 65 b) (leb b 90) e in let high = leb-true b 90 q.1 in pow_below (b - 65) 26 (omega arith))
    (λ _. cond_both (eqb b 125) (Some Close) None FineIf (λ _. tt) (λ _. tt)))

fine_joined : (o : Option Item) (is : List Item) → FineIf o → AllByRecursion Fine is → AllByRecursion Fine (joined o is)
fine_joined None is h k = k
fine_joined (Some item) is h k = (h, k)

fine_items : (within : Bool) (p : ℕ) (t : List ℕ) → AllByRecursion Fine (items within p t)
fine_items within p [] = tt
fine_items within p (b ∷ t) =
    cond_both (is_digit b) _ _ (AllByRecursion Fine)
    (λ _. cond_both within _ _ (AllByRecursion Fine) (λ _. fine_items true (p + 1) t) (λ _. (ranged_value (digit_run (b ∷ t)), fine_items true (p + 1) t)))
    (λ _. fine_joined (mark_at p b) (items false (p + 1) t) (fine_mark p b) (fine_items false (p + 1) t))

pub fine_line : (line : List ℕ) → AllByRecursion Fine (line_items line)
fine_line line = fine_items false (body_at line) (drop (body_at line) line)
