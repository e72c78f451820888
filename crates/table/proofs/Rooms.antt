-- What is known of a line's sections where each of them finds its room.
use Rattle.std.proofs.Common.{◌≡◌, ℕ, ◌+◌, ◌-◌, ◌≤◌, max, Bool, true, false, cond, ◌&&◌, ltb, List, [], ◌∷◌, Some, None, Option, refl, arith}
use Rattle.std.proofs.lemmas.Bool.{and_parts, and_from, ltb-true}
use Rattle.table.specs.declared.line.Item.{Item}
use Rattle.table.specs.declared.line.Item.TheVariants.{Open, Named, Close}
use Rattle.table.specs.Rule.{section_fault, opens, shallow}

-- a test that had to come out true, since otherwise there were a fault
no_fault : (b : Bool) (x : Option ℕ) (p : ℕ) → cond b x (Some p) ≡ None → (b ≡ true) × (x ≡ None)
no_fault true x p e = (refl, e)
no_fault false x p e = let z : ◌≡◌ {A = ℕ} 0 1 = cc in absurd (omega arith)

pub shallow_if : (room before depth : ℕ) (is : List Item) → section_fault room before depth is ≡ None → shallow depth is ≡ true
shallow_if room before depth [] e = refl
shallow_if room before depth (Open n ∷ is) e =
    let p = no_fault (ltb before room && ltb depth 8) _ _ e in
    and_from _ _ (and_parts _ _ p.0).1 (shallow_if room (before + 1) (depth + 1) is p.1)
shallow_if room before depth (Named l ∷ is) e = shallow_if room before depth is e
shallow_if room before depth (Close ∷ is) e = shallow_if room before (depth - 1) is e

pub opens_within : (room before depth : ℕ) (is : List Item) → section_fault room before depth is ≡ None → before + opens is ≤ max before room
opens_within room before depth [] e = omega arith
opens_within room before depth (Open n ∷ is) e =
    let p = no_fault (ltb before room && ltb depth 8) _ _ e in
    omega (arith, ltb-true before room (and_parts _ _ p.0).0, opens_within room (before + 1) (depth + 1) is p.1)
opens_within room before depth (Named l ∷ is) e = opens_within room before depth is e
opens_within room before depth (Close ∷ is) e = opens_within room before (depth - 1) is e
