-- The rule on numbers: the fault that is found in a written line is its earliest.
use Rattle.std.proofs.Common.{◌≡◌, ℕ, ◌+◌, ◌<◌, ◌≤◌, ◌⊎◌, List, [], ◌∷◌, Option, sym, refl, ap, ◌∙◌, subst, ⊎_elim, arith}
use Rattle.table.specs.declared.line.Item.{Item}
use Rattle.table.specs.declared.refusal.Rule.TheVariants.{Number}
use Rattle.table.specs.declared.records.Counts.{Counts}
use Rattle.table.specs.Head.{head_of, line_items}
use Rattle.table.specs.Rule.{or_else, unreadable, head_fault, number_fault}
use Rattle.table.specs.Grammar.{Letter, Byte, Numeral, Line, render}
use Rattle.table.specs.Breach.{Unfair, line_spots, Any, Breaks, deadline_place, period_place, cost_place, sections_place}
use Rattle.table.proofs.Parsed.{read, cases_fair, head_deadline, head_period, head_cost}
use Rattle.table.proofs.Spotted.{letter_items, forest_items, inside_is, items_line}
use Rattle.table.proofs.Exact.{Exact, exact_both, else_assoc}
use Rattle.table.proofs.Placed.{Beyond, spots_beyond, any_beyond, Walk, any_number, walked_line}

exact_numeral : (p : ℕ) (n : Numeral) → Exact (Unfair p n) (unreadable (read p n))
exact_numeral p n =
    let answer : Option ℕ → Option ℕ = λ v. unreadable (record { place = p; value = v }) in
    ⊎_elim (λ k. subst (Exact (Unfair p n)) (sym (ap answer k.1)) (λ q x. x.1 k.0))
    (λ k. subst (Exact (Unfair p n)) (sym (ap answer k.1)) ((refl, k.0), λ q lt x. let e : p ≡ q = x.0 in omega arith)) (cases_fair n)

past_letters : (p : ℕ) (ls : List (Byte Letter)) (is : List Item) → number_fault (letter_items p ls is) ≡ number_fault is
past_letters p [] is = refl
past_letters p (l ∷ ls) is = past_letters (p + 2) ls is

numbers_walk : Walk (λ k s q. Unfair s.place s.own.number q) (λ around k is. number_fault is) (λ around k p n ls. unreadable (read (p + 1) n)) (λ n. Unit {0})
numbers_walk = record {
  ended = λ k. refl;
  opened = λ around k p n ls is each. ap (or_else (unreadable (read (p + 1) n))) (past_letters _ ls is);
  closed = λ around k o is. refl;
  exact = λ around k p n ls each. exact_numeral (p + 1) n;
  low = λ k s q x. omega (arith, x.0);
  high = λ around k p n ls q x. omega (arith, x.0, inside_is p n ls);
}

-- a number of a section stands at q that may not
abbrev UnfairInside : Line → ℕ → Type 0
UnfairInside l q = Any (λ k s. Unfair s.place s.own.number q) 0 (line_spots l)

pub exact_number : (room before : Counts) (l : Line) → Exact (Breaks room before l Number) (or_else (head_fault (head_of (render l))) (number_fault (line_items (render l))))
exact_number room before l =
    let h = head_of (render l) in
    let n = number_fault (line_items (render l)) in
    let d = unreadable (read (deadline_place l) l.deadline) in
    let t = unreadable (read (period_place l) l.period) in
    let c = unreadable (read (cost_place l) l.cost) in
    let found : or_else (head_fault h) n ≡ or_else d (or_else t (or_else c (number_fault (forest_items (sections_place l) l.sections [])))) =
    ap (λ x. or_else (or_else (unreadable x) (or_else (unreadable h.period) (unreadable h.cost))) n) (head_deadline l)
    ∙ ap (λ x. or_else (or_else d (or_else (unreadable x) (unreadable h.cost))) n) (head_period l)
    ∙ ap (λ x. or_else (or_else d (or_else t (unreadable x))) n) (head_cost l)
    ∙ ap (λ is. or_else (or_else d (or_else t c)) (number_fault is)) (items_line l)
    ∙ else_assoc d (or_else t c) _ ∙ ap (or_else d) (else_assoc t c _) in
    let behind : Beyond (sections_place l) (line_spots l) = spots_beyond (sections_place l) [] (sections_place l) l.sections [] (omega arith) tt in
    let S : ℕ → Type 0 = UnfairInside l in
    let in-sections : (q : ℕ) → S q → sections_place l < q = λ q. any_beyond _ (sections_place l) q 0 (line_spots l) (λ k s x. omega (arith, x.0)) behind in
    let D : ℕ → Type 0 = Unfair (deadline_place l) l.deadline in
    let T : ℕ → Type 0 = Unfair (period_place l) l.period in
    let C : ℕ → Type 0 = Unfair (cost_place l) l.cost in
    let from-c : (q : ℕ) → C q ⊎ S q → cost_place l ≤ q = λ q. ⊎_elim (λ x. omega (arith, x.0)) (λ x. omega (arith, in-sections q x)) in
    let from-t : (q : ℕ) → T q ⊎ (C q ⊎ S q) → period_place l ≤ q = λ q. ⊎_elim (λ x. omega (arith, x.0)) (λ x. omega (arith, from-c q x)) in
    let e-n : Exact S (number_fault (forest_items (sections_place l) l.sections [])) = walked_line _ _ _ _ numbers_walk l.sections (any_number l.sections) (sections_place l) 0 in
    let e-c : Exact (λ q. C q ⊎ S q) (or_else c (number_fault (forest_items (sections_place l) l.sections []))) =
    exact_both C S c _ (exact_numeral (cost_place l) l.cost) e-n (λ p q x y. omega (arith, x.0, in-sections q y)) in
    let e-t = exact_both T (λ q. C q ⊎ S q) t _ (exact_numeral (period_place l) l.period) e-c (λ p q x y. omega (arith, x.0, from-c q y)) in
    subst (Exact (Breaks room before l Number)) (sym found)
    (exact_both D (λ q. T q ⊎ (C q ⊎ S q)) d _ (exact_numeral (deadline_place l) l.deadline) e-t (λ p q x y. omega (arith, x.0, from-t q y)))
