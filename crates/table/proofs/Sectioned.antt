-- The rule on the room for sections: the fault that is found in a written line is its earliest, and its sections are counted.
use Rattle.std.proofs.Common.{◌≡◌, ℕ, ◌+◌, ◌≤◌, cond, ◌&&◌, ltb, ◌⊎◌, List, [], ◌∷◌, length, Some, None, sym, refl, ap, ◌∙◌, subst, inl, inr, ⊎_elim, add-one, arith}
use Rattle.std.proofs.lemmas.Bool.{ltb-true, ltb-false, and_parts, and_cases}
use Rattle.table.specs.declared.line.Item.{Item}
use Rattle.table.specs.declared.line.Item.TheVariants.{Close}
use Rattle.table.specs.declared.refusal.Rule.TheVariants.{Sections as Room}
use Rattle.table.specs.declared.records.Counts.{Counts}
use Rattle.table.specs.Limits.{deepest}
use Rattle.table.specs.Head.{line_items}
use Rattle.table.specs.Rule.{section_fault, opens}
use Rattle.table.specs.Grammar.{Letter, Byte, Sections, none, section, Line, render}
use Rattle.table.specs.Breach.{count, Breaks, sections_place}
use Rattle.table.proofs.Spotted.{letter_items, forest_items, letters_at, inside_at, after_at, inside_is, items_line}
use Rattle.table.proofs.Exact.{Exact, exact_test, else_cond}
use Rattle.table.proofs.Placed.{Walk, any_number, walked_line}

count_letters : (p : ℕ) (ls : List (Byte Letter)) (is : List Item) → opens (letter_items p ls is) ≡ opens is
count_letters p [] is = refl
count_letters p (l ∷ ls) is = count_letters (p + 2) ls is

count_forest : (p : ℕ) (f : Sections) (is : List Item) → opens (forest_items p f is) ≡ count f + opens is
count_forest p none is = omega arith
count_forest p (section n ls f g) is =
    let others = forest_items (after_at p n ls f) g is in
    omega (
      arith,
      count_letters (letters_at p n) ls (forest_items (inside_at p n ls) f (Close ∷ others)),
      count_forest (inside_at p n ls) f (Close ∷ others),
      count_forest (after_at p n ls f) g is,
    )

pub opens_line : (l : Line) → opens (line_items (render l)) ≡ count l.sections
opens_line l = ap opens (items_line l) ∙ (let e : opens (forest_items (sections_place l) l.sections []) ≡ count l.sections = omega (arith, count_forest (sections_place l) l.sections []) in e)

past_letters : (room k d p : ℕ) (ls : List (Byte Letter)) (is : List Item) → section_fault room k d (letter_items p ls is) ≡ section_fault room k d is
past_letters room k d p [] is = refl
past_letters room k d p (l ∷ ls) is = past_letters room k d (p + 2) ls is

sections_walk : (room : ℕ) → Walk (λ k s q. (s.place ≡ q) × ((room ≤ k) ⊎ (deepest ≤ length s.around))) (λ around k is. section_fault room k (length around) is) (λ around k p n ls. cond (ltb k room && ltb (length around) deepest) None (Some (p + 1))) (λ n. Unit {0})
sections_walk room = record {
  ended = λ k. refl;
  opened = λ around k p n ls is each.
      let b = ltb k room && ltb (length around) deepest in
      let inside = past_letters room (k + 1) (length around + 1) _ ls is ∙ ap (λ d. section_fault room (k + 1) d is) (add-one (length around)) in
      ap (λ x. cond b x (Some (p + 1))) inside ∙ else_cond b (p + 1) _;
  closed = λ around k o is. ap (λ d. section_fault room k d is) (omega arith);
  exact = λ around k p n ls each.
      let d = length around in
      exact_test (ltb k room && ltb d deepest) (p + 1) ((room ≤ k) ⊎ (deepest ≤ d))
      (λ e. let both = and_parts (ltb k room) (ltb d deepest) e in
      ⊎_elim (λ x. omega (arith, ltb-true k room both.0)) (λ x. omega (arith, ltb-true d deepest both.1)))
      (λ e. ⊎_elim (λ x. inl (ltb-false k room x)) (λ x. inr (ltb-false d deepest x)) (and_cases (ltb k room) (ltb d deepest) e));
  low = λ k s q x. omega (arith, x.0);
  high = λ around k p n ls q x. omega (arith, x.0, inside_is p n ls);
}

pub exact_sections : (room before : Counts) (l : Line) → Exact (Breaks room before l Room) (section_fault room.sections before.sections 0 (line_items (render l)))
exact_sections room before l =
    subst (λ is. Exact (Breaks room before l Room) (section_fault room.sections before.sections 0 is)) (sym (items_line l))
    (walked_line _ _ _ _ (sections_walk room.sections) l.sections (any_number l.sections) (sections_place l) before.sections)
