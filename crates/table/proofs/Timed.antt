-- Where each number of a line may stand: the rules on the three times and on the lengths of sections.
use Rattle.std.proofs.Common.{◌≡◌, ℕ, ◌+◌, ◌<◌, ◌≤◌, cond, ◌&&◌, leb, List, [], ◌∷◌, Some, None, Option, unwrap_or, sym, refl, ap, ◌∙◌, subst, inl, inr, ⊎_elim, arith}
use Rattle.std.proofs.lemmas.Bool.{leb-true, leb-false, and_parts, and_cases}
use Rattle.table.specs.declared.line.Item.{Item}
use Rattle.table.specs.declared.refusal.Rule.TheVariants.{Number, Times, Length}
use Rattle.table.specs.declared.records.Counts.{Counts}
use Rattle.table.specs.Nest.{top}
use Rattle.table.specs.Number.{ticks_of}
use Rattle.table.specs.Head.{head_of, line_items}
use Rattle.table.specs.Rule.{times_fault, length_fault}
use Rattle.table.specs.Grammar.{Letter, Byte, Numeral, Sections, none, section, Line, render}
use Rattle.table.specs.Breach.{value, Fair, Unfair, Own, own, Spot, spots, count, limit, Any, Breaks, Good, deadline_place, period_place, cost_place, sections_place}
use Rattle.table.proofs.Parsed.{read, cases_fair, fair_ticks, head_deadline, head_period, head_cost}
use Rattle.table.proofs.Spotted.{letter_items, forest_items, letters_at, inside_at, after_at, inside_is, items_line}
use Rattle.table.proofs.Exact.{Exact, exact_test, exact_start, else_cond}
use Rattle.table.proofs.Placed.{Throughout, Walk, walked_line}

-- each number of these sections may stand
abbrev pub FairAll : Sections → Type 0
FairAll f = Throughout Fair f

pub record AllFair (l : Line) : Type 0 where
  pub deadline : Fair l.deadline
  pub period : Fair l.period
  pub cost : Fair l.cost
  pub sections : FairAll l.sections

fair_unless : (n : Numeral) → ((Fair n → ⊥) → ⊥) → Fair n
fair_unless n h = ⊎_elim (λ k. k.0) (λ k. absurd (h k.0)) (cases_fair n)

abbrev UnfairIn : ℕ → ℕ → List Spot → Type 0
UnfairIn q k ss = Any (λ j s. Unfair s.place s.own.number q) k ss

fair_forest : (f : Sections) (around : List Own) (p k : ℕ) (rest : List Spot) → ((q : ℕ) → UnfairIn q k (spots around p f rest) → ⊥) → FairAll f × ((q : ℕ) → UnfairIn q (k + count f) rest → ⊥)
fair_forest none around p k rest h = (tt, λ q. subst (λ j. UnfairIn q j rest → ⊥) (let e : k ≡ k + 0 = omega arith in e) (h q))
fair_forest (section n ls f g) around p k rest h =
    let here = fair_unless n (λ u. h (p + 1) (inl (refl, u))) in
    let inside = fair_forest f (own n ls ∷ around) (inside_at p n ls) (k + 1) (spots around (after_at p n ls f) g rest) (λ q x. h q (inr x)) in
    let after = fair_forest g around (after_at p n ls f) (k + 1 + count f) rest inside.1 in
    ((here, (inside.0, after.0)), λ q. subst (λ j. UnfairIn q j rest → ⊥) (let e : k + 1 + count f + count g ≡ k + (1 + count f + count g) = omega arith in e) (after.1 q))

pub fair_if : (room before : Counts) (l : Line) → ((p : ℕ) → Breaks room before l Number p → ⊥) → AllFair l
fair_if room before l h = record {
  deadline = fair_unless l.deadline (λ u. h (deadline_place l) (inl (refl, u)));
  period = fair_unless l.period (λ u. h (period_place l) (inr (inl (refl, u))));
  cost = fair_unless l.cost (λ u. h (cost_place l) (inr (inr (inl (refl, u)))));
  sections = (fair_forest l.sections [] (sections_place l) 0 [] (λ q x. h q (inr (inr (inr x))))).0;
}

pub all_fair : (room before : Counts) (l : Line) → Good room before l → AllFair l
all_fair room before l h = fair_if room before l (h Number)

past_letters : (cost : ℕ) (lengths : List ℕ) (p : ℕ) (ls : List (Byte Letter)) (is : List Item) → length_fault cost lengths (letter_items p ls is) ≡ length_fault cost lengths is
past_letters cost lengths p [] is = refl
past_letters cost lengths p (l ∷ ls) is = past_letters cost lengths (p + 2) ls is

abbrev lengths_of : List Own → List ℕ
lengths_of [] = []
lengths_of (o ∷ os) = value o.number ∷ lengths_of os

limit_is : (cost : ℕ) (around : List Own) → unwrap_or (top (lengths_of around)) cost ≡ limit cost around
limit_is cost [] = refl
limit_is cost (o ∷ os) = refl

lengths_walk : (cost : ℕ) → Walk (λ k s q. (s.place ≡ q) × (limit cost s.around < value s.own.number)) (λ around k is. length_fault cost (lengths_of around) is) (λ around k p n ls. cond (leb (value n) (limit cost around)) None (Some (p + 1))) Fair
lengths_walk cost = record {
  ended = λ k. refl;
  opened = λ around k p n ls is fair.
      let r = read (p + 1) n in
      let lengths = lengths_of around in
      let before = letter_items (letters_at p n) ls is in
      ap (λ t. cond (leb t (unwrap_or (top lengths) cost)) (length_fault cost (t ∷ lengths) before) (Some (p + 1))) (fair_ticks (p + 1) n fair)
      ∙ ap (λ m. cond (leb (value n) m) (length_fault cost (value n ∷ lengths) before) (Some (p + 1))) (limit_is cost around)
      ∙ ap (λ x. cond (leb (value n) (limit cost around)) x (Some (p + 1))) (past_letters cost (value n ∷ lengths) (letters_at p n) ls is)
      ∙ else_cond (leb (value n) (limit cost around)) (p + 1) _;
  closed = λ around k o is. refl;
  exact = λ around k p n ls fair.
      exact_test (leb (value n) (limit cost around)) (p + 1) (limit cost around < value n) (λ e x. omega (arith, leb-true (value n) (limit cost around) e))
      (λ e. leb-false (value n) (limit cost around) e);
  low = λ k s q x. omega (arith, x.0);
  high = λ around k p n ls q x. omega (arith, x.0, inside_is p n ls);
}

-- what the code reads is what is written
module _ (l : Line) (fair : AllFair l) where
  pub ticks_deadline : ticks_of (head_of (render l)).deadline ≡ value l.deadline
  ticks_deadline = ap ticks_of (head_deadline l) ∙ fair_ticks (deadline_place l) l.deadline fair.deadline

  pub ticks_period : ticks_of (head_of (render l)).period ≡ value l.period
  ticks_period = ap ticks_of (head_period l) ∙ fair_ticks (period_place l) l.period fair.period

  pub ticks_cost : ticks_of (head_of (render l)).cost ≡ value l.cost
  ticks_cost = ap ticks_of (head_cost l) ∙ fair_ticks (cost_place l) l.cost fair.cost

module _ (room before : Counts) (l : Line) (fair : AllFair l) where
  pub exact_times : Exact (Breaks room before l Times) (times_fault (head_of (render l)))
  exact_times =
      let h = head_of (render l) in
      let c = value l.cost in
      let d = value l.deadline in
      let t = value l.period in
      let answer : ℕ → ℕ → ℕ → Option ℕ = λ x y z. cond (leb x y && leb y z) None (Some 0) in
      let same : times_fault h ≡ answer c d t =
      ap (λ x. answer x (ticks_of h.deadline) (ticks_of h.period)) (ticks_cost l fair) ∙ ap (λ y. answer c y (ticks_of h.period)) (ticks_deadline l fair)
      ∙ ap (answer c d) (ticks_period l fair) in
      subst (Exact (Breaks room before l Times)) (sym same)
      (exact_start (leb c d && leb d t) ((c ≤ d) × (d ≤ t) → ⊥)
      (λ e x. let both = and_parts (leb c d) (leb d t) e in x (leb-true c d both.0, leb-true d t both.1))
      (λ e x. ⊎_elim (λ z. omega (arith, leb-false c d z, x.0)) (λ z. omega (arith, leb-false d t z, x.1)) (and_cases (leb c d) (leb d t) e)))

  pub exact_lengths : Exact (Breaks room before l Length) (length_fault (ticks_of (head_of (render l)).cost) [] (line_items (render l)))
  exact_lengths =
      let same : length_fault (ticks_of (head_of (render l)).cost) [] (line_items (render l)) ≡ length_fault (value l.cost) [] (forest_items (sections_place l) l.sections []) =
      ap (λ c. length_fault c [] (line_items (render l))) (ticks_cost l fair) ∙ ap (length_fault (value l.cost) []) (items_line l) in
      subst (Exact (Breaks room before l Length)) (sym same)
      (walked_line _ _ _ _ (lengths_walk (value l.cost)) l.sections fair.sections (sections_place l) 0)
