-- A walk over the sections of a line: what is found first, in the order of reading, stands at the least place.
use Rattle.std.proofs.Common.{◌≡◌, ℕ, ◌+◌, ◌<◌, ◌≤◌, ◌⊎◌, List, [], ◌∷◌, length, None, Option, sym, subst, ⊎_elim, arith}
use Rattle.std.specs.List.{AllByRecursion}
use Rattle.std.proofs.ByRecursion.{All-weaker}
use Rattle.table.specs.declared.line.Item.{Item}
use Rattle.table.specs.declared.line.Item.TheVariants.{Open, Close}
use Rattle.table.specs.Rule.{or_else}
use Rattle.table.specs.Grammar.{Letter, Byte, Numeral, Sections, none, section, sections_text}
use Rattle.table.specs.Breach.{Own, own, Spot, spots, count, Any}
use Rattle.table.proofs.Parsed.{read}
use Rattle.table.proofs.Spotted.{letter_items, forest_items, letters_at, inside_at, after_at, inside_is, after_is, end_is}
use Rattle.table.proofs.Exact.{Exact, exact_both}

-- each of these sections stands behind a place
abbrev pub Beyond : ℕ → List Spot → Type 0
Beyond low ss = AllByRecursion (λ s. low < s.place) ss

beyond_less : (low high : ℕ) (ss : List Spot) → low ≤ high → Beyond high ss → Beyond low ss
beyond_less low high ss h k = All-weaker (λ s. high < s.place) (λ s. low < s.place) (λ s x. omega arith) ss k

pub spots_beyond : (low : ℕ) (around : List Own) (p : ℕ) (f : Sections) (rest : List Spot) → low ≤ p → Beyond low rest → Beyond low (spots around p f rest)
spots_beyond low around p none rest h k = k
spots_beyond low around p (section n ls f g) rest h k =
    let inside = inside_is p n ls in
    let after = after_is p n ls f in
    let later = spots_beyond low around (after_at p n ls f) g rest (omega arith) k in
    (omega arith, spots_beyond low (own n ls ∷ around) (inside_at p n ls) f (spots around (after_at p n ls f) g rest) (omega arith) later)

pub any_beyond : (P : ℕ → Spot → Type 0) (low q k : ℕ) (ss : List Spot) → ((k : ℕ) (s : Spot) → P k s → s.place ≤ q) → Beyond low ss → Any P k ss → low < q
any_beyond P low q k [] at b h = absurd h
any_beyond P low q k (s ∷ ss) at b h = ⊎_elim (λ x. omega (arith, at k s x, b.0)) (any_beyond P low q (k + 1) ss at b.1) h

-- a section that is written from p on
abbrev pub spot : List Own → ℕ → Numeral → List (Byte Letter) → Spot
spot around p n ls = record { place = p + 1; own = own n ls; around = around }

-- each number of these sections is so
abbrev pub Throughout : (Numeral → Type 0) → Sections → Type 0
Throughout E none = Unit {0}
Throughout E (section n ls f g) = E n × (Throughout E f × Throughout E g)

-- F reads items inside the sections around them, after k sections. Where a section opens, it goes by the section's own fault O, which is
-- exact for P, and then goes on inside.
pub record Walk (P : ℕ → Spot → ℕ → Type 0) (F : List Own → ℕ → List Item → Option ℕ) (O : List Own → ℕ → ℕ → Numeral → List (Byte Letter) → Option ℕ) (E : Numeral → Type 0) : Type 0 where
  pub ended : (k : ℕ) → F [] k [] ≡ None
  pub opened : (around : List Own) (k p : ℕ) (n : Numeral) (ls : List (Byte Letter)) (is : List Item) → E n → F around k (Open (read (p + 1) n) ∷ letter_items (letters_at p n) ls is) ≡ or_else (O around k p n ls) (F (own n ls ∷ around) (k + 1) is)
  pub closed : (around : List Own) (k : ℕ) (o : Own) (is : List Item) → F (o ∷ around) k (Close ∷ is) ≡ F around k is
  pub exact : (around : List Own) (k p : ℕ) (n : Numeral) (ls : List (Byte Letter)) → E n → Exact (P k (spot around p n ls)) (O around k p n ls)
  pub low : (k : ℕ) (s : Spot) (q : ℕ) → P k s q → s.place ≤ q
  pub high : (around : List Own) (k p : ℕ) (n : Numeral) (ls : List (Byte Letter)) (q : ℕ) → P k (spot around p n ls) q → q < inside_at p n ls

module _ (P : ℕ → Spot → ℕ → Type 0) (F : List Own → ℕ → List Item → Option ℕ) (O : List Own → ℕ → ℕ → Numeral → List (Byte Letter) → Option ℕ) (E : Numeral → Type 0) (w : Walk P F O E) where
  walked : (f : Sections) → Throughout E f → (around : List Own) (p k : ℕ) (rest : List Spot) (is : List Item) → Beyond (p + length (sections_text f [])) rest
      → Exact (λ q. Any (λ j s. P j s q) (k + count f) rest) (F around (k + count f) is)
      → Exact (λ q. Any (λ j s. P j s q) k (spots around p f rest)) (F around k (forest_items p f is))
  walked none each around p k rest is beyond h =
      subst (λ j. Exact (λ q. Any (λ j s. P j s q) j rest) (F around j is)) (let e : k + 0 ≡ k = omega arith in e) h
  walked (section n ls f g) each around p k rest is beyond h =
      let inside = inside_is p n ls in
      let after = after_is p n ls f in
      let end = end_is p n ls f g in
      let a = after_at p n ls f in
      let i = inside_at p n ls in
      let others = spots around a g rest in
      let inner = spots (own n ls ∷ around) i f others in
      let Later : ℕ → Type 0 = λ q. Any (λ j s. P j s q) (k + 1) inner in
      let beyond-a : Beyond (a + length (sections_text g [])) rest = beyond_less _ (p + length (sections_text (section n ls f g) [])) rest (omega arith) beyond in
      let beyond-f : Beyond (i + length (sections_text f [])) others = spots_beyond _ around a g rest (omega arith) (beyond_less _ (a + length (sections_text g [])) rest (omega arith) beyond-a) in
      let beyond-i : Beyond i inner = spots_beyond i (own n ls ∷ around) i f others (omega arith) (beyond_less i (i + length (sections_text f [])) others (omega arith) beyond-f) in
      let h-g = walked g each.1.1 around a (k + 1 + count f) rest is beyond-a (
      subst (λ j. Exact (λ q. Any (λ j s. P j s q) j rest) (F around j is)) (let e : k + (1 + count f + count g) ≡ k + 1 + count f + count g = omega arith in e) h) in
      let h-f = walked f each.1.0 (own n ls ∷ around) i (k + 1) others (Close ∷ forest_items a g is) beyond-f (
      subst (Exact (λ q. Any (λ j s. P j s q) (k + 1 + count f) others)) (sym (w.closed around (k + 1 + count f) (own n ls) (forest_items a g is))) h-g) in
      subst (Exact (λ q. P k (spot around p n ls) q ⊎ Later q)) (sym (w.opened around k p n ls (forest_items i f (Close ∷ forest_items a g is)) each.0))
      (exact_both (P k (spot around p n ls)) Later (O around k p n ls) _ (w.exact around k p n ls each.0) h-f
      (λ r q here later. omega (arith, w.high around k p n ls r here, any_beyond (λ j s. P j s q) i q (k + 1) inner (λ j s x. w.low j s q x) beyond-i later)))

  pub walked_line : (f : Sections) → Throughout E f → (p k : ℕ) → Exact (λ q. Any (λ j s. P j s q) k (spots [] p f [])) (F [] k (forest_items p f []))
  walked_line f each p k = walked f each [] p k [] [] tt (subst (Exact (λ q. ⊥)) (sym (w.ended (k + count f))) (λ q x. x))

-- where nothing is asked of a number
pub any_number : (f : Sections) → Throughout (λ n. Unit {0}) f
any_number none = tt
any_number (section n ls f g) = (tt, (any_number f, any_number g))
