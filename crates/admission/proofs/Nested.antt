-- The sections of a line that keeps the rules keep the rules as records.
use Rattle.std.proofs.Common.{◌≡◌, ℕ, suc, ◌+◌, ◌-◌, ◌<◌, ◌≤◌, true, false, ◌&&◌, eqb, ltb, leb, List, [], ◌∷◌, map, length, Some, None, Option, unwrap_or, sym, refl, ap, ◌∙◌, arith}
use lib.Bits.{bit_and, bit_or}
use Rattle.std.specs.List.{AllByRecursion}
use Rattle.std.proofs.lemmas.Bool.{and_parts, and_from, eq-eqb, ne_eqb, le-leb, lt-ltb, leb-true, ltb-true, cond-true, cond-false}
use Rattle.table.specs.declared.line.Numeral.{Numeral}
use Rattle.table.specs.declared.line.Letter.{Letter}
use Rattle.table.specs.declared.line.Item.{Item}
use Rattle.table.specs.declared.line.Item.TheVariants.{Open, Named, Close}
use Rattle.table.specs.declared.records.SectionRecord.{SectionRecord}
use Rattle.table.specs.Nest.{top, outer, renewed}
use Rattle.table.specs.Number.{ticks_of}
use Rattle.table.specs.Rule.{or_else, unreadable, number_fault, named, repeat_fault, length_fault, shallow}
use Rattle.table.specs.Record.{letters_from, section_of, sections_in, leveled}
use Rattle.admission.specs.declared.path.Opened.{Opened}
use Rattle.admission.specs.Sound.{unwound, longest, taken, section_sound, opening, sections_sound}
use Rattle.admission.proofs.Apart.{Apart, apart_none, apart_or, or_apart, parts_apart, Within}
use Rattle.admission.proofs.Fine.{Fine, ranged_ticks}
use Rattle.admission.proofs.Spelled.{no_fault, run_set, run_clear, run_few, run_apart}

-- the numbers and the lengths of open sections
abbrev pub numbers : List Opened → List ℕ
numbers [] = []
numbers (o ∷ inside) = o.number ∷ numbers inside

abbrev pub lengths : List Opened → List ℕ
lengths [] = []
lengths (o ∷ inside) = o.length ∷ lengths inside

-- numbers fall from n on
abbrev pub Falls : ℕ → List Opened → Type 0
Falls n [] = Unit {0}
Falls n (o ∷ inside) = (o.number < n) × Falls o.number inside

-- each of these, with those around it, is what unwinding the path to its number leaves
abbrev pub Found : List Opened → List Opened → Type 0
Found path [] = Unit {0}
Found path (o ∷ inside) = (unwound (Some o.number) path ≡ Some (o ∷ inside)) × Found path inside

found_push : (o' : Opened) (n : ℕ) (path inside : List Opened) → n ≤ o'.number → Falls n inside → Found path inside → Found (o' ∷ path) inside
found_push o' n path [] high falls found = tt
found_push o' n path (o ∷ inside) high (low, falls) (here, found) =
    (cond-false (eqb o'.number o.number) _ _ (ne_eqb _ _ (λ e. omega arith)) ∙ here, found_push o' o.number path inside (omega arith) falls found)

pub falls_found : (n : ℕ) (inside : List Opened) → Falls n inside → Found inside inside
falls_found n [] falls = tt
falls_found n (o ∷ inside) (low, falls) =
    (cond-true (eqb o.number o.number) _ _ (eq-eqb o.number o.number refl), found_push o o.number inside inside (omega arith) falls (falls_found o.number inside falls))

falls_wider : (inside : List Opened) (m n : ℕ) → m ≤ n → Falls m inside → Falls n inside
falls_wider [] m n h falls = tt
falls_wider (o ∷ inside) m n h (low, falls) = (omega arith, falls)

found_here : (path inside : List Opened) → Found path inside → unwound (top (numbers inside)) path ≡ Some inside
found_here path [] found = refl
found_here path (o ∷ inside) found = found.0

-- the letters of each open section lie in what is seen of it
abbrev pub Covers : List ℕ → List Opened → Type 0
Covers [] [] = Unit {0}
Covers [] (o ∷ inside) = ⊥
Covers (s ∷ seen) [] = ⊥
Covers (s ∷ seen) (o ∷ inside) = Within o.letters s × Covers seen inside

-- the same, but for the innermost only once the letters to come are read
abbrev pub Pending : List Item → List ℕ → List Opened → Type 0
Pending is [] [] = Unit {0}
Pending is [] (o ∷ inside) = ⊥
Pending is (s ∷ seen) [] = ⊥
Pending is (s ∷ seen) (o ∷ inside) = ((c : ℕ) → Apart c s → Apart c (run_set is) → Apart c o.letters) × Covers seen inside

covers_pending : (is : List Item) (seen : List ℕ) (inside : List Opened) → Covers seen inside → Pending is seen inside
covers_pending is [] [] h = tt
covers_pending is [] (o ∷ inside) h = absurd h
covers_pending is (s ∷ seen) [] h = absurd h
covers_pending is (s ∷ seen) (o ∷ inside) (here, h) = (λ c p q. here c p, h)

pending_covers : (is : List Item) (seen : List ℕ) (inside : List Opened) → run_set is ≡ 0 → Pending is seen inside → Covers seen inside
pending_covers is [] [] e h = tt
pending_covers is [] (o ∷ inside) e h = absurd h
pending_covers is (s ∷ seen) [] e h = absurd h
pending_covers is (s ∷ seen) (o ∷ inside) e (here, h) = (λ c p. here c p (ap (bit_and c) e ∙ apart_none c), h)

pending_letter : (l : Letter) (is : List Item) (seen : List ℕ) (inside : List Opened) → Pending (Named l ∷ is) seen inside → Pending is (renewed (bit_or (named seen) l.bit) seen) inside
pending_letter l is [] [] h = tt
pending_letter l is [] (o ∷ inside) h = absurd h
pending_letter l is (s ∷ seen) [] h = absurd h
pending_letter l is (s ∷ seen) (o ∷ inside) (here, h) =
    (λ c p q. let parts = parts_apart c s l.bit p in here c parts.0 (or_apart c l.bit (run_set is) parts.1 q), h)

pending_outer : (is : List Item) (o : Opened) (seen : List ℕ) (inside : List Opened) → Pending (Close ∷ is) seen (o ∷ inside) → Pending is (outer seen) inside
pending_outer is o [] inside h = absurd h
pending_outer is o (s ∷ seen) inside (here, h) = covers_pending is seen inside h

pending_empty : (is : List Item) (seen : List ℕ) → Pending (Close ∷ is) seen [] → Pending is (outer seen) []
pending_empty is [] h = tt
pending_empty is (s ∷ seen) h = absurd h

covers_taken : (seen : List ℕ) (inside : List Opened) → Covers seen inside → Within (taken inside) (named seen)
covers_taken [] [] h c p = p
covers_taken [] (o ∷ inside) h c p = absurd h
covers_taken (s ∷ seen) [] h c p = absurd h
covers_taken (s ∷ seen) (o ∷ inside) (here, h) c p = here c p

pub longest_is : (cost : ℕ) (inside : List Opened) → unwrap_or (top (lengths inside)) cost ≡ longest cost inside
longest_is cost [] = refl
longest_is cost (o ∷ inside) = refl

pub or_none : (a b : Option ℕ) → or_else a b ≡ None → (a ≡ None) × (b ≡ None)
or_none None b e = (refl, e)
or_none (Some p) b e = let z : ◌≡◌ {A = ℕ} 0 1 = cc in absurd (omega arith)

-- one section more
module _ (k cost n : ℕ) (path inside : List Opened) (s : SectionRecord) (ss : List SectionRecord) where
  step : unwound s.around path ≡ Some inside → section_sound k cost inside s ≡ true → sections_sound k cost (n + 1) (opening n inside s ∷ inside) ss ≡ true → sections_sound k cost n path (s ∷ ss) ≡ true
  step e here rest =
      ap (λ o. elim o [ None ↦ false | Some into ↦ section_sound k cost into s && sections_sound k cost (n + 1) (opening n into s ∷ into) ss ]) e
      ∙ and_from _ _ here rest

module _ (k cost : ℕ) (levels : List (Option ℕ)) where
  -- the record of a section that opens here
  abbrev opened : List Opened → Numeral → List Item → SectionRecord
  opened inside m is = leveled levels (section_of k (top (numbers inside)) (letters_from 0 0 is) (ticks_of m))

  opened_sound : (inside : List Opened) (seen : List ℕ) (m : Numeral) (is : List Item) → (1 ≤ ticks_of m) → ticks_of m ≤ longest cost inside → length inside < 8 → AllByRecursion Fine is → Covers seen inside → repeat_fault (named seen ∷ seen) is ≡ None → section_sound k cost inside (opened inside m is) ≡ true
  opened_sound inside seen m is some short shallow fine covers fresh =
      let few = run_few 0 0 is (omega arith) (omega arith) fine in
      let three = run_apart 0 0 (taken inside) (named seen) seen is (record { pair = refl; first = refl; second = refl })
      (record { first = λ c _. apart_none c; second = λ c _. apart_none c; third = covers_taken seen inside covers }) fresh in
      and_from _ _ (eq-eqb k k refl) (and_from _ _
      (and_from _ _ (lt-ltb _ _ few.small) (and_from _ _ (lt-ltb _ _ few.capital) (eq-eqb _ _ three.pair)))
      (and_from _ _ (eq-eqb _ _ (apart_or _ _ _ three.first three.second))
      (and_from _ _ (le-leb _ _ some) (and_from _ _ (le-leb _ _ short) (lt-ltb _ _ shallow)))))

  opened_covers : (n : ℕ) (inside : List Opened) (seen : List ℕ) (m : Numeral) (is : List Item) → Covers seen inside → Pending is (named seen ∷ seen) (opening n inside (opened inside m is) ∷ inside)
  opened_covers n inside seen m is covers = (
    λ c p q. let clear = run_clear c 0 0 is (apart_none c) (apart_none c) q in
        or_apart c _ (taken inside) (or_apart c _ _ clear.small clear.capital) (covers_taken seen inside covers c p),
    covers,
  )

  pub nested : (n : ℕ) (path inside : List Opened) (seen : List ℕ) (is : List Item) → AllByRecursion Fine is → number_fault is ≡ None → shallow (length inside) is ≡ true → repeat_fault seen is ≡ None → length_fault cost (lengths inside) is ≡ None → Falls n inside → Found path inside → Pending is seen inside → sections_sound k cost n path (map (leveled levels) (sections_in k n (numbers inside) is)) ≡ true
  nested n path inside seen [] fine values deep fresh short falls found pending = refl
  nested n path inside seen (Open m ∷ is) (ranged, fine) values deep fresh short falls found pending =
      let v = or_none (unreadable m) (number_fault is) values in
      let ticks = ranged_ticks m ranged v.0 in
      let d = and_parts (ltb (length inside) 8) _ deep in
      let r = no_fault (leb (ticks_of m) (unwrap_or (top (lengths inside)) cost)) _ _ short in
      let covers = pending_covers (Open m ∷ is) seen inside refl pending in
      let o = opening n inside (opened inside m is) in
      let falls' : Falls (n + 1) (o ∷ inside) = (omega arith, falls) in
      let deeper : length inside + 1 ≡ suc (length inside) = omega arith in
      let room = leb-true _ _ r.0 in
      step k cost n path inside (opened inside m is) (map (leveled levels) (sections_in k (n + 1) (n ∷ numbers inside) is)) (found_here path inside found)
      (opened_sound inside seen m is ticks.0 (omega (arith, room, longest_is cost inside)) (ltb-true _ _ d.0) fine covers fresh)
      (nested (n + 1) (o ∷ inside) (o ∷ inside) (named seen ∷ seen) is fine v.1 (ap (λ x. shallow x is) (sym deeper) ∙ d.1) fresh r.1 falls'
      (falls_found (n + 1) (o ∷ inside) falls') (opened_covers n inside seen m is covers))
  nested n path inside seen (Named l ∷ is) (bit, fine) values deep fresh short falls found pending =
      let r = no_fault (eqb (bit_and (named seen) l.bit) 0) _ _ fresh in
      nested n path inside (renewed (bit_or (named seen) l.bit) seen) is fine values deep r.1 short falls found (pending_letter l is seen inside pending)
  nested n path [] seen (Close ∷ is) (done, fine) values deep fresh short falls found pending =
      nested n path [] (outer seen) is fine values deep fresh short tt tt (pending_empty is seen pending)
  nested n path (o ∷ inside) seen (Close ∷ is) (done, fine) values deep fresh short (low, falls) (here, found) pending =
      let less : suc (length inside) - 1 ≡ length inside = omega arith in
      nested n path inside (outer seen) is fine values (ap (λ x. shallow x is) (sym less) ∙ deep) fresh short (falls_wider inside o.number n (omega arith) falls) found (pending_outer is o seen inside pending)
