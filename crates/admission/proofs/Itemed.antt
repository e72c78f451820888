-- The items that say what records say, wherever they stand in a text; and that the reader finds no fault in them, and gets the records.
use Rattle.std.proofs.Common.{◌≡◌, ℕ, suc, ◌+◌, ◌-◌, ◌%◌, ◌^◌, ◌≤◌, true, ◌&&◌, ltb, leb, ◌⊎◌, List, [], ◌∷◌, map, length, None, Option, unwrap_or, sym, refl, ap, ◌∙◌, ⊎_elim, mod-eq_of_lt, arith}
use lib.Bits.{bit_or}
use Rattle.std.proofs.lemmas.Bool.{and_from, le-leb, lt-ltb, cond-true}
use Rattle.table.specs.declared.line.Item.{Item}
use Rattle.table.specs.declared.line.Item.TheVariants.{Open, Close}
use Rattle.table.specs.declared.records.SectionRecord.{SectionRecord}
use Rattle.table.specs.Limits.{largest}
use Rattle.table.specs.Level.{member}
use Rattle.table.specs.Nest.{top, outer}
use Rattle.table.specs.Number.{ticks_of}
use Rattle.table.specs.Rule.{or_else, unreadable, number_fault, section_fault, named, repeat_fault, length_fault}
use Rattle.table.specs.Record.{section_of, sections_in}
use Rattle.table.specs.Grammar.{Letter, Byte, Numeral}
use Rattle.table.specs.Breach.{Fair}
use Rattle.table.proofs.Parsed.{read, cases_fair, fair_ticks}
use Rattle.table.proofs.Spotted.{letter_items}
use Rattle.admission.specs.declared.path.Opened.{Opened}
use Rattle.admission.specs.Sound.{taken, opening}
use Rattle.admission.proofs.Apart.{apart_sym, parts_apart, Within}
use Rattle.admission.proofs.Entered.{SoundSection}
use Rattle.admission.proofs.Nested.{numbers, lengths, longest_is}
use Rattle.admission.proofs.Digits.{numeral_of, numeral_value, numeral_fair}
use Rattle.admission.proofs.Spelling.{spell, member_within}
use Rattle.admission.proofs.Spelt.{NoLetter, pair, spelt, spelt_once}

-- the letters of a section
abbrev pub letters_for : SectionRecord → List (Byte Letter)
letters_for s = spell s.small s.capital 0 26

-- a section without its level
abbrev pub strip : SectionRecord → SectionRecord
strip s = section_of s.task s.around (pair s.small s.capital) s.length

module _ (k cost : ℕ) where
  -- while these are open, the items say these sections, numbered from n on, and close all
  pub data Says : List Opened → ℕ → List SectionRecord → List Item → Type 0 where
    ends : {n : ℕ} → Says [] n [] []
    closes : {path : List Opened} {n : ℕ} {ss : List SectionRecord} {is : List Item} (o : Opened) → Says path n ss is → Says (o ∷ path) n ss (Close ∷ is)
    opens : {path : List Opened} {n : ℕ} {ss : List SectionRecord} {is : List Item} (s : SectionRecord) (p q : ℕ) → s.around ≡ top (numbers path) → s.length ≤ largest → SoundSection k cost path s → Says (opening n path s ∷ path) (n + 1) ss is → Says path n (s ∷ ss) (Open (read p (numeral_of s.length)) ∷ letter_items q (letters_for s) is)

-- letters neither open nor close
number_letters : (q : ℕ) (ls : List (Byte Letter)) (is : List Item) → number_fault (letter_items q ls is) ≡ number_fault is
number_letters q [] is = refl
number_letters q (l ∷ ls) is = number_letters (q + 2) ls is

section_letters : (room n d q : ℕ) (ls : List (Byte Letter)) (is : List Item) → section_fault room n d (letter_items q ls is) ≡ section_fault room n d is
section_letters room n d q [] is = refl
section_letters room n d q (l ∷ ls) is = section_letters room n d (q + 2) ls is

length-letters : (cost : ℕ) (lengths : List ℕ) (q : ℕ) (ls : List (Byte Letter)) (is : List Item) → length_fault cost lengths (letter_items q ls is) ≡ length_fault cost lengths is
length-letters cost lengths q [] is = refl
length-letters cost lengths q (l ∷ ls) is = length-letters cost lengths (q + 2) ls is

record_letters : (k n : ℕ) (st : List ℕ) (q : ℕ) (ls : List (Byte Letter)) (is : List Item) → sections_in k n st (letter_items q ls is) ≡ sections_in k n st is
record_letters k n st q [] is = refl
record_letters k n st q (l ∷ ls) is = record_letters k n st (q + 2) ls is

pub readable : (p : ℕ) (n : Numeral) → Fair n → unreadable (read p n) ≡ None
readable p n fair =
    ⊎_elim (λ h. ap (λ (o : Option ℕ). unreadable (record { place = p; value = o })) h.1) (λ h. absurd (h.0 fair)) (cases_fair n)

-- what the reader has seen of each open section lies in its letters
abbrev pub Covered : List ℕ → List Opened → Type 0
Covered [] [] = Unit {0}
Covered [] (o ∷ path) = ⊥
Covered (s ∷ seen) [] = ⊥
Covered (s ∷ seen) (o ∷ path) = Within s o.letters × Covered seen path

covered_named : (seen : List ℕ) (path : List Opened) → Covered seen path → Within (named seen) (taken path)
covered_named [] [] h c p = p
covered_named [] (o ∷ path) h c p = absurd h
covered_named (s ∷ seen) [] h c p = absurd h
covered_named (s ∷ seen) (o ∷ path) (here, h) c p = here c p

covered_outer : (o : Opened) (seen : List ℕ) (path : List Opened) → Covered seen (o ∷ path) → Covered (outer seen) path
covered_outer o [] path h = absurd h
covered_outer o (s ∷ seen) path (here, h) = h

module _ (k cost : ℕ) where
  says_no_letter : {o : Opened} {path : List Opened} {n : ℕ} {ss : List SectionRecord} {is : List Item} → Says k cost (o ∷ path) n ss is → NoLetter is
  says_no_letter (closes o h) = tt
  says_no_letter (opens s p q e high good h) = tt

  pub says_numbers : {path : List Opened} {n : ℕ} {ss : List SectionRecord} {is : List Item} → Says k cost path n ss is → number_fault is ≡ None
  says_numbers ends = refl
  says_numbers (closes o h) = says_numbers h
  says_numbers (opens {is = is} s p q e high good h) =
      ap (λ x. or_else x (number_fault (letter_items q (letters_for s) is))) (readable p (numeral_of s.length) (numeral_fair s.length good.some high))
      ∙ number_letters q (letters_for s) is ∙ says_numbers h

  pub says_sections : {path : List Opened} {n : ℕ} {ss : List SectionRecord} {is : List Item} (room : ℕ) → n + length ss ≤ room → Says k cost path n ss is → section_fault room n (length path) is ≡ None
  says_sections room fits ends = refl
  says_sections {n = n} room fits (closes {path = path} {is = is} o h) =
      ap (λ d. section_fault room n d is) (let e : suc (length path) - 1 ≡ length path = omega arith in e) ∙ says_sections room fits h
  says_sections {path} {n} room fits (opens {ss = ss} {is = is} s p q e high good h) =
      cond-true (ltb n room && ltb (length path) 8) _ _ (and_from _ _ (lt-ltb n room (omega arith)) (lt-ltb (length path) 8 good.shallow))
      ∙ section_letters room (n + 1) (length path + 1) q (letters_for s) is
      ∙ ap (λ d. section_fault room (n + 1) d is) (let e : length path + 1 ≡ suc (length path) = omega arith in e)
      ∙ says_sections room (omega arith) h

  pub says_lengths : {path : List Opened} {n : ℕ} {ss : List SectionRecord} {is : List Item} → Says k cost path n ss is → length_fault cost (lengths path) is ≡ None
  says_lengths ends = refl
  says_lengths (closes o h) = says_lengths h
  says_lengths {path} (opens {is = is} s p q e high good h) =
      let ticks = fair_ticks p (numeral_of s.length) (numeral_fair s.length good.some high) ∙ numeral_value s.length good.some high in
      cond-true (leb (ticks_of (read p (numeral_of s.length))) (unwrap_or (top (lengths path)) cost)) _ _ (le-leb _ _ (omega (arith, longest_is cost path, good.short)))
      ∙ ap (λ x. length_fault cost (x ∷ lengths path) (letter_items q (letters_for s) is)) ticks
      ∙ length-letters cost (s.length ∷ lengths path) q (letters_for s) is ∙ says_lengths h

  pub says_once : {path : List Opened} {n : ℕ} {ss : List SectionRecord} {is : List Item} (seen : List ℕ) → Covered seen path → Says k cost path n ss is → repeat_fault seen is ≡ None
  says_once seen covers ends = refl
  says_once seen covers (closes {path = path} o h) = says_once (outer seen) (covered_outer o seen path covers) h
  says_once {path} seen covers (opens {is = is} s p q e high good h) =
      let a = s.small in
      let b = s.capital in
      let t = taken path in
      let both : (x : ℕ) → (member a x ≡ true) ⊎ (member b x ≡ true) → Within (2 ^ x) (bit_or a b) =
      λ x m c d. let parts = parts_apart c a b d in ⊎_elim (λ i. member_within a x i c parts.0) (λ i. member_within b x i c parts.1) m in
      spelt_once a b (bit_or (bit_or a b) t) seen is (λ x m c d. both x m c (parts_apart c (bit_or a b) t d).0)
      (λ x w. says_once (x ∷ seen) (w, covers) h) 0 26 q (named seen) refl
      (λ x low m. apart_sym (2 ^ x) (named seen) (covered_named seen path covers (2 ^ x) (apart_sym t (2 ^ x) (both x m t (apart_sym (bit_or a b) t good.free)))))
      (λ c d. covered_named seen path covers c (parts_apart c (bit_or a b) t d).1)

  pub says_records : {path : List Opened} {n : ℕ} {ss : List SectionRecord} {is : List Item} → Says k cost path n ss is → sections_in k n (numbers path) is ≡ map strip ss
  says_records ends = refl
  says_records (closes o h) = says_records h
  says_records {path} {n} (opens {ss = ss} {is = is} s p q e high good h) =
      let ticks = fair_ticks p (numeral_of s.length) (numeral_fair s.length good.some high) ∙ numeral_value s.length good.some high in
      let rest = sections_in k (n + 1) (n ∷ numbers path) (letter_items q (letters_for s) is) in
      let none : 0 ≡ s.small % 2 ^ 0 = omega arith in
      let nil : 0 ≡ s.capital % 2 ^ 0 = omega arith in
      let ls = spelt s.small s.capital good.pair is (says_no_letter h) 0 26 q 0 0 refl none nil
      ∙ ap (λ x. pair x (s.capital % 2 ^ 26)) (mod-eq_of_lt good.small) ∙ ap (pair s.small) (mod-eq_of_lt good.capital) in
      ap (λ x. section_of k (top (numbers path)) x (ticks_of (read p (numeral_of s.length))) ∷ rest) ls
      ∙ ap (λ x. section_of k (top (numbers path)) (pair s.small s.capital) x ∷ rest) ticks
      ∙ ap (λ x. section_of k x (pair s.small s.capital) s.length ∷ rest) (sym e)
      ∙ ap (λ x. section_of x s.around (pair s.small s.capital) s.length ∷ rest) (sym good.owner)
      ∙ ap (λ x. strip s ∷ x) (record_letters k (n + 1) (n ∷ numbers path) q (letters_for s) is ∙ says_records h)
