-- The items of a written line: those of its sections, each at its place.
use Rattle.std.proofs.Common.{◌≡◌, ℕ, suc, ◌+◌, ◌-◌, ◌*◌, ◌^◌, true, false, not, List, [], ◌∷◌, length, Some, sym, refl, ap, ◌∙◌, inl, inr, ⊎_elim, arith}
use Rattle.std.proofs.lemmas.Bool.{cond-true, cond-false, cases_Bool}
use Rattle.std.proofs.lemmas.Bool.Decides.{nat_tests}
use Rattle.table.specs.declared.line.Letter.{Letter as Mark}
use Rattle.table.specs.declared.line.Item.{Item}
use Rattle.table.specs.declared.line.Item.TheVariants.{Open, Named, Close}
use Rattle.table.specs.Byte.{is_digit, is_small, is_capital}
use Rattle.table.specs.Number.{value_of}
use Rattle.table.specs.Head.{line_items}
use Rattle.table.specs.Item.{mark_at, joined, items, items_from}
use Rattle.table.specs.Grammar.{Digit, Letter, Byte, Numeral, Sections, none, section, Line, bytes, numeral, letters, sections_text, render}
use Rattle.table.specs.Breach.{width, resource, sections_place}
use Rattle.table.proofs.Parsed.{length-bytes, length-letters, run_numeral, read, at_sections, body_at_lem}

-- a letter as the code reads it
abbrev pub mark : ℕ → Byte Letter → Mark
mark p l = record { place = p; bit = 2 ^ resource l; capital = not (is_small l.byte) }

-- the items of letters, the first of which stands at p, and of sections that are written from p on, before others
abbrev pub letter_items : ℕ → List (Byte Letter) → List Item → List Item
letter_items p [] is = is
letter_items p (l ∷ ls) is = Named (mark p l) ∷ letter_items (p + 2) ls is

-- where a section's letters, the sections inside it and those after it begin
abbrev pub letters_at : ℕ → Numeral → ℕ
letters_at p n = p + 1 + width n + 2

abbrev pub inside_at : ℕ → Numeral → List (Byte Letter) → ℕ
inside_at p n ls = p + length (32 ∷ numeral n (123 ∷ letters ls []))

abbrev pub after_at : ℕ → Numeral → List (Byte Letter) → Sections → ℕ
after_at p n ls f = p + length (sections_text (section n ls f none) [])

abbrev pub forest_items : ℕ → Sections → List Item → List Item
forest_items p none is = is
forest_items p (section n ls f g) is =
    Open (read (p + 1) n) ∷ letter_items (letters_at p n) ls (forest_items (inside_at p n ls) f (Close ∷ forest_items (after_at p n ls f) g is))

pub length-sections : (f : Sections) (t : List ℕ) → length (sections_text f t) ≡ length (sections_text f []) + length t
length-sections none t = omega arith
length-sections (section n ls f g) t =
    let rest = λ (u : List ℕ). 123 ∷ letters ls (sections_text f (32 ∷ 125 ∷ sections_text g u)) in
    let inside = λ (u : List ℕ). sections_text f (32 ∷ 125 ∷ sections_text g u) in
    omega (
      arith,
      length-bytes n.more (rest t),
      length-bytes n.more (rest []),
      length-letters ls (inside t),
      length-letters ls (inside []),
      length-sections f (32 ∷ 125 ∷ sections_text g t),
      length-sections f (32 ∷ 125 ∷ sections_text g []),
      length-sections g t,
    )

-- the same places, counted
pub inside_is : (p : ℕ) (n : Numeral) (ls : List (Byte Letter)) → inside_at p n ls ≡ p + width n + 2 + 2 * length ls
inside_is p n ls = omega (arith, length-bytes n.more (123 ∷ letters ls []), length-bytes n.more [], length-letters ls [])

pub after_is : (p : ℕ) (n : Numeral) (ls : List (Byte Letter)) (f : Sections) → after_at p n ls f ≡ inside_at p n ls + length (sections_text f []) + 2
after_is p n ls f =
    omega (
      arith,
      length-bytes n.more (123 ∷ letters ls (sections_text f (32 ∷ 125 ∷ []))),
      length-bytes n.more [],
      length-letters ls (sections_text f (32 ∷ 125 ∷ [])),
      length-sections f (32 ∷ 125 ∷ []),
      inside_is p n ls,
    )

pub end_is : (p : ℕ) (n : Numeral) (ls : List (Byte Letter)) (f g : Sections) → p + length (sections_text (section n ls f g) []) ≡ after_at p n ls f + length (sections_text g [])
end_is p n ls f g =
    let rest = sections_text f (32 ∷ 125 ∷ sections_text g []) in
    omega (
      arith,
      length-bytes n.more (123 ∷ letters ls rest),
      length-bytes n.more [],
      length-letters ls rest,
      length-sections f (32 ∷ 125 ∷ sections_text g []),
      inside_is p n ls,
      after_is p n ls f,
    )

-- the digits behind the first are passed over
items_digits : (p : ℕ) (ds : List (Byte Digit)) (t : List ℕ) → items true p (bytes ds (123 ∷ t)) ≡ items false (p + length ds + 1) t
items_digits p [] t = ap (λ k. items false k t) (let e : p + 1 ≡ p + 0 + 1 = omega arith in e)
items_digits p (d ∷ ds) t =
    cond-true (is_digit d.byte) _ _ (let is : Digit d.byte = d.is in grind (arith, nat_tests)) ∙ items_digits (p + 1) ds t
    ∙ ap (λ k. items false k t) (let e : p + 1 + length ds + 1 ≡ p + suc (length ds) + 1 = omega arith in e)

capital : (b : ℕ) → Letter b → is_small b ≡ false → is_capital b ≡ true
capital b (inl k) e = grind (arith, nat_tests)
capital b (inr k) e = grind (arith, nat_tests)

mark_is : (p : ℕ) (l : Byte Letter) → mark_at p l.byte ≡ Some (Named (mark p l))
mark_is p l =
    let b = l.byte in
    ⊎_elim
    (λ e. cond-true (is_small b) _ _ e ∙ ap (λ k. Some (Named (record { place = p; bit = 2 ^ k; capital = false }))) (sym (cond-true (is_small b) (b - 97) (b - 65) e))
    ∙ ap (λ s. Some (Named (record { place = p; bit = 2 ^ resource l; capital = not s }))) (sym e))
    (λ e. cond-false (is_small b) _ _ e ∙ cond-true (is_capital b) _ _ (capital b l.is e)
    ∙ ap (λ k. Some (Named (record { place = p; bit = 2 ^ k; capital = true }))) (sym (cond-false (is_small b) (b - 97) (b - 65) e))
    ∙ ap (λ s. Some (Named (record { place = p; bit = 2 ^ resource l; capital = not s }))) (sym e))
    (cases_Bool (is_small b))

letter_no_digit : (b : ℕ) → Letter b → is_digit b ≡ false
letter_no_digit b (inl k) = grind (arith, nat_tests)
letter_no_digit b (inr k) = grind (arith, nat_tests)

items_letters : (p : ℕ) (ls : List (Byte Letter)) (t : List ℕ) → items false p (letters ls t) ≡ letter_items (p + 1) ls (items false (p + 2 * length ls) t)
items_letters p [] t = ap (λ k. items false k t) (let e : p ≡ p + 2 * 0 = omega arith in e)
items_letters p (l ∷ ls) t =
    let q = p + 1 in
    cond-false (is_digit l.byte) _ _ (letter_no_digit l.byte l.is)
    ∙ ap (λ o. joined o (items false (q + 1) (letters ls t))) (mark_is q l)
    ∙ ap (λ is. Named (mark q l) ∷ is) (items_letters (q + 1) ls t)
    ∙ ap (λ k. Named (mark q l) ∷ letter_items k ls (items false (q + 1 + 2 * length ls) t)) (let e : q + 1 + 1 ≡ q + 2 = omega arith in e)
    ∙ ap (λ k. Named (mark q l) ∷ letter_items (q + 2) ls (items false k t)) (let e : q + 1 + 2 * length ls ≡ p + 2 * suc (length ls) = omega arith in e)

items_sections : (p : ℕ) (f : Sections) (t : List ℕ) → items false p (sections_text f t) ≡ forest_items p f (items false (p + length (sections_text f [])) t)
items_sections p none t = ap (λ k. items false k t) (let e : p ≡ p + 0 = omega arith in e)
items_sections p (section n ls f g) t =
    let after = 32 ∷ 125 ∷ sections_text g t in
    let body = letters ls (sections_text f after) in
    let q = p + 1 in
    let b = n.first.byte in
    let brace = q + 1 + length n.more + 1 in
    let wide = length-bytes n.more [] in
    let opened : items false q (numeral n (123 ∷ body)) ≡ Open (read q n) ∷ items false brace body =
    cond-true (is_digit b) _ _ (let is : Digit b = n.first.is in grind (arith, nat_tests))
    ∙ ap (λ ds. Open (record { place = q; value = value_of ds }) ∷ items true (q + 1) (bytes n.more (123 ∷ body))) (run_numeral n 123 body refl)
    ∙ ap (λ is. Open (read q n) ∷ is) (items_digits (q + 1) n.more body) in
    opened
    ∙ ap (λ is. Open (read q n) ∷ is) (items_letters brace ls (sections_text f after))
    ∙ ap (λ k. Open (read q n) ∷ letter_items k ls (items false (brace + 2 * length ls) (sections_text f after))) (let e : brace + 1 ≡ letters_at p n = omega arith in e)
    ∙ ap (λ k. Open (read q n) ∷ letter_items (letters_at p n) ls (items false k (sections_text f after))) (let e : brace + 2 * length ls ≡ inside_at p n ls = omega (arith, inside_is p n ls) in e)
    ∙ ap (λ is. Open (read q n) ∷ letter_items (letters_at p n) ls is) (items_sections (inside_at p n ls) f after)
    ∙ ap (λ is. Open (read q n) ∷ letter_items (letters_at p n) ls (forest_items (inside_at p n ls) f (Close ∷ is)))
    (ap (λ k. items false k (sections_text g t)) (let e : inside_at p n ls + length (sections_text f []) + 1 + 1 ≡ after_at p n ls f = omega (arith, after_is p n ls f) in e)
    ∙ items_sections (after_at p n ls f) g t
    ∙ ap (λ k. forest_items (after_at p n ls f) g (items false k t)) (sym (end_is p n ls f g)))

pub items_line : (l : Line) → line_items (render l) ≡ forest_items (sections_place l) l.sections []
items_line l =
    ap (λ k. items_from k (render l)) (body_at_lem l) ∙ ap (items false (sections_place l)) (at_sections l) ∙ items_sections (sections_place l) l.sections (10 ∷ [])
