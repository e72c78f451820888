-- The items of a line, one by one.
use Rattle.std.proofs.Common.{◌≡◌, ℕ, suc, ◌+◌, ◌<◌, ◌≤◌, Bool, true, false, List, [], ◌∷◌, length, get_or, drop, Some, None, Option, MatchOption, is_some, sym, refl, ap, ◌∙◌, ⊎_elim, arith}
use Rattle.std.proofs.lemmas.Bool.{false≢true, cond_both, cond-true, cond-false, cases_Bool}
use Rattle.std.proofs.lemmas.List.{drop_more, drop-drop, length-drop}
use Rattle.table.specs.declared.line.Numeral.{Numeral}
use Rattle.table.specs.declared.line.Cursor.{Cursor}
use Rattle.table.specs.declared.line.Item.{Item}
use Rattle.table.specs.declared.line.Item.TheVariants.{Open}
use Rattle.table.specs.Byte.{is_digit}
use Rattle.table.specs.Number.{digit_run, value_of, numeral_at, behind, NoDigit, IsDigit}
use Rattle.table.specs.Item.{mark_at, joined, items, items_from, left}

-- within a number the rest of its digits are passed over
pub skip : (p : ℕ) (t : List ℕ) → items true p t ≡ items false (p + length (digit_run t)) (drop (length (digit_run t)) t)
skip p [] = refl
skip p (b ∷ t) =
    ⊎_elim
    (λ e. let run = cond-true (is_digit b) (b ∷ digit_run t) [] e in
    let at : p + 1 + length (digit_run t) ≡ p + suc (length (digit_run t)) = omega arith in
    cond-true (is_digit b) _ _ e ∙ skip (p + 1) t ∙ ap (λ k. items false k (drop (length (digit_run t)) t)) at
    ∙ ap (λ ds. items false (p + length ds) (drop (length ds) (b ∷ t))) (sym run))
    (λ e. let run = cond-false (is_digit b) (b ∷ digit_run t) [] e in
    let at : p ≡ p + 0 = omega arith in
    cond-false (is_digit b) _ _ e ∙ sym (cond-false (is_digit b) _ _ e) ∙ ap (λ k. items false k (b ∷ t)) at
    ∙ ap (λ ds. items false (p + length ds) (drop (length ds) (b ∷ t))) (sym run))
    (cases_Bool (is_digit b))

module _ (xs : List ℕ) (i : ℕ) (within : i < length xs) where
  pub item_number : is_digit (get_or xs i 0) ≡ true → items_from i xs ≡ Open (numeral_at i xs) ∷ items_from (behind i xs) xs
  item_number e =
      let b = get_or xs i 0 in
      let t = drop (i + 1) xs in
      let here = drop_more xs i 0 within in
      let run = ap digit_run here ∙ cond-true (is_digit b) (b ∷ digit_run t) [] e in
      let long : i + 1 + length (digit_run t) ≡ behind i xs = omega (arith, ap length run) in
      ap (items false i) here ∙ cond-true (is_digit b) _ _ e
      ∙ ap (λ l. Open (record { place = i; value = value_of (digit_run l) }) ∷ items true (i + 1) t) (sym here)
      ∙ ap (λ l. Open (numeral_at i xs) ∷ l) (skip (i + 1) t ∙ ap (items false (i + 1 + length (digit_run t))) (drop-drop (length (digit_run t)) (i + 1) xs) ∙ ap (λ k. items_from k xs) long)

-- a digit was found at a cursor: the number there is the next item
pub number_left : (c c' : Cursor) (o : Option ℕ) (n : Numeral) → MatchOption o (NoDigit c.line.now c.place) (IsDigit c.line.now c.place) → is_some o ≡ true → n ≡ numeral_at c.place c.line.now → c'.place ≡ behind c.place c.line.now → c'.line.now ≡ c.line.now → left c ≡ Open n ∷ left c'
number_left c c' None n h some is at same = absurd (false≢true some)
number_left c c' (Some d) n h some is at same =
    item_number c.line.now c.place h.within h.here ∙ ap (λ x. Open x ∷ items_from (behind c.place c.line.now) c.line.now) (sym is)
    ∙ ap (λ k. Open n ∷ items_from k c.line.now) (sym at) ∙ ap (λ l. Open n ∷ items_from c'.place l) (sym same)

-- each item takes at least a byte
joined_short : (o : Option Item) (is : List Item) → length (joined o is) ≤ 1 + length is
joined_short None is = omega arith
joined_short (Some i) is = omega arith

items_short : (within : Bool) (p : ℕ) (t : List ℕ) → length (items within p t) ≤ length t
items_short within p [] = omega arith
items_short within p (b ∷ t) =
    cond_both (is_digit b) _ _ (λ l. length l ≤ suc (length t))
    (λ _. cond_both within _ _ (λ l. length l ≤ suc (length t)) (λ _. omega (arith, items_short true (p + 1) t)) (λ _. omega (arith, items_short true (p + 1) t)))
    (λ _. omega (arith, joined_short (mark_at p b) (items false (p + 1) t), items_short false (p + 1) t))

pub left_short : (c : Cursor) → length (left c) ≤ length c.line.now
left_short c = omega (arith, items_short false c.place (drop c.place c.line.now), length-drop c.place c.line.now)
