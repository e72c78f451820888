-- The open sections as the check keeps them: the innermost is last.
use Rattle.std.proofs.Common.{◌≡◌, ◌≢◌, ℕ, zero, suc, ◌+◌, ◌-◌, ◌<◌, ◌≤◌, List, [], ◌∷◌, reverse, length, get_or, take, Some, None, sym, ap, ◌∙◌, arith}
use Rattle.std.specs.List.{AllWithin, HoldsAt}
use Rattle.std.proofs.lemmas.List.{take_more, take_all, reverse-append}
use Rattle.std.proofs.lemmas.Bool.{eq-eqb, ne_eqb, cond-true, cond-false}
use Rattle.admission.specs.declared.path.Opened.{Opened}
use Rattle.admission.specs.Sound.{unwound}

abbrev no_opened_lem : Opened
no_opened_lem = record { number = 0; length = 0; letters = 0 }

module _ (a : ℕ) (xs : List Opened) where
  -- the outermost so many
  abbrev outermost : ℕ → List Opened
  outermost depth = reverse (take depth xs)

  top : (depth : ℕ) → depth < length xs → outermost (depth + 1) ≡ get_or xs depth no_opened_lem ∷ outermost depth
  top depth h = ap reverse (take_more xs depth no_opened_lem h) ∙ reverse-append (take depth xs) (get_or xs depth no_opened_lem ∷ [])

  -- sections with another number are passed
  past : (n depth : ℕ) → depth + n ≤ length xs → AllWithin (λ o. o.number ≢ a) xs depth (depth + n) → unwound (Some a) (outermost (depth + n)) ≡ unwound (Some a) (outermost depth)
  past zero depth h others = ap (λ k. unwound (Some a) (outermost k)) (omega arith)
  past (suc n) depth h others =
      let at : depth + suc n ≡ depth + n + 1 = omega arith in
      ap (λ k. unwound (Some a) (outermost k)) at ∙ ap (unwound (Some a)) (top (depth + n) (omega arith))
      ∙ cond-false _ _ _ (ne_eqb _ _ (others (depth + n) no_opened_lem (omega arith) (omega arith)))
      ∙ past n depth (omega arith) (λ k d from to. others k d from (omega arith))

  whole : outermost (length xs) ≡ reverse xs
  whole = ap reverse (take_all (length xs) xs (omega arith))

  pub unwound_none : AllWithin (λ o. o.number ≢ a) xs 0 (length xs) → unwound (Some a) (reverse xs) ≡ None
  unwound_none others =
      let at : length xs ≡ 0 + length xs = omega arith in
      ap (unwound (Some a)) (sym whole) ∙ ap (λ k. unwound (Some a) (outermost k)) at
      ∙ past (length xs) 0 (omega arith) (λ k d from to. others k d from (omega arith))

  pub unwound_at :
      (i : ℕ) → i < length xs → HoldsAt (λ o. o.number ≡ a) xs i → AllWithin (λ o. o.number ≢ a) xs (i + 1) (length xs)
      → unwound (Some a) (reverse xs) ≡ Some (reverse (take (i + 1) xs))
  unwound_at i h here others =
      let n : ℕ = length xs - (i + 1) in
      let at : length xs ≡ i + 1 + n = omega arith in
      ap (unwound (Some a)) (sym whole) ∙ ap (λ k. unwound (Some a) (outermost k)) at
      ∙ past n (i + 1) (omega arith) (λ k d from to. others k d from (omega arith))
      ∙ ap (unwound (Some a)) (top i h) ∙ cond-true _ _ _ (eq-eqb _ _ (here no_opened_lem)) ∙ ap Some (sym (top i h))
