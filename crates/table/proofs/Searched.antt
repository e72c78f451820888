-- The first number out of its range, as a search over a cursor's items finds it.
use Rattle.std.proofs.Common.{◌≡◌, ℕ, zero, suc, ◌+◌, ◌<◌, true, List, [], ◌∷◌, ◌++◌, Some, None, Option, MatchOption, IfSome, IsSomeAnd, sym, refl, ap, ◌∙◌, subst, arith}
use Rattle.std.specs.Fn.{Mut, Called}
use Rattle.std.specs.Iterator.{YieldsFirst, Yields}
use Rattle.std.specs.Iterator.Runs.{SomeRun, AllItemsGive, IsFirstToGive}
use Rattle.std.specs.List.{slice_get}
use Rattle.std.proofs.iter.runs.Made.{took, at-is}
use Rattle.table.specs.declared.line.Cursor.{Cursor}
use Rattle.table.specs.declared.line.Item.{Item}
use Rattle.table.specs.Item.{left}
use Rattle.table.specs.Rule.{or_else, item_fault, number_fault}

-- what calls gave stands in front of what is left
front : (xs : List Item) (s t : Cursor) → Yields (YieldsFirst left) s xs t → left s ≡ xs ++ left t
front [] s t e = ap left e
front (x ∷ xs) s t y = y.1 ∙ ap (λ l. x ∷ l) (front xs y.0 t y.2)

none_found : (is rest : List Item) → ((k : ℕ) → IfSome (slice_get is k) (λ x. item_fault x ≡ None)) → number_fault (is ++ rest) ≡ number_fault rest
none_found [] rest h = refl
none_found (i ∷ is) rest h = ap (λ o. or_else o (number_fault (is ++ rest))) (h 0) ∙ none_found is rest (λ k. h (suc k))

first_found : (is rest : List Item) (n y : ℕ) → IsSomeAnd (slice_get is n) (λ x. item_fault x ≡ Some y) → ((k : ℕ) → k < n → IsSomeAnd (slice_get is k) (λ x. item_fault x ≡ None)) → number_fault (is ++ rest) ≡ Some y
first_found [] rest n y h before = absurd h
first_found (i ∷ is) rest zero y h before = ap (λ o. or_else o (number_fault (is ++ rest))) h
first_found (i ∷ is) rest (suc n) y h before =
    ap (λ o. or_else o (number_fault (is ++ rest))) (before 0 (omega arith)) ∙ first_found is rest n y h (λ k l. before (suc k) (omega arith))

module _ {F : Type 0} (g : Mut F (Item × Unit {0}) (Option ℕ)) (f : F) (told : (i : Item) (r : Option ℕ) (q : F) → Called g f (i, tt) r q → (q ≡ f) × (r ≡ item_fault i)) where
  if_told : (o : Option Item) (r : Option ℕ) → IfSome o (λ x. Called g f (x, tt) r f) → IfSome o (λ x. item_fault x ≡ r)
  if_told None r h = tt
  if_told (Some x) r h = sym (told x r f h).1

  some_told : (o : Option Item) (r : Option ℕ) → IsSomeAnd o (λ x. Called g f (x, tt) r f) → IsSomeAnd o (λ x. item_fault x ≡ r)
  some_told None r h = h
  some_told (Some x) r h = sym (told x r f h).1

  pub found : (s : Cursor) (r : Option ℕ) → SomeRun (YieldsFirst left) s (λ p. MatchOption r ((p.whole ≡ true) × AllItemsGive p g f None) (λ y. (i : ℕ) × (i < p.len) × (p.len ≡ i + 1) × IsFirstToGive p g f (Some y) None i)) → r ≡ number_fault (left s)
  found s None h =
      let p = h.0 in
      let t = took p in
      let all = h.2.1 (λ a r q k. (told a.0 r q k).0) in
      let done = t.2 h.2.0 in
      sym (ap (λ c. number_fault (left c)) (sym h.1) ∙ ap number_fault (front p.items p.from t.0 t.1)
      ∙ none_found p.items (left t.0) (λ k. if_told (slice_get p.items k) None (subst (λ o. IfSome o (λ x. Called g f (x, tt) None f)) (at-is p k) (all k)))
      ∙ ap number_fault done.1.0)
  found s (Some y) h =
      let p = h.0 in
      let t = took p in
      let i = h.2.0 in
      let first = h.2.3 (λ a r q k. (told a.0 r q k).0) in
      sym (ap (λ c. number_fault (left c)) (sym h.1) ∙ ap number_fault (front p.items p.from t.0 t.1)
      ∙ first_found p.items (left t.0) i y (some_told (slice_get p.items i) (Some y) (subst (λ o. IsSomeAnd o (λ x. Called g f (x, tt) (Some y) f)) (at-is p i) first.0))
      (λ k l. some_told (slice_get p.items k) None (subst (λ o. IsSomeAnd o (λ x. Called g f (x, tt) None f)) (at-is p k) (first.1 k l))))
