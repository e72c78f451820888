-- Sorted insertion into a list of lent entries, entry by entry. Assumes nothing.
use Rattle.std.proofs.Common.{◌≡◌, ℕ, zero, suc, ◌+◌, ◌-◌, ◌<◌, ◌≤◌, Bool, true, false, List, [], ◌∷◌, ◌++◌, length, get_or, take, drop, set, sym, refl, ap, ◌∙◌, subst, ⊎_elim, arith, take-add}
use Rattle.std.specs.List.{AllByRecursion}
use Rattle.std.proofs.lemmas.List.{get_or-take, take-set-le, drop-set, take-take, take-set, drop_more, drop_all, length-set, length-take, take-append-drop}
use Rattle.std.proofs.ByRecursion.{All-get_or}
use Rattle.std.proofs.lemmas.Bool.{cases_Bool, both_ways, cond-true, cond-false}
use Rattle.queue.specs.Order.{Total, insert_sorted, Rising}

module _ {E : Type 0} (before : E → E → Bool) where
  pub insert_split : (e : E) (p q : List E) → AllByRecursion (λ y. before e y ≡ false) p → AllByRecursion (λ y. before e y ≡ true) q → insert_sorted before e (p ++ q) ≡ p ++ e ∷ q
  insert_split e [] [] low high = refl
  insert_split e [] (y ∷ q) low high = cond-true (before e y) _ _ high.0
  insert_split e (x ∷ p) q low high = cond-false (before e x) _ _ low.0 ∙ ap (λ l. x ∷ l) (insert_split e p q low.1 high)

  module _ (o : Total before) where
    -- what does not come before x comes before nothing in front of x
    pub not_before : (e x y : E) → before x y ≡ false → before e x ≡ false → before e y ≡ false
    not_before e x y p q =
        ⊎_elim
        (λ (ey : before e y ≡ true).
        ⊎_elim
        (λ (xe : before x e ≡ true). absurd (both_ways (before x y) p (o.transitive x e y xe ey)))
        (λ (xe : before x e ≡ false). ap (λ z. before z y) (o.total e x q xe) ∙ p)
        (cases_Bool (before x e)))
        (λ (ey : before e y ≡ false). ey)
        (cases_Bool (before e y))

    pub asym : (x y : E) → before x y ≡ true → before y x ≡ false
    asym x y h =
        ⊎_elim
        (λ (k : before y x ≡ true). absurd (both_ways (before x x) (o.irreflexive x) (o.transitive x y x h k)))
        (λ (k : before y x ≡ false). k)
        (cases_Bool (before y x))

    pub low_part : (e : E) (xs : List E) (k : ℕ) (d : E) → Rising before xs → k < length xs → before e (get_or xs k d) ≡ false → AllByRecursion (λ y. before e y ≡ false) (take (suc k) xs)
    low_part e [] k d s lt h = absurd (omega arith)
    low_part e (x ∷ xs) zero d s lt h = (h, tt)
    low_part e (x ∷ xs) (suc k) d s lt h =
        (not_before e (get_or xs k d) x (asym x (get_or xs k d) (All-get_or (λ y. before x y ≡ true) xs k d (omega arith) s.0)) h, low_part e xs k d s.1 (omega arith) h)

-- s is s0 with the entries from i to len moved one place on
abbrev pub Moved : {E : Type 0} → List E → List E → ℕ → ℕ → Type 0
Moved s s0 len i = (i ≤ len) × (length s ≡ length s0) × (take i s ≡ take i s0) × (take (len - i) (drop (i + 1) s) ≡ drop i (take len s0))

module _ {E : Type 0} (s s0 : List E) (len : ℕ) (room : len < length s0) where
  pub moved_start : s ≡ s0 → Moved s s0 len len
  moved_start e =
      (omega arith, ap length e, ap (take len) e, ap (λ n. take n (drop (len + 1) s)) (let z : len - len ≡ 0 = omega arith in z) ∙ sym (drop_all len (take len s0) (simp length-take (omega arith))))

  pub moved_step : (j : ℕ) (x : E) → Moved s s0 len (j + 1) → x ≡ get_or s j x → Moved (set s (j + 1) x) s0 len j
  moved_step j x m read =
      let lt : j < length s = omega arith in
      let below : j + 1 < length s = omega arith in
      let front : take j s ≡ take j s0 = sym (take-take j (j + 1) s (omega arith)) ∙ ap (take j) m.2 ∙ take-take j (j + 1) s0 (omega arith) in
      let x-is : x ≡ get_or (take len s0) j x =
      read ∙ sym (get_or-take (j + 1) s j x (omega arith)) ∙ ap (λ l. get_or l j x) m.2 ∙ get_or-take (j + 1) s0 j x (omega arith) ∙ sym (get_or-take len s0 j x (omega arith)) in
      let one : len - j ≡ suc (len - (j + 1)) = omega arith in
      let back : take (len - j) (drop (j + 1) (set s (j + 1) x)) ≡ drop j (take len s0) =
      ap (take (len - j)) (drop-set s (j + 1) x below) ∙ ap (λ n. take n (x ∷ drop (j + 1 + 1) s)) one ∙ ap (λ l. x ∷ l) m.3
      ∙ ap (λ y. y ∷ drop (j + 1) (take len s0)) x-is ∙ sym (drop_more (take len s0) j x (simp length-take (omega arith))) in
      (omega arith, length-set s (j + 1) x ∙ m.1, take-set-le j s (j + 1) x (omega arith) ∙ front, back)

  pub moved_end : (i : ℕ) (e : E) → Moved s s0 len i → take (len + 1) (set s i e) ≡ take i (take len s0) ++ e ∷ drop i (take len s0)
  moved_end i e m =
      let lt : i < length s = omega arith in
      let two : len + 1 ≡ i + suc (len - i) = omega arith in
      ap (λ n. take n (set s i e)) two ∙ take-add i (suc (len - i)) (set s i e)
      ∙ ap (λ l. l ++ take (suc (len - i)) (drop i (set s i e))) (take-set s i e ∙ m.2 ∙ sym (take-take i len s0 m.0))
      ∙ ap (λ l. take i (take len s0) ++ take (suc (len - i)) l) (drop-set s i e lt)
      ∙ ap (λ l. take i (take len s0) ++ e ∷ l) m.3

  pub moved_back : (i : ℕ) (x : E) → 0 < i → Moved s s0 len i → x ≡ get_or s (i - 1) x → Moved (set s i x) s0 len (i - 1)
  moved_back i x pos =
      let e : i - 1 + 1 ≡ i = omega arith in
      subst (λ (n : ℕ). Moved s s0 len n → x ≡ get_or s (i - 1) x → Moved (set s n x) s0 len (i - 1)) e (moved_step (i - 1) x)

  -- what s has in front of i, the sorted part of s0 has
  pub moved_read : (i k : ℕ) (x : E) → k < i → Moved s s0 len i → x ≡ get_or s k x → x ≡ get_or (take len s0) k x
  moved_read i k x lt m read =
      read ∙ sym (get_or-take i s k x lt) ∙ ap (λ l. get_or l k x) m.2 ∙ get_or-take i s0 k x lt ∙ sym (get_or-take len s0 k x (omega arith))

  pub all_back : (P : E → Type 0) (i : ℕ) (x : E) → 0 < i → Moved s s0 len i → x ≡ get_or s (i - 1) x → P x → AllByRecursion P (drop i (take len s0)) → AllByRecursion P (drop (i - 1) (take len s0))
  all_back P i x pos m read px rest =
      let e : i - 1 + 1 ≡ i = omega arith in
      let lt : i - 1 < length (take len s0) = simp length-take (omega arith) in
      let cons : drop (i - 1) (take len s0) ≡ x ∷ drop i (take len s0) =
      drop_more (take len s0) (i - 1) x lt ∙ ap (λ y. y ∷ drop (i - 1 + 1) (take len s0)) (sym (moved_read i (i - 1) x (omega arith) m read)) ∙ ap (λ n. x ∷ drop n (take len s0)) e in
      subst (AllByRecursion P) (sym cons) (px, rest)

pub all_none : {E : Type 0} (P : E → Type 0) (len : ℕ) (s : List E) → AllByRecursion P (drop len (take len s))
all_none P len s = subst (AllByRecursion P) (sym (drop_all len (take len s) (simp length-take (omega arith)))) tt

module _ {E : Type 0} (before : E → E → Bool) (s s0 : List E) (len : ℕ) (room : len < length s0) (i : ℕ) (e : E) (m : Moved s s0 len i) (high : AllByRecursion (λ y. before e y ≡ true) (drop i (take len s0))) where
  pub put_end : AllByRecursion (λ y. before e y ≡ false) (take i (take len s0)) → take (len + 1) (set s i e) ≡ insert_sorted before e (take len s0)
  put_end low =
      moved_end s s0 len room i e m ∙ sym (insert_split before e (take i (take len s0)) (drop i (take len s0)) low high)
      ∙ ap (insert_sorted before e) (take-append-drop i (take len s0))

  pub put_first : i ≤ 0 → take (len + 1) (set s i e) ≡ insert_sorted before e (take len s0)
  put_first z = put_end (let n : i ≡ 0 = omega arith in subst (λ (k : ℕ). AllByRecursion (λ y. before e y ≡ false) (take k (take len s0))) (sym n) tt)

  pub put_after : (o : Total before) (x : E) → Rising before (take len s0) → 0 < i → x ≡ get_or s (i - 1) x → before e x ≡ false → take (len + 1) (set s i e) ≡ insert_sorted before e (take len s0)
  put_after o x rising pos read no' =
      let e1 : suc (i - 1) ≡ i = omega arith in
      let lt : i - 1 < length (take len s0) = simp length-take (omega arith) in
      put_end (subst (λ (k : ℕ). AllByRecursion (λ y. before e y ≡ false) (take k (take len s0))) e1
      (low_part before o e (take len s0) (i - 1) x rising lt (ap (before e) (sym (moved_read s s0 len room i (i - 1) x (omega arith) m read)) ∙ no')))
