-- Sorting does not see in which order its entries stand. Assumes nothing.
use Rattle.std.proofs.Common.{◌≡◌, ℕ, zero, suc, ◌<◌, Bool, true, false, cond, ◌≢◌, List, [], ◌∷◌, ◌++◌, length, get_or, set, sym, refl, ap, ◌∙◌, ⊎_elim, arith}
use Rattle.std.specs.List.{AllByRecursion, SwappedAt}
use Rattle.std.proofs.lemmas.List.{set-get_or}
use Rattle.std.proofs.lemmas.Bool.{cases_Bool, cond-true, cond-false}
use Rattle.queue.specs.Order.{Total, insert_sorted, sorted}
use Rattle.queue.proofs.Putting.{not_before, asym}
use Rattle.queue.proofs.Sounding.{all_insert}

module _ {E : Type 0} (before : E → E → Bool) where
  ins_here : (e x : E) (xs : List E) → before e x ≡ true → insert_sorted before e (x ∷ xs) ≡ e ∷ x ∷ xs
  ins_here e x xs h = cond-true (before e x) _ _ h

  ins_there : (e x : E) (xs : List E) → before e x ≡ false → insert_sorted before e (x ∷ xs) ≡ x ∷ insert_sorted before e xs
  ins_there e x xs h = cond-false (before e x) _ _ h

  pub all_sorted : (P : E → Type 0) (xs : List E) → AllByRecursion P xs → AllByRecursion P (sorted before xs)
  all_sorted P [] all = tt
  all_sorted P (x ∷ xs) all = all_insert before P x (sorted before xs) all.0 (all_sorted P xs all.1)

  module _ (o : Total before) where
    -- the first of two that are put in front of l
    pair_comm : (a b : E) (l : List E) → cond (before a b) (a ∷ b ∷ l) (b ∷ a ∷ l) ≡ cond (before b a) (b ∷ a ∷ l) (a ∷ b ∷ l)
    pair_comm a b l =
        ⊎_elim
        (λ (p : before a b ≡ true). cond-true (before a b) _ _ p ∙ sym (cond-false (before b a) _ _ (asym before o a b p)))
        (λ (p : before a b ≡ false).
        ⊎_elim
        (λ (q : before b a ≡ true). cond-false (before a b) _ _ p ∙ sym (cond-true (before b a) _ _ q))
        (λ (q : before b a ≡ false).
        let e : a ≡ b = o.total a b p q in
        cond-false (before a b) _ _ p ∙ ap (λ z. b ∷ z ∷ l) e ∙ ap (λ z. z ∷ b ∷ l) (sym e) ∙ sym (cond-false (before b a) _ _ q))
        (cases_Bool (before b a)))
        (cases_Bool (before a b))

    mixed : (a b x : E) (xs : List E) → before a x ≡ true → before b x ≡ false → insert_sorted before a (insert_sorted before b (x ∷ xs)) ≡ insert_sorted before b (insert_sorted before a (x ∷ xs))
    mixed a b x xs ax bx =
        let ba : before b a ≡ false = not_before before o b x a (asym before o a x ax) bx in
        ap (insert_sorted before a) (ins_there b x xs bx) ∙ ins_here a x (insert_sorted before b xs) ax
        ∙ sym (ap (insert_sorted before b) (ins_here a x xs ax) ∙ ins_there b a (x ∷ xs) ba ∙ ap (λ l. a ∷ l) (ins_there b x xs bx))

    pub ins_comm : (a b : E) (xs : List E) → insert_sorted before a (insert_sorted before b xs) ≡ insert_sorted before b (insert_sorted before a xs)
    ins_comm a b [] = pair_comm a b []
    ins_comm a b (x ∷ xs) =
        ⊎_elim
        (λ (ax : before a x ≡ true).
        ⊎_elim
        (λ (bx : before b x ≡ true).
        ap (insert_sorted before a) (ins_here b x xs bx) ∙ ap (λ l. cond (before a b) (a ∷ b ∷ x ∷ xs) (b ∷ l)) (ins_here a x xs ax)
        ∙ pair_comm a b (x ∷ xs)
        ∙ sym (ap (insert_sorted before b) (ins_here a x xs ax) ∙ ap (λ l. cond (before b a) (b ∷ a ∷ x ∷ xs) (a ∷ l)) (ins_here b x xs bx)))
        (λ (bx : before b x ≡ false). mixed a b x xs ax bx)
        (cases_Bool (before b x)))
        (λ (ax : before a x ≡ false).
        ⊎_elim
        (λ (bx : before b x ≡ true). sym (mixed b a x xs bx ax))
        (λ (bx : before b x ≡ false).
        ap (insert_sorted before a) (ins_there b x xs bx) ∙ ins_there a x (insert_sorted before b xs) ax ∙ ap (λ l. x ∷ l) (ins_comm a b xs)
        ∙ sym (ap (insert_sorted before b) (ins_there a x xs ax) ∙ ins_there b x (insert_sorted before a xs) bx))
        (cases_Bool (before b x)))
        (cases_Bool (before a x))

    pub sorted_push : (xs : List E) (e : E) → sorted before (xs ++ e ∷ []) ≡ insert_sorted before e (sorted before xs)
    sorted_push [] e = refl
    sorted_push (x ∷ xs) e = ap (insert_sorted before x) (sorted_push xs e) ∙ ins_comm x e (sorted before xs)

    put_out : (xs : List E) (j : ℕ) (a b : E) → j < length xs → insert_sorted before a (sorted before (set xs j b)) ≡ insert_sorted before b (sorted before (set xs j a))
    put_out [] j a b lt = absurd (omega arith)
    put_out (x ∷ xs) zero a b lt = ins_comm a b (sorted before xs)
    put_out (x ∷ xs) (suc j) a b lt =
        ins_comm a x (sorted before (set xs j b)) ∙ ap (insert_sorted before x) (put_out xs j a b (omega arith)) ∙ ins_comm x b (sorted before (set xs j a))

    pub sort_swap : (xs : List E) (i j : ℕ) (a b : E) → i < length xs → j < length xs → i ≢ j → sorted before (set (set xs i a) j b) ≡ sorted before (set (set xs i b) j a)
    sort_swap [] i j a b p q ne = absurd (omega arith)
    sort_swap (x ∷ xs) zero zero a b p q ne = absurd (ne refl)
    sort_swap (x ∷ xs) zero (suc j) a b p q ne = put_out xs j a b (omega arith)
    sort_swap (x ∷ xs) (suc i) zero a b p q ne = put_out xs i b a (omega arith)
    sort_swap (x ∷ xs) (suc i) (suc j) a b p q ne = ap (insert_sorted before x) (sort_swap xs i j a b (omega arith) (omega arith) (λ e. ne (ap suc e)))

    pub sorted_swapped : (s s' : List E) (i j : ℕ) → i < length s → j < length s → i ≢ j → SwappedAt s s' i j → sorted before s' ≡ sorted before s
    sorted_swapped [] s' i j p q ne sw = absurd (omega arith)
    sorted_swapped (d ∷ r) s' i j p q ne sw =
        let s : List E = d ∷ r in
        ap (sorted before) (sw.3 d) ∙ sort_swap s i j (get_or s j d) (get_or s i d) p q ne
        ∙ ap (λ l. sorted before (set l j (get_or s j d))) (set-get_or s i d) ∙ ap (sorted before) (set-get_or s j d)

    -- what nothing comes before stands first
    pub ins_first : (x : E) (ys : List E) → AllByRecursion (λ y. before y x ≡ false) ys → insert_sorted before x ys ≡ x ∷ ys
    ins_first x [] all = refl
    ins_first x (y ∷ ys) all =
        ⊎_elim
        (λ (p : before x y ≡ true). ins_here x y ys p)
        (λ (p : before x y ≡ false).
        let e : x ≡ y = o.total x y p all.0 in
        ins_there x y ys p ∙ ap (λ l. y ∷ l) (ins_first x ys all.1) ∙ ap (λ z. y ∷ z ∷ ys) e ∙ ap (λ z. z ∷ y ∷ ys) (sym e))
        (cases_Bool (before x y))

    pub sorted_first : (x : E) (xs : List E) → AllByRecursion (λ y. before y x ≡ false) xs → sorted before (x ∷ xs) ≡ x ∷ sorted before xs
    sorted_first x xs all = ins_first x (sorted before xs) (all_sorted (λ y. before y x ≡ false) xs all)
