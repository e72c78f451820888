-- The steps of a heap, and what its root is to its list. Assumes nothing.
use Rattle.std.proofs.Common.{◌≡◌, ℕ, zero, suc, ◌+◌, ◌-◌, ◌*◌, ◌/◌, ◌<◌, ◌≤◌, Bool, true, false, List, [], ◌∷◌, ◌++◌, length, get_or, take, set, sym, refl, ap, ◌∙◌, ⊎_elim, arith}
use Rattle.std.specs.List.{SwappedAt, slice_get}
use Rattle.std.proofs.lemmas.List.{get_or_append_left, get_or_read, get_or-take, length-take, take_more, take_more_set}
use Rattle.std.proofs.ByRecursion.{All-from_get_or}
use Rattle.std.proofs.lemmas.List.Edits.{Swapped}
use Rattle.std.proofs.lemmas.Bool.{cases_eq}
use Rattle.queue.specs.Order.{Total, sorted, insert_sorted}
use Rattle.queue.specs.Meaning.{first_of, rest_of}
use Rattle.queue.specs.Heaps.{Child, Heap, Above, Beneath, Across, Least}
use Rattle.queue.proofs.Putting.{not_before, asym}
use Rattle.queue.proofs.Multiset.{sorted_first, sorted_push}

module _ {E : Type 0} (before : E → E → Bool) (o : Total before) (f f' : ℕ → E) (n : ℕ) where
  at2 : (c q : ℕ) (u v : E) → f' c ≡ u → f' q ≡ v → before u v ≡ false → before (f' c) (f' q) ≡ false
  at2 c q u v ec eq h = ap (λ z. before z (f' q)) ec ∙ ap (before u) eq ∙ h

  module _ (i p : ℕ) (sw : Swapped f f' i p) (ch : Child p i) (less : before (f i) (f p) ≡ true) (within : i < n)
      (ab : (q c : ℕ) → Child q c → c < n → (c ≡ i → ⊥) → before (f c) (f q) ≡ false)
      (ac : (q c : ℕ) → Child q i → Child i c → c < n → before (f c) (f q) ≡ false) where
    pub up_above : (q c : ℕ) → Child q c → c < n → (c ≡ p → ⊥) → before (f' c) (f' q) ≡ false
    up_above q c chq lt np =
        ⊎_elim
        (λ (ei : c ≡ i). let eq : q ≡ p = omega arith in
        at2 c q (f p) (f i) (ap f' ei ∙ sw.0) (ap f' eq ∙ sw.1) (asym before o (f i) (f p) less))
        (λ (ni : c ≡ i → ⊥).
        ⊎_elim
        (λ (eq : q ≡ p).
        at2 c q (f c) (f i) (sw.2 c ni np) (ap f' eq ∙ sw.1)
        (not_before before o (f c) (f p) (f i) (asym before o (f i) (f p) less) (ab p c (omega arith, omega arith) lt ni)))
        (λ (nq : q ≡ p → ⊥).
        ⊎_elim
        (λ (eq : q ≡ i). at2 c q (f c) (f p) (sw.2 c ni np) (ap f' eq ∙ sw.0) (ac p c ch (omega arith, omega arith) lt))
        (λ (mq : q ≡ i → ⊥). at2 c q (f c) (f q) (sw.2 c ni np) (sw.2 q mq nq) (ab q c chq lt ni))
        (cases_eq q i))
        (cases_eq q p))
        (cases_eq c i)

    pub up_across : (q c : ℕ) → Child q p → Child p c → c < n → before (f' c) (f' q) ≡ false
    up_across q c chq chc lt =
        let top : before (f p) (f q) ≡ false = ab q p chq (omega arith) (λ e. omega arith) in
        let same : f' q ≡ f q = sw.2 q (λ e. omega arith) (λ e. omega arith) in
        ⊎_elim
        (λ (ei : c ≡ i). at2 c q (f p) (f q) (ap f' ei ∙ sw.0) same top)
        (λ (ni : c ≡ i → ⊥). at2 c q (f c) (f q) (sw.2 c ni (λ e. omega arith)) same (not_before before o (f c) (f p) (f q) top (ab p c chc lt ni)))
        (cases_eq c i)

  module _ (i m : ℕ) (sw : Swapped f f' i m) (ch : Child i m) (within : m < n) (less : before (f m) (f i) ≡ true)
      (least : (c : ℕ) → Child i c → c < n → before (f c) (f m) ≡ false)
      (be : (q c : ℕ) → Child q c → c < n → (q ≡ i → ⊥) → before (f c) (f q) ≡ false)
      (ac : (q c : ℕ) → Child q i → Child i c → c < n → before (f c) (f q) ≡ false) where
    pub down_beneath : (q c : ℕ) → Child q c → c < n → (q ≡ m → ⊥) → before (f' c) (f' q) ≡ false
    down_beneath q c chq lt nm =
        ⊎_elim
        (λ (eq : q ≡ i).
        ⊎_elim
        (λ (em : c ≡ m). at2 c q (f i) (f m) (ap f' em ∙ sw.1) (ap f' eq ∙ sw.0) (asym before o (f m) (f i) less))
        (λ (nc : c ≡ m → ⊥). at2 c q (f c) (f m) (sw.2 c (λ e. omega arith) nc) (ap f' eq ∙ sw.0) (least c (omega arith, omega arith) lt))
        (cases_eq c m))
        (λ (nq : q ≡ i → ⊥).
        ⊎_elim
        (λ (ei : c ≡ i). at2 c q (f m) (f q) (ap f' ei ∙ sw.0) (sw.2 q nq nm) (ac q m (omega arith, omega arith) ch within))
        (λ (ni : c ≡ i → ⊥). at2 c q (f c) (f q) (sw.2 c ni (λ e. nq (omega arith))) (sw.2 q nq nm) (be q c chq lt nq))
        (cases_eq c i))
        (cases_eq q i)

    pub down_across : (q c : ℕ) → Child q m → Child m c → c < n → before (f' c) (f' q) ≡ false
    down_across q c chq chc lt =
        let eq : q ≡ i = omega arith in
        at2 c q (f c) (f m) (sw.2 c (λ e. omega arith) (λ e. omega arith)) (ap f' eq ∙ sw.0) (be m c chc lt (λ e. omega arith))

-- the root comes first
module _ {E : Type 0} (before : E → E → Bool) (o : Total before) (s : List E) (n : ℕ) (d : E) (heap : Heap before s n) where
  root_by : (m k : ℕ) → k ≤ m → k < n → before (get_or s k d) (get_or s 0 d) ≡ false
  root_by zero k le lt = let z : k ≡ 0 = omega arith in ap (λ j. before (get_or s j d) (get_or s 0 d)) z ∙ o.irreflexive (get_or s 0 d)
  root_by (suc m) k le lt =
      ⊎_elim
      (λ (z : k ≡ 0). ap (λ j. before (get_or s j d) (get_or s 0 d)) z ∙ o.irreflexive (get_or s 0 d))
      (λ (z : k ≡ 0 → ⊥).
      not_before before o (get_or s k d) (get_or s ((k - 1) / 2) d) (get_or s 0 d) (root_by m ((k - 1) / 2) (omega arith) (omega arith)) (heap ((k - 1) / 2) k d (omega arith, omega arith) lt))
      (cases_eq k 0)

  pub root_first : (k : ℕ) → k < n → before (get_or s k d) (get_or s 0 d) ≡ false
  root_first k lt = root_by k k (omega arith) lt

module _ {E : Type 0} (before : E → E → Bool) (o : Total before) (s : List E) (n : ℕ) where
  -- `before` of two that were read, at any default
  pub read2 : (t : Bool) (i j : ℕ) (x y d : E) → i < length s → j < length s → x ≡ get_or s i x → y ≡ get_or s j y → before x y ≡ t → before (get_or s i d) (get_or s j d) ≡ t
  read2 t i j x y d p q rx ry h =
      ap (λ z. before z (get_or s j d)) (sym (get_or_read s i x p rx d)) ∙ ap (before x) (sym (get_or_read s j y q ry d)) ∙ h

  module _ (s' : List E) (i p : ℕ) (x y : E) (ip : i < length s) (pp : p < length s) (rx : x ≡ get_or s i x) (ry : y ≡ get_or s p y) (ch : Child p i) (sw : SwappedAt s s' i p)
      (less : before x y ≡ true) (within : i < n) (ab : Above before s n i) (ac : Across before s n i) where
    pub step_above : Above before s' n p
    step_above q c d =
        up_above before o (λ k. get_or s k d) (λ k. get_or s' k d) n i p (sw.0 d, sw.1 d, λ k. sw.2 k d) ch
        (read2 true i p x y d ip pp rx ry less) within (λ q' c'. ab q' c' d) (λ q' c'. ac q' c' d) q c

    pub step_across : Across before s' n p
    step_across q c d =
        up_across before o (λ k. get_or s k d) (λ k. get_or s' k d) n i p (sw.0 d, sw.1 d, λ k. sw.2 k d) ch
        (read2 true i p x y d ip pp rx ry less) within (λ q' c'. ab q' c' d) (λ q' c'. ac q' c' d) q c

  module _ (i m : ℕ) (x y : E) (ip : i < length s) (mp : m < length s) (rx : x ≡ get_or s i x) (ry : y ≡ get_or s m y) (least : Least before s n i m)
      (be : Beneath before s n i) where
    pub heap_end : before y x ≡ false → Heap before s n
    heap_end h p c d ch lt =
        ⊎_elim
        (λ (e : p ≡ i).
        ap (λ k. before (get_or s c d) (get_or s k d)) e
        ∙ not_before before o (get_or s c d) (get_or s m d) (get_or s i d) (read2 false m i y x d mp ip ry rx h) (least.2 c d (omega arith, omega arith) lt))
        (λ (ne : p ≡ i → ⊥). be p c d ch lt ne)
        (cases_eq p i)

    module _ (s' : List E) (sw : SwappedAt s s' i m) (less : before y x ≡ true) (ac : Across before s n i) where
      pub step_beneath : Beneath before s' n m
      step_beneath q c d =
          down_beneath before o (λ k. get_or s k d) (λ k. get_or s' k d) n i m (sw.0 d, sw.1 d, λ k. sw.2 k d) least.0 least.1
          (read2 true m i y x d mp ip ry rx less) (λ c'. least.2 c' d) (λ q' c'. be q' c' d) (λ q' c'. ac q' c' d) q c

      pub step_across_down : Across before s' n m
      step_across_down q c d =
          down_across before o (λ k. get_or s k d) (λ k. get_or s' k d) n i m (sw.0 d, sw.1 d, λ k. sw.2 k d) least.0 least.1
          (read2 true m i y x d mp ip ry rx less) (λ c'. least.2 c' d) (λ q' c'. be q' c' d) (λ q' c'. ac q' c' d) q c

  pub least_right : (i : ℕ) (x y : E) → 2 * i + 1 + 1 < n → n ≤ length s → x ≡ get_or s (2 * i + 1 + 1) x → y ≡ get_or s (2 * i + 1) y → before x y ≡ true → Least before s n i (2 * i + 1 + 1)
  least_right i x y lt le rx ry less = (
    (omega arith, omega arith),
    lt,
    λ c d ch cn.
        ⊎_elim
        (λ (e : c ≡ 2 * i + 1 + 1). ap (λ k. before (get_or s k d) (get_or s (2 * i + 1 + 1) d)) e ∙ o.irreflexive (get_or s (2 * i + 1 + 1) d))
        (λ (ne : c ≡ 2 * i + 1 + 1 → ⊥). let e : c ≡ 2 * i + 1 = omega arith in
        ap (λ k. before (get_or s k d) (get_or s (2 * i + 1 + 1) d)) e
        ∙ asym before o (get_or s (2 * i + 1 + 1) d) (get_or s (2 * i + 1) d) (read2 true (2 * i + 1 + 1) (2 * i + 1) x y d (omega arith) (omega arith) rx ry less))
        (cases_eq c (2 * i + 1 + 1)),
  )

module _ {E : Type 0} (before : E → E → Bool) (o : Total before) where
  heap_list_lem : (x : E) (s : List E) (n : ℕ) → suc n ≤ length (x ∷ s) → Heap before (x ∷ s) (suc n) → sorted before (take (suc n) (x ∷ s)) ≡ x ∷ sorted before (take n s)
  heap_list_lem x s n le heap =
      sorted_first before o x (take n s)
      (All-from_get_or (λ y. before y x ≡ false) (take n s) x
      (λ k lt. let kn : k < n = omega (arith, length-take n s) in
      ap (λ y. before y x) (get_or-take n s k x kn) ∙ root_first before o (x ∷ s) (suc n) x heap (suc k) (omega arith)))

  pub heap_first : (s : List E) (len : ℕ) → len ≤ length s → Heap before s len → slice_get (take len s) 0 ≡ first_of (sorted before (take len s))
  heap_first [] zero le heap = refl
  heap_first [] (suc n) le heap = absurd (omega arith)
  heap_first (x ∷ s) zero le heap = refl
  heap_first (x ∷ s) (suc n) le heap = sym (ap first_of (heap_list_lem x s n le heap))

  rest_at : (x : E) (s : List E) (n : ℕ) (d : E) → n ≤ length s → sorted before (take n (set (x ∷ s) 0 (get_or (x ∷ s) n d))) ≡ sorted before (take n s)
  rest_at x s zero d le = refl
  rest_at x s (suc m) d le =
      sym (sorted_push before o (take m s) (get_or s m d))
      ∙ ap (sorted before) (sym (take_more s m d (omega arith)) ∙ ap (λ k. take k s) (let e : m + 1 ≡ suc m = omega arith in e))

  pub heap_rest : (s : List E) (len : ℕ) (d : E) → 0 < len → len ≤ length s → Heap before s len → sorted before (take (len - 1) (set s 0 (get_or s (len - 1) d))) ≡ rest_of (sorted before (take len s))
  heap_rest [] len d pos le heap = absurd (omega arith)
  heap_rest (x ∷ s) zero d pos le heap = absurd (omega arith)
  heap_rest (x ∷ s) (suc n) d pos le heap =
      let e : suc n - 1 ≡ n = omega arith in
      ap (λ k. sorted before (take k (set (x ∷ s) 0 (get_or (x ∷ s) k d)))) e ∙ rest_at x s n d (omega arith) ∙ sym (ap rest_of (heap_list_lem x s n le heap))

  pub heap_insert : (s : List E) (len : ℕ) (e : E) → len < length s → sorted before (take (len + 1) (set s len e)) ≡ insert_sorted before e (sorted before (take len s))
  heap_insert s len e lt = ap (sorted before) (take_more_set s len e lt) ∙ sorted_push before o (take len s) e

-- a heap is one in front of other entries
pub used_heap : {E : Type 0} (before : E → E → Bool) (s rest : List E) (n : ℕ) → n ≡ length s → Heap before s (length s) → Heap before (s ++ rest) n
used_heap before s rest n size heap p c d ch lt =
    let read : (k : ℕ) → k < length s → get_or (s ++ rest) k d ≡ get_or s k d = get_or_append_left s rest d in
    ap (λ x. before x (get_or (s ++ rest) p d)) (read c (omega arith)) ∙ ap (before (get_or s c d)) (read p (omega arith)) ∙ heap p c d ch (omega arith)
