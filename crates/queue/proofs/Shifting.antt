-- Moving every entry of a list one place back, entry by entry. Assumes nothing.
use Rattle.std.proofs.Common.{◌≡◌, ℕ, ◌+◌, ◌-◌, ◌<◌, List, [], ◌∷◌, ◌++◌, length, get_or, take, drop, set, sym, ap, ◌∙◌, arith}
use Rattle.std.proofs.lemmas.List.{take_more, take_more_set, get_or-drop, drop-drop, drop-set-lt, take_all, length-drop}

-- the entries in front of i are moved, and the others stand where they stood
abbrev pub Shifted : {E : Type 0} → List E → List E → ℕ → Type 0
Shifted s s0 i = (take (i - 1) s ≡ take (i - 1) (drop 1 s0)) × (drop i s ≡ drop i s0)

pub shifted_step : {E : Type 0} (s s0 : List E) (i : ℕ) (x : E) → 0 < i → i < length s0 → length s ≡ length s0 → Shifted s s0 i → x ≡ get_or s i x → Shifted (set s (i - 1) x) s0 (i + 1)
shifted_step s s0 i x pos lt same inv read =
    let n : i + 1 - 1 ≡ i - 1 + 1 = omega arith in
    let back : 1 + (i - 1) ≡ i = omega arith in
    let z : i + 0 ≡ i = omega arith in
    let x-is : x ≡ get_or (drop 1 s0) (i - 1) x =
    read ∙ ap (λ k. get_or s k x) (sym z) ∙ sym (get_or-drop i s 0 x) ∙ ap (λ l. get_or l 0 x) inv.1 ∙ get_or-drop i s0 0 x
    ∙ ap (λ k. get_or s0 k x) (let w : i + 0 ≡ 1 + (i - 1) = omega arith in w) ∙ sym (get_or-drop 1 s0 (i - 1) x) in (
      ap (λ k. take k (set s (i - 1) x)) n ∙ take_more_set s (i - 1) x (omega arith) ∙ ap (λ l. l ++ x ∷ []) inv.0 ∙ ap (λ y. take (i - 1) (drop 1 s0) ++ y ∷ []) x-is
          ∙ sym (take_more (drop 1 s0) (i - 1) x (simp length-drop (omega arith))) ∙ ap (λ k. take k (drop 1 s0)) (sym n),
      drop-set-lt (i + 1) s (i - 1) x (omega arith) ∙ sym (drop-drop 1 i s) ∙ ap (drop 1) inv.1 ∙ drop-drop 1 i s0,
    )

pub shifted_end : {E : Type 0} (s s0 : List E) (i : ℕ) → i ≡ length s0 → Shifted s s0 i → take (length s0 - 1) s ≡ drop 1 s0
shifted_end s s0 i e inv =
    ap (λ n. take (n - 1) s) (sym e) ∙ inv.0 ∙ ap (λ n. take (n - 1) (drop 1 s0)) e ∙ take_all (length s0 - 1) (drop 1 s0) (omega (arith, length-drop 1 s0))
