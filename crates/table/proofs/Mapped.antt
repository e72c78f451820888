-- A list whose elements are replaced one by one, from the front, by their images.
use Rattle.std.proofs.Common.{◌≡◌, ℕ, ◌+◌, ◌<◌, List, [], ◌∷◌, ◌++◌, map, length, get_or, take, drop, set, sym, ap, ◌∙◌, append_assoc, arith}
use Rattle.std.proofs.lemmas.List.{length-map, length-take-le, map_more, drop_more, set_at, get_or_at}

module _ {X : Type 0} (f : X → X) (xs out : List X) (i : ℕ) (d : X) (within : i < length xs) (is : out ≡ map f (take i xs) ++ drop i xs) where
  split : out ≡ map f (take i xs) ++ (get_or xs i d ∷ drop (i + 1) xs)
  split = is ∙ ap (λ l. map f (take i xs) ++ l) (drop_more xs i d within)

  size : length (map f (take i xs)) ≡ i
  size = length-map (take i xs) f ∙ length-take-le i xs (omega arith)

  pub mapped_here : get_or out i d ≡ get_or xs i d
  mapped_here = ap (λ l. get_or l i d) split ∙ get_or_at (map f (take i xs)) (get_or xs i d) (drop (i + 1) xs) d i size

  pub mapped_more : (y : X) → y ≡ f (get_or xs i d) → set out i y ≡ map f (take (i + 1) xs) ++ drop (i + 1) xs
  mapped_more y e =
      ap (λ l. set l i y) split ∙ set_at (map f (take i xs)) (get_or xs i d) (drop (i + 1) xs) y i size
      ∙ ap (λ x. map f (take i xs) ++ (x ∷ drop (i + 1) xs)) e ∙ sym (append_assoc (map f (take i xs)) (f (get_or xs i d) ∷ []) (drop (i + 1) xs))
      ∙ ap (λ l. l ++ drop (i + 1) xs) (sym (map_more f xs i d within))
