-- What is collected of a chain that ends in `map`, where a relation is known of what the closure answers.
use Rattle.std.proofs.Common.{◌≡◌, List, [], ◌∷◌, map, ap, ◌∙◌, sym, subst, Ok, Err, Option, Result, Vec, vec_items, IfOk}
use Rattle.std.specs.List.{AllByRecursion}
use Rattle.std.specs.Fn.{Called}
use Rattle.std.specs.Iterator.{Yields}
use Rattle.std.specs.Iterator.Adapters.{map_steps, map_source, map_callee}
use Rattle.std.specs.declared.iter.Map.{Map}
use Rattle.std.proofs.lemmas.List.{map-id}
use Rattle.std.proofs.lemmas.Iterator.{YieldsList, YieldsList-from_map_by, IsCollectResult, items_from_drains}
use denote.Param.Members.{Mut}

module _ {S A B F R : Type 0} (steps : S → Option A → S → Type 0) (v : A → B) (g : Mut F (A × Unit {0}) R) (w : R → B) (P : R → Type 0) (f : F) (answers : (x : A) (r : R) (q : F) → Called g f (x, tt) r q → (q ≡ f) × (w r ≡ v x) × P r) where
  each : (s t : Map S F) (xs : List R) → map_callee s ≡ f → Yields (map_steps steps g) s xs t → AllByRecursion P xs
  each s t [] e y = tt
  each s t (x ∷ xs) e (u, (a, gave, called), more) =
      let here = answers a x (map_callee u) (subst (λ h. Called g h (a, tt) x (map_callee u)) e called) in (here.2, each u t xs here.0 more)

  pub collected_by_map : {Z E : Type 0} (s : Map S F) (r : Result (Vec R Z) E) (all : List B) → IsCollectResult (map_steps steps g) s r → map_callee s ≡ f → YieldsList steps v (map_source s) all → IfOk r (λ z. (map w (vec_items z) ≡ all) × AllByRecursion P (vec_items z))
  collected_by_map s (Err e) all ran closure road = tt
  collected_by_map s (Ok z) all (xs, drains, items) closure road = (
    ap (map w) items.0 ∙ items_from_drains xs drains (YieldsList-from_map_by g w (λ b. b) road closure (λ x r q k. ((answers x r q k).0, (answers x r q k).1))) ∙ map-id all,
    subst (AllByRecursion P) (sym items.0) (each s drains.0 xs closure drains.1),
  )
