-- What is true of every run from a sound list. Assumes nothing.
use Rattle.std.proofs.Common.{◌≡◌, ℕ, zero, suc, ◌+◌, ◌<◌, ◌≤◌, Bool, true, cond, List, [], ◌∷◌, ◌++◌, length, get_or, take, drop, set, Some, None, Option, sym, refl, ap, ◌∙◌, subst, arith}
use Rattle.std.specs.List.{AllByRecursion}
use Rattle.std.proofs.lemmas.List.{append_assoc, take_more_set, drop_more, drop_all, take_all, append-nil}
use Rattle.std.proofs.ByRecursion.{All-take}
use Rattle.std.proofs.lemmas.Bool.{cond_both, false≢true}
use Rattle.queue.specs.declared.refusal.Refusal.{Refusal}
use Rattle.queue.specs.declared.runs.Call.{Call}
use Rattle.queue.specs.declared.runs.Call.TheVariants.{Insert, Take}
use Rattle.queue.specs.declared.runs.Answer.{Answer}
use Rattle.queue.specs.declared.runs.Answer.TheVariants.{Inserted}
use Rattle.queue.specs.Order.{Order, Total, insert_sorted, Rising}
use Rattle.queue.specs.Meaning.{Sound}
use Rattle.queue.specs.Answer.{refusal_of, answer_of, unless}
use Rattle.queue.specs.Runs.{answer_to, list_after, answers_to, list_after_all, put_by, put_in, out_by, came_out, counted, is_take, Kept, TakesRise}
use Rattle.queue.proofs.Sounding.{sound_insert, sound_rest}

module _ {E : Type 0} (test : E → Bool) where
  counted_append : (xs ys : List E) → counted test (xs ++ ys) ≡ counted test xs + counted test ys
  counted_append [] ys = omega arith
  counted_append (x ∷ xs) ys = omega (arith, counted_append xs ys)

  counted_insert : (before : E → E → Bool) (e : E) (xs : List E) → counted test (insert_sorted before e xs) ≡ cond (test e) 1 0 + counted test xs
  counted_insert before e [] = refl
  counted_insert before e (x ∷ xs) =
      cond_both (before e x) _ _ (λ l. counted test l ≡ cond (test e) 1 0 + counted test (x ∷ xs)) (λ _. refl)
      (λ _. omega (arith, counted_insert before e xs))

  by_refusal_lem : (before : E → E → Bool) (e : E) (xs : List E) (r : Option Refusal)
      → counted test (put_by (Insert e) (Inserted (answer_of r))) + counted test xs ≡ counted test (unless r (insert_sorted before e xs) xs)
  by_refusal_lem before e xs None = omega (arith, counted_insert before e xs)
  by_refusal_lem before e xs (Some r) = omega arith

  module _ (o : Order E) (capacity : ℕ) where
    kept_by_call : (c : Call E) (xs : List E)
        → counted test (put_by c (answer_to o capacity c xs)) + counted test xs ≡ counted test (out_by (answer_to o capacity c xs)) + counted test (list_after o capacity c xs)
    kept_by_call (Insert e) xs = omega (arith, by_refusal_lem o.before e xs (refusal_of o capacity e xs))
    kept_by_call Take [] = refl
    kept_by_call Take (x ∷ xs) = omega arith

    kept_by_all : (cs : List (Call E)) (xs : List E)
        → counted test (put_in cs (answers_to o capacity cs xs)) + counted test xs ≡ counted test (came_out (answers_to o capacity cs xs)) + counted test (list_after_all o capacity cs xs)
    kept_by_all [] xs = refl
    kept_by_all (c ∷ cs) xs =
        let a = answer_to o capacity c xs in
        let ys = list_after o capacity c xs in
        omega (
          arith,
          kept_by_call c xs,
          kept_by_all cs ys,
          counted_append (put_by c a) (put_in cs (answers_to o capacity cs ys)),
          counted_append (out_by a) (came_out (answers_to o capacity cs ys)),
        )

module _ {E : Type 0} (o : Order E) (capacity : ℕ) where
  pub run_kept : (cs : List (Call E)) → Kept cs (answers_to o capacity cs []) (list_after_all o capacity cs [])
  run_kept cs test = omega (arith, kept_by_all test o capacity cs [])

  none_left : (k : ℕ) → take {A = E} k [] ≡ []
  none_left zero = refl
  none_left (suc k) = refl

  takes_out : (cs : List (Call E)) (xs : List E) (n : ℕ) → AllByRecursion (λ c. is_take c ≡ true) (take n cs)
      → came_out (take n (answers_to o capacity cs xs)) ≡ take (length (take n cs)) xs
  takes_out cs xs zero all = refl
  takes_out [] xs (suc n) all = refl
  takes_out (Insert e ∷ cs) xs (suc n) all = absurd (false≢true all.0)
  takes_out (Take ∷ cs) [] (suc n) all = takes_out cs [] n all.1 ∙ none_left (length (take n cs))
  takes_out (Take ∷ cs) (x ∷ xs) (suc n) all = ap (λ l. x ∷ l) (takes_out cs xs n all.1)

  rising_take : (n : ℕ) (xs : List E) → Rising o.before xs → Rising o.before (take n xs)
  rising_take zero xs r = tt
  rising_take (suc n) [] r = tt
  rising_take (suc n) (x ∷ xs) r = (All-take (λ y. o.before x y ≡ true) n xs r.0, rising_take n xs r.1)

  module _ (t : Total o.before) where
    sound_unless : (e : E) (xs : List E) (r : Option Refusal) → refusal_of o capacity e xs ≡ r → Sound o capacity xs → Sound o capacity (unless r (insert_sorted o.before e xs) xs)
    sound_unless e xs None h s = sound_insert o capacity e xs t s h
    sound_unless e xs (Some r) h s = s

    pub sound_after : (c : Call E) (xs : List E) → Sound o capacity xs → Sound o capacity (list_after o capacity c xs)
    sound_after (Insert e) xs s = sound_unless e xs (refusal_of o capacity e xs) refl s
    sound_after Take xs s = sound_rest o capacity xs s

    pub run_rises : (cs : List (Call E)) (xs : List E) → Sound o capacity xs → TakesRise o.before cs (answers_to o capacity cs xs)
    run_rises [] xs s zero zero all = tt
    run_rises [] xs s zero (suc n) all = tt
    run_rises [] xs s (suc i) zero all = tt
    run_rises [] xs s (suc i) (suc n) all = tt
    run_rises (c ∷ cs) xs s zero n all =
        subst (Rising o.before) (sym (takes_out (c ∷ cs) xs n all)) (rising_take (length (take n (c ∷ cs))) xs s.rising)
    run_rises (c ∷ cs) xs s (suc i) n all = run_rises cs (list_after o capacity c xs) (sound_after c xs s) i n all

  -- one call more of a run, and its end
  module _ (cs : List (Call E)) (out : List (Answer E)) (i : ℕ) where
    pub run_more : (c : Call E) (a : Answer E) (xs ys : List E) → i < length cs → i < length out → c ≡ get_or cs i c → a ≡ answer_to o capacity c xs → ys ≡ list_after o capacity c xs
        → (take (i + 1) (set out i a) ++ answers_to o capacity (drop (i + 1) cs) ys ≡ take i out ++ answers_to o capacity (drop i cs) xs)
        × (list_after_all o capacity (drop (i + 1) cs) ys ≡ list_after_all o capacity (drop i cs) xs)
    run_more c a xs ys lt room read value after =
        let left : drop i cs ≡ c ∷ drop (i + 1) cs = drop_more cs i c lt ∙ ap (λ d. d ∷ drop (i + 1) cs) (sym read) in (
          ap (λ l. l ++ answers_to o capacity (drop (i + 1) cs) ys) (take_more_set out i a room)
              ∙ append_assoc (take i out) (a ∷ []) (answers_to o capacity (drop (i + 1) cs) ys)
              ∙ ap (λ b. take i out ++ b ∷ answers_to o capacity (drop (i + 1) cs) ys) value
              ∙ ap (λ l. take i out ++ answer_to o capacity c xs ∷ answers_to o capacity (drop (i + 1) cs) l) after
              ∙ ap (λ l. take i out ++ answers_to o capacity l xs) (sym left),
          ap (list_after_all o capacity (drop (i + 1) cs)) after ∙ ap (λ l. list_after_all o capacity l xs) (sym left),
        )

    pub run_end : (xs : List E) → length cs ≤ i → length out ≤ i
        → (out ≡ take i out ++ answers_to o capacity (drop i cs) xs) × (xs ≡ list_after_all o capacity (drop i cs) xs)
    run_end xs le full = (
      sym (take_all i out full) ∙ sym (append-nil (take i out)) ∙ ap (λ l. take i out ++ answers_to o capacity l xs) (sym (drop_all i cs le)),
      ap (λ l. list_after_all o capacity l xs) (sym (drop_all i cs le)),
    )
