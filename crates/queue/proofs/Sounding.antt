-- What an insert and a take leave of a sound list, and what follows from a refusal or none. Assumes nothing.
use Rattle.std.proofs.Common.{◌≡◌, ℕ, zero, suc, ◌+◌, ◌<◌, Bool, true, false, cond, ◌||◌, eqb, leb, List, [], ◌∷◌, length, get_or, take, drop, Some, None, Ok, Option, sym, refl, ap, ◌∙◌, ⊎_elim, arith}
use Rattle.std.specs.List.{AllByRecursion}
use Rattle.std.specs.Result.{OnOk}
use Rattle.std.proofs.ByRecursion.{All-weaker}
use Rattle.std.proofs.lemmas.Bool.{cases_Bool, cond-true, cond-false, cond_both, or_parts, or_from, ne_eqb, eqb-false, leb-false}
use Rattle.queue.specs.declared.refusal.Refusal.{Refusal}
use Rattle.queue.specs.declared.refusal.Refusal.TheVariants.{Present, Full}
use Rattle.queue.specs.Order.{Order, Total, insert_sorted, sorted, Rising}
use Rattle.queue.specs.Meaning.{limit, first_of, rest_of, queued, Distinct, Sound}
use Rattle.queue.specs.Answer.{unfit, chosen, refusal_of, answer_of, answered}
use Rattle.queue.proofs.Queued.{queued_insert, queued_sorted}

pub first_is : {E : Type 0} (s : List E) (len : ℕ) (d : E) → 0 < len → 0 < length s → Some (get_or s 0 d) ≡ first_of (take len s)
first_is [] len d p q = absurd (omega arith)
first_is (x ∷ s) zero d p q = absurd (omega arith)
first_is (x ∷ s) (suc len) d p q = refl

pub rest_is : {E : Type 0} (xs : List E) → drop 1 xs ≡ rest_of xs
rest_is [] = refl
rest_is (x ∷ xs) = refl

module _ {E : Type 0} (before : E → E → Bool) where
  pub all_insert : (P : E → Type 0) (e : E) (xs : List E) → P e → AllByRecursion P xs → AllByRecursion P (insert_sorted before e xs)
  all_insert P e [] pe all = (pe, tt)
  all_insert P e (x ∷ xs) pe all = cond_both (before e x) _ _ (AllByRecursion P) (λ _. (pe, all)) (λ _. (all.0, all_insert P e xs pe all.1))

  pub length-insert : (e : E) (xs : List E) → length (insert_sorted before e xs) ≡ length xs + 1
  length-insert e [] = refl
  length-insert e (x ∷ xs) =
      cond_both (before e x) _ _ (λ l. length l ≡ length (x ∷ xs) + 1) (λ _. omega arith) (λ _. omega (arith, length-insert e xs))

  pub length-sorted : (xs : List E) → length (sorted before xs) ≡ length xs
  length-sorted [] = refl
  length-sorted (x ∷ xs) = omega (arith, length-insert x (sorted before xs), length-sorted xs)

turned : (a b : ℕ) → eqb a b ≡ false → eqb b a ≡ false
turned a b h = ne_eqb b a (λ e. eqb-false a b h (sym e))

module _ {E : Type 0} (before : E → E → Bool) (t : Total before) (task : E → ℕ) (e : E) where
  pub rising_insert : (xs : List E) → queued task (task e) xs ≡ false → Rising before xs → Rising before (insert_sorted before e xs)
  rising_insert [] out r = (tt, tt)
  rising_insert (x ∷ xs) out r =
      let apart = or_parts (eqb (task x) (task e)) (queued task (task e) xs) out in
      cond_both (before e x) _ _ (Rising before)
      (λ h. ((h, All-weaker (λ y. before x y ≡ true) (λ y. before e y ≡ true) (λ y k. t.transitive e x y h k) xs r.0), r))
      (λ h.
      let late : before x e ≡ true =
      ⊎_elim
      (λ (k : before x e ≡ true). k)
      (λ (k : before x e ≡ false). absurd (eqb-false (task x) (task e) apart.0 (ap task (t.total x e k h))))
      (cases_Bool (before x e)) in
      (all_insert before (λ y. before x y ≡ true) e xs late r.0, rising_insert xs apart.1 r.1))

  pub distinct_insert : (xs : List E) → queued task (task e) xs ≡ false → Distinct task xs → Distinct task (insert_sorted before e xs)
  distinct_insert [] out d = (refl, tt)
  distinct_insert (x ∷ xs) out d =
      let apart = or_parts (eqb (task x) (task e)) (queued task (task e) xs) out in
      cond_both (before e x) _ _ (Distinct task)
      (λ _. (out, d))
      (λ _. (queued_insert before task (task x) e xs ∙ or_from _ _ (turned (task x) (task e) apart.0) d.0, distinct_insert xs apart.1 d.1))

module _ {E : Type 0} (o : Order E) (capacity : ℕ) where
  pub sound_rest : (xs : List E) → Sound o capacity xs → Sound o capacity (rest_of xs)
  sound_rest [] s = s
  sound_rest (x ∷ xs) s = record { limited = s.limited; fits = omega (arith, s.fits); rising = s.rising.1; distinct = s.distinct.1; numbered = s.numbered.1 }

  module _ (e : E) (xs : List E) where
    pub fit_from : refusal_of o capacity e xs ≡ None → (queued o.task_of (o.task_of e) xs ≡ false) × (length xs < capacity) × (o.task_of e < limit)
    fit_from h =
        ⊎_elim
        (λ (bad : unfit o e xs ≡ true). let c = sym (cond-true (unfit o e xs) (Some Present) (cond (leb capacity (length xs)) (Some Full) None) bad) ∙ h in let z : ◌≡◌ {A = ℕ} 0 1 = cc in absurd (omega arith))
        (λ (good : unfit o e xs ≡ false).
        ⊎_elim
        (λ (full : leb capacity (length xs) ≡ true).
        let c = sym (cond-false (unfit o e xs) (Some Present) (cond (leb capacity (length xs)) (Some Full) None) good ∙ cond-true (leb capacity (length xs)) (Some Full) None full) ∙ h in let z : ◌≡◌ {A = ℕ} 0 1 = cc in absurd (omega arith))
        (λ (free : leb capacity (length xs) ≡ false). ((or_parts _ _ good).1, leb-false capacity (length xs) free, leb-false limit (o.task_of e) (or_parts (leb limit (o.task_of e)) (queued o.task_of (o.task_of e) xs) good).0))
        (cases_Bool (leb capacity (length xs))))
        (cases_Bool (unfit o e xs))

    pub sound_insert : Total o.before → Sound o capacity xs → refusal_of o capacity e xs ≡ None → Sound o capacity (insert_sorted o.before e xs)
    sound_insert t s h =
        let fit = fit_from h in
        record {
          limited = s.limited;
          fits = omega (arith, length-insert o.before e xs, fit.1);
          rising = rising_insert o.before t o.task_of e xs fit.0 s.rising;
          distinct = distinct_insert o.before t o.task_of e xs fit.0 s.distinct;
          numbered = all_insert o.before (λ x. o.task_of x < limit) e xs fit.2 s.numbered;
        }

    -- a refusal sees the entries of a list, and not how they stand
    pub refusal_sorted : refusal_of o capacity e (sorted o.before xs) ≡ refusal_of o capacity e xs
    refusal_sorted =
        ap (λ b. chosen (leb limit (o.task_of e) || b) (leb capacity (length (sorted o.before xs)))) (queued_sorted o.before o.task_of (o.task_of e) xs)
        ∙ ap (λ n. chosen (unfit o e xs) (leb capacity n)) (length-sorted o.before xs)

pub not_refused : (r : Option Refusal) (u : Unit {0}) → answer_of r ≡ Ok u → r ≡ None
not_refused None u h = refl
not_refused (Some r) u h = cc

-- what is not refused finds room after the entries in use
pub room_after : {E : Type 0} (o : Order E) (capacity : ℕ) (e : E) (xs : List E) (len : ℕ) → length xs ≡ len → OnOk (answered o capacity e xs) (len < capacity)
room_after o capacity e xs len size = by_refusal (refusal_of o capacity e xs) refl where
  by_refusal : (r : Option Refusal) → refusal_of o capacity e xs ≡ r → OnOk (answer_of r) (len < capacity)
  by_refusal None h = omega (arith, (fit_from o capacity e xs h).1)
  by_refusal (Some r) h = tt
