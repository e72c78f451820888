-- Records that are written into a list one by one, from a place on.
use Rattle.std.proofs.Common.{◌≡◌, ℕ, ◌+◌, ◌-◌, ◌<◌, ◌≤◌, List, [], ◌∷◌, ◌++◌, length, take, drop, set, sym, ap, ◌∙◌, append_assoc, append-nil, arith, take-append-drop}
use Rattle.std.proofs.lemmas.List.{take_more_set, drop-set-lt, drop-drop, drop_at, take_at, length-append, length-take-le}
use Rattle.table.specs.Record.{written}

-- of the records `all`, which go into `entry` from place n on, those before place i stand in `out`, and `rest` is to come
pub record Sofar {X : Type 0} (entry : List X) (n : ℕ) (all out : List X) (i : ℕ) (rest : List X) : Type 0 where
  pub front : take i out ++ rest ≡ take n entry ++ all
  pub place : i + length rest ≡ n + length all
  pub back : drop (n + length all) out ≡ drop (n + length all) entry

pub wrote : {X : Type 0} (entry : List X) (n : ℕ) (all out : List X) (i : ℕ) (x : X) (rest : List X) → i < length out → Sofar entry n all out i (x ∷ rest) → Sofar entry n all (set out i x) (i + 1) rest
wrote entry n all out i x rest room h = record {
  front = ap (λ l. l ++ rest) (take_more_set out i x room) ∙ append_assoc (take i out) (x ∷ []) rest ∙ h.front;
  place = omega (arith, h.place);
  back = drop-set-lt (n + length all) out i x (omega (arith, h.place)) ∙ h.back;
}

pub finished : {X : Type 0} (entry : List X) (n : ℕ) (all out : List X) (i : ℕ) (rest : List X) → rest ≡ [] → Sofar entry n all out i rest → out ≡ written n all entry
finished entry n all out i rest none h =
    let gone = ap length none in
    let at : i ≡ n + length all = omega (arith, h.place) in
    let front : take i out ≡ take n entry ++ all = sym (append-nil (take i out)) ∙ ap (λ l. take i out ++ l) (sym none) ∙ h.front in
    sym (take-append-drop i out) ∙ ap (λ l. l ++ drop i out) front ∙ ap (λ k. (take n entry ++ all) ++ drop k out) at
    ∙ ap (λ l. (take n entry ++ all) ++ l) h.back ∙ append_assoc (take n entry) all _

-- several records are written at once
pub wrote_all : {X : Type 0} (entry : List X) (n : ℕ) (all out : List X) (i : ℕ) (new rest out' : List X) → i + length new ≤ length out → out' ≡ written i new out → Sofar entry n all out i (new ++ rest) → Sofar entry n all out' (i + length new) rest
wrote_all entry n all out i new rest out' room is h =
    let p = take i out ++ new in
    let q = drop (i + length new) out in
    let whole : out' ≡ p ++ q = is ∙ sym (append_assoc (take i out) new q) in
    let size : length p ≡ i + length new = length-append (take i out) new ∙ ap (λ k. k + length new) (length-take-le i out (omega arith)) in
    let long = length-append new rest in
    let end = n + length all in
    let past : i + length new + (end - (i + length new)) ≡ end = omega (arith, h.place) in
    let cut : (l : List _) → drop end l ≡ drop (end - (i + length new)) (drop (i + length new) l) = λ l. ap (λ k. drop k l) (sym past) ∙ sym (drop-drop (end - (i + length new)) (i + length new) l) in
    record {
      front = ap (λ l. l ++ rest) (ap (take (i + length new)) whole ∙ take_at p q (i + length new) size) ∙ append_assoc (take i out) new rest ∙ h.front;
      place = omega (arith, h.place);
      back = cut out' ∙ ap (drop (end - (i + length new))) (ap (drop (i + length new)) whole ∙ drop_at p q (i + length new) size) ∙ sym (cut out) ∙ h.back;
    }
