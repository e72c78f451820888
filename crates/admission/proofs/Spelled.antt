-- The letters right behind a section's brace, where no letter is named again.
use Rattle.std.proofs.Common.{◌≡◌, ℕ, ◌^◌, ◌<◌, Bool, true, false, cond, eqb, List, [], ◌∷◌, Some, None, Option, refl, arith}
use lib.Bits.{bit_and, bit_or}
use Rattle.std.specs.List.{AllByRecursion}
use Rattle.std.proofs.lemmas.Bool.{eqb-true, cond_both}
use Rattle.std.proofs.lemmas.Nat.{or_lt}
use Rattle.table.specs.declared.line.Item.{Item}
use Rattle.table.specs.declared.line.Item.TheVariants.{Open, Named, Close}
use Rattle.table.specs.declared.fill.Letters.{Letters}
use Rattle.table.specs.Rule.{repeat_fault}
use Rattle.table.specs.Record.{letters_from}
use Rattle.admission.proofs.Apart.{Apart, apart_sym, apart_or, or_apart, parts_apart, Within}
use Rattle.admission.proofs.Fine.{Fine}

-- a test that had to come out true, since otherwise there were a fault
pub no_fault : (b : Bool) (x : Option ℕ) (p : ℕ) → cond b x (Some p) ≡ None → (b ≡ true) × (x ≡ None)
no_fault true x p e = (refl, e)
no_fault false x p e = let z : ◌≡◌ {A = ℕ} 0 1 = cc in absurd (omega arith)

-- the set of the letters that items begin with
abbrev pub run_set : List Item → ℕ
run_set [] = 0
run_set (Open n ∷ is) = 0
run_set (Named l ∷ is) = bit_or l.bit (run_set is)
run_set (Close ∷ is) = 0

-- what is clear of these sets and of the letters to come is clear of what they come to
pub record ClearOf (c : ℕ) (ls : Letters) : Type 0 where
  pub small : Apart c ls.small
  pub capital : Apart c ls.capital

pub run_clear : (c a b : ℕ) (is : List Item) → Apart c a → Apart c b → Apart c (run_set is) → ClearOf c (letters_from a b is)
run_clear c a b [] p q r = record { small = p; capital = q }
run_clear c a b (Open n ∷ is) p q r = record { small = p; capital = q }
run_clear c a b (Close ∷ is) p q r = record { small = p; capital = q }
run_clear c a b (Named l ∷ is) p q r =
    let parts = parts_apart c l.bit (run_set is) r in
    run_clear c (cond l.capital a (bit_or a l.bit)) (cond l.capital (bit_or b l.bit) b) is
    (cond_both l.capital a (bit_or a l.bit) (Apart c) (λ _. p) (λ _. or_apart c a l.bit p parts.0))
    (cond_both l.capital (bit_or b l.bit) b (Apart c) (λ _. or_apart c b l.bit q parts.0) (λ _. q)) parts.1

-- both sets of letters lie within 26 letters
pub record Few (ls : Letters) : Type 0 where
  pub small : ls.small < 2 ^ 26
  pub capital : ls.capital < 2 ^ 26

pub run_few : (a b : ℕ) (is : List Item) → a < 2 ^ 26 → b < 2 ^ 26 → AllByRecursion Fine is → Few (letters_from a b is)
run_few a b [] p q all = record { small = p; capital = q }
run_few a b (Open n ∷ is) p q all = record { small = p; capital = q }
run_few a b (Close ∷ is) p q all = record { small = p; capital = q }
run_few a b (Named l ∷ is) p q (here, all) =
    run_few (cond l.capital a (bit_or a l.bit)) (cond l.capital (bit_or b l.bit) b) is
    (cond_both l.capital a (bit_or a l.bit) (λ x. x < 2 ^ 26) (λ _. p) (λ _. or_lt 26 a l.bit p here))
    (cond_both l.capital (bit_or b l.bit) b (λ x. x < 2 ^ 26) (λ _. or_lt 26 b l.bit q here) (λ _. q)) all

-- two sets and a third, apart from one another
pub record Threefold (a b t : ℕ) : Type 0 where
  pub pair : Apart a b
  pub first : Apart a t
  pub second : Apart b t

-- all of them lie in a set of which no letter comes again
pub record Seen (a b t s : ℕ) : Type 0 where
  pub first : Within a s
  pub second : Within b s
  pub third : Within t s

-- one letter more
module _ (a b t s bit : ℕ) (three : Threefold a b t) (w : Seen a b t s) (new : Apart s bit) where
  fresh : (x : ℕ) → Within x s → Apart x bit
  fresh x h = apart_sym bit x (h bit (apart_sym s bit new))

  wider : (x : ℕ) → Within x s → Within x (bit_or s bit)
  wider x h c k = h c (parts_apart c s bit k).0

  wide : (x : ℕ) → Within x s → Within (bit_or x bit) (bit_or s bit)
  wide x h c k = let p = parts_apart c s bit k in or_apart c x bit (h c p.0) p.1

  three_more : (big : Bool) → Threefold (cond big a (bit_or a bit)) (cond big (bit_or b bit) b) t
  three_more true = record {
    pair = or_apart a b bit three.pair (fresh a w.first);
    first = three.first;
    second = apart_or b bit t three.second (apart_sym t bit (fresh t w.third));
  }
  three_more false = record {
    pair = apart_or a bit b three.pair (apart_sym b bit (fresh b w.second));
    first = apart_or a bit t three.first (apart_sym t bit (fresh t w.third));
    second = three.second;
  }

  seen_more : (big : Bool) → Seen (cond big a (bit_or a bit)) (cond big (bit_or b bit) b) t (bit_or s bit)
  seen_more true = record { first = wider a w.first; second = wide b w.second; third = wider t w.third }
  seen_more false = record { first = wide a w.first; second = wider b w.second; third = wider t w.third }

pub run_apart : (a b t s : ℕ) (seen : List ℕ) (is : List Item) → Threefold a b t → Seen a b t s → repeat_fault (s ∷ seen) is ≡ None → Threefold (letters_from a b is).small (letters_from a b is).capital t
run_apart a b t s seen [] three w e = three
run_apart a b t s seen (Open n ∷ is) three w e = three
run_apart a b t s seen (Close ∷ is) three w e = three
run_apart a b t s seen (Named l ∷ is) three w e =
    let parts = no_fault (eqb (bit_and s l.bit) 0) _ _ e in
    let new = eqb-true (bit_and s l.bit) 0 parts.0 in
    run_apart (cond l.capital a (bit_or a l.bit)) (cond l.capital (bit_or b l.bit) b) t (bit_or s l.bit) seen is
    (three_more a b t s l.bit three w new l.capital) (seen_more a b t s l.bit three w new l.capital) parts.1
