-- Why released entries are in a total order: the steps of the proof that stands in the entry's own `impl`. Nothing here has to be believed.
use Rattle.std.proofs.Common.{arith, ap, ◌∙◌}
use Rattle.std.specs.Prelude.{◌≡◌, ℕ, Bool, true, false, nat_lt}
use Rattle.std.proofs.lemmas.Bool.Decides.{nat_tests}
use Rattle.queue.specs.Entries.{then_by}
use Rattle.queue.specs.declared.released.Released.{Released}

pub by_trans : (x y z : ℕ) (a b c : Bool) → (a ≡ true → b ≡ true → c ≡ true) → then_by x y a ≡ true → then_by y z b ≡ true → then_by x z c ≡ true
by_trans x y z a b c h p q = grind (arith, nat_tests)

pub by_total : (x y : ℕ) (a b : Bool) → then_by x y a ≡ false → then_by y x b ≡ false → (x ≡ y) × (a ≡ false) × (b ≡ false)
by_total x y a b p q = grind (arith, nat_tests)

pub last_trans : (x y z : ℕ) → nat_lt x y ≡ true → nat_lt y z ≡ true → nat_lt x z ≡ true
last_trans x y z p q = grind (arith, nat_tests)

pub last_total : (x y : ℕ) → nat_lt x y ≡ false → nat_lt y x ≡ false → x ≡ y
last_total x y p q = grind (arith, nat_tests)

abbrev pub make : ℕ → ℕ → ℕ → Released
make d n t = record { deadline = d; relative = n; task = t }

pub same : (x y : Released) → x.deadline ≡ y.deadline → x.relative ≡ y.relative → x.task ≡ y.task → x ≡ y
same x y p q r =
    ap (λ d. make d x.relative x.task) p ∙ ap (λ n. make y.deadline n x.task) q ∙ ap (λ t. make y.deadline y.relative t) r
