-- An advance that is not refused goes no further than what is due.
use Rattle.std.proofs.Common.{◌≡◌, ℕ, ◌≤◌, List, [], ◌∷◌, Some, None, Option, refl, arith}
use Rattle.std.specs.List.{AllByRecursion}
use Rattle.std.proofs.lemmas.Bool.Decides.{nat_tests}
use Rattle.queue.specs.declared.waiting.Waiting.{Waiting}
use Rattle.queue.specs.declared.released.Released.{Released}
use Rattle.machine.specs.State.{Table, Job, State, sooner, top_deadline, first_deadline, first_release, due}
use Rattle.machine.specs.Step.{beyond, not_advanced}
use Rattle.machine.proofs.Lists.{Sorted, Rising, from_first, from_lowest}
use Rattle.machine.proofs.Shape.{Shape}

upto : (t d : ℕ) → beyond t (Some d) ≡ None → t ≤ d
upto t d e = grind (arith, nat_tests)

upto_both : (t : ℕ) (a b : Option ℕ) → beyond t (sooner a b) ≡ None → (beyond t a ≡ None) × (beyond t b ≡ None)
upto_both t None b e = (refl, e)
upto_both t (Some x) None e = (e, refl)
upto_both t (Some x) (Some y) e = grind (arith, nat_tests)

pub accepted : (t : ℕ) (s : State) → not_advanced t s ≡ None → (s.clock ≤ t) × (beyond t (due s) ≡ None)
accepted t s e = grind (arith, nat_tests)

first_waits : (t : ℕ) (w : List Waiting) → Sorted (λ a. a.release) w → beyond t (first_release w) ≡ None → AllByRecursion (λ a. t ≤ a.release) w
first_waits t [] so e = tt
first_waits t (a ∷ w) so e = from_first (λ z. z.release) t a w so (upto t a.release e)

first_out : (t : ℕ) (r : List Released) → Sorted (λ e. e.deadline) r → beyond t (first_deadline r) ≡ None → AllByRecursion (λ e. t ≤ e.deadline) r
first_out t [] so e = tt
first_out t (a ∷ r) so e = from_first (λ z. z.deadline) t a r so (upto t a.deadline e)

first_stands : (t : ℕ) (s : List Job) → Rising (λ q. q.deadline) s → beyond t (top_deadline s) ≡ None → AllByRecursion (λ q. t ≤ q.deadline) s
first_stands t [] ri e = tt
first_stands t (q ∷ qs) ri e = from_lowest (λ z. z.deadline) t q qs ri (upto t q.deadline e)

-- everything is due at t or later
pub record Ahead (t : ℕ) (w : List Waiting) (r : List Released) (s : List Job) : Type 0 where
  pub waits : AllByRecursion (λ a. t ≤ a.release) w
  pub readies : AllByRecursion (λ e. t ≤ e.deadline) r
  pub jobs : AllByRecursion (λ q. t ≤ q.deadline) s

pub ahead : (k : Table) (c t : ℕ) (s : State) → Shape k c s.waiting s.released s.stack → beyond t (due s) ≡ None → Ahead t s.waiting s.released s.stack
ahead k c t s i e =
    let a = upto_both t (top_deadline s.stack) _ e in
    let b = upto_both t (first_deadline s.released) (first_release s.waiting) a.1 in
    record { waits = first_waits t s.waiting i.by_release b.1; readies = first_out t s.released i.by_deadline b.0; jobs = first_stands t s.stack i.rising a.0 }
