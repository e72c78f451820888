-- The run in which a job is blocked and another expires after just its C: it is computed, and what is said of every job or of every
-- event is said of the few that occur.
use Rattle.std.proofs.Common.{◌≡◌, ℕ, zero, suc, ◌+◌, ◌≤◌, Bool, true, not, ◌&&◌, ◌||◌, ◌⊎◌, List, [], ◌∷◌, Ok, sym, refl, subst, inl, inr, arith, lit<, lit≤, if◌then◌else◌, ◌==◌, nat_lt}
use Rattle.std.proofs.lemmas.Bool.{cases_lt, not-true, ltb-false}
use Rattle.std.proofs.lemmas.Bool.{agree_below, agree_below_at}
use Rattle.std.proofs.lemmas.Bool.Decides.{nat_tests}
use Rattle.std.specs.List.{AllByRecursion}
use Rattle.table.specs.Judged.{judged as read}
use Rattle.table.specs.Level.{letter_levels}
use Rattle.admission.specs.Sound.{sound}
use Rattle.admission.specs.Demand.{workload}
use Rattle.admission.specs.Verdict.{asked, Admitted}
use Rattle.machine.specs.State.{cost}
use Rattle.machine.specs.Step.{step, selected, advanced}
use Rattle.machine.specs.Run.{Event, history, run_time, Somewhere, GrantFits, Expires}
use Rattle.machine.specs.Worked.{Met, reads, tight, Blocks, tight_table, tight_calls}

-- a test that holds of every number below n
abbrev all_below : (ℕ → Bool) → ℕ → Bool
all_below p n = agree_below p (λ _. true) n

abbrev fitting : ℕ → Bool
fitting u = not (nat_lt u (asked tight_table.tasks tight_table.sections u))

abbrev busy : ℕ → Bool
busy u = u == 0 || not (workload tight_table.tasks u == u)

all_fit : all_below fitting 11 ≡ true
unfolding letter_levels
all_fit = refl

all_busy : all_below busy 10 ≡ true
all_busy = refl

is_sound : sound tight_table.tasks tight_table.sections ≡ true
unfolding sound letter_levels
is_sound = refl

admitted : Admitted tight_table.tasks tight_table.sections 10
admitted = record {
  rules = is_sound;
  until = record {
    positive = lit≤ tt;
    idle = refl;
    least = λ u p is. elim (cases_lt u 10) [
      | inl lt ↦ (let b = agree_below_at busy (λ _. true) 10 u all_busy lt in grind (arith, nat_tests))
      | inr ge ↦ ge
    ];
  };
  within = lit≤ tt;
  fits = λ t p h. ltb-false t (asked tight_table.tasks tight_table.sections t) (not-true _ (agree_below_at fitting (λ _. true) 11 t all_fit (omega arith)));
}

abbrev h : List Event
h = history tight_table tight_calls

exact : (run_time 2 10 h ≡ 2) × (cost tight_table 2 ≡ 2)
unfolding step selected advanced letter_levels
exact = (refl, refl)

blocked : Somewhere (Blocks 0 9 1) h
unfolding step selected advanced letter_levels
blocked = inr (inr (inr (inr (inr (inr (inl (lit< tt, (refl, refl, refl, lit< tt, lit< tt))))))))

-- after the last call the job with task 2 and deadline 10 is nowhere
gone : (((◌≡◌ {A = ℕ} 1 2 × ◌≡◌ {A = ℕ} 20 10) ⊎ ((◌≡◌ {A = ℕ} 2 2 × ◌≡◌ {A = ℕ} 20 10) ⊎ ⊥)) ⊎ ((◌≡◌ {A = ℕ} 0 2 × ◌≡◌ {A = ℕ} 14 10) ⊎ ⊥)) → ⊥
gone (inl (inl a)) = omega (arith, a.1)
gone (inl (inr (inl a))) = omega (arith, a.1)
gone (inl (inr (inr z))) = z
gone (inr (inl a)) = omega (arith, a.1)
gone (inr (inr z)) = z

expired : Somewhere (Expires 2 10) h
unfolding step selected advanced letter_levels
expired = inr (inr (inr (inr (inr (inr (inr (inr (inr (inr (inr (inl (tt, inr (inl (refl, refl)), gone))))))))))))

-- a job's run time here, by which task and which deadline it has
abbrev sum : Bool → Bool → Bool → Bool → Bool → Bool → ℕ
sum a b c p q r =
    0 + ((if a && p then 2 else 0) + ((if a && p then 0 else 0) + ((if b && r then 2 else 0) + ((if b && r then 0 else 0) + ((if b && r then 1 else 0) + ((if b && r then 1 else 0)
    + ((if b && r then 0 else 0) + ((if a && q then 2 else 0) + ((if a && q then 0 else 0) + ((if b && r then 0 else 0) + ((if c && r then 2 else 0) + 0)))))))))))

is_sum : (i d : ℕ) → run_time i d h ≡ sum (0 == i) (1 == i) (2 == i) (4 == d) (9 == d) (10 == d)
unfolding step selected advanced letter_levels
is_sum i d = refl

bound : (i d : ℕ) → sum (0 == i) (1 == i) (2 == i) (4 == d) (9 == d) (10 == d) ≤ cost tight_table i
bound zero d = grind (arith, nat_tests)
bound (suc zero) d = grind (arith, nat_tests)
bound (suc (suc zero)) d = grind (arith, nat_tests)
bound (suc (suc (suc i))) d = grind (arith, nat_tests)

jobs : (i d : ℕ) → run_time i d h ≤ cost tight_table i
jobs i d = subst (λ n. n ≤ cost tight_table i) (sym (is_sum i d)) (bound i d)

-- what holds of each event of a list holds of one that is among them
each : (P : Event → Type 0) (es : List Event) → AllByRecursion P es → (e : Event) → Somewhere (λ x. x ≡ e) es → P e
each P [] all e s = absurd s
each P (x ∷ xs) all e (inl is) = subst P is all.0
each P (x ∷ xs) all e (inr s) = each P xs all.1 e s

fitted : AllByRecursion (λ x. GrantFits tight_table h x.answer) h
unfolding step selected advanced letter_levels
fitted = (tt, (tt, (tt, (tt, (lit≤ tt, (tt, (tt, (tt, (tt, (tt, (tt, (tt, tt))))))))))))

stays : (e : Event) → Somewhere (λ x. x ≡ e) h → GrantFits tight_table h e.answer
stays e s = each (λ x. GrantFits tight_table h x.answer) h fitted e s

tight_reads : reads tight ≡ Ok (record { tasks = 3; sections = 2 })
unfolding read
tight_reads = refl

pub met : Met
met = record { tight_reads = tight_reads; admitted = admitted; kept = record { jobs = jobs; stays = stays }; blocked = blocked; expired = expired; exact = exact }
