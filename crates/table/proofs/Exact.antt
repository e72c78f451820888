-- The earliest place where something is so, or none where it is so nowhere.
use Rattle.std.proofs.Common.{◌≡◌, ℕ, ◌<◌, ◌≤◌, Bool, true, false, cond, ltb, ◌⊎◌, Some, None, Option, sym, refl, inl, inr, ⊎_elim, arith}
use Rattle.std.proofs.lemmas.Bool.{ltb-true, ltb-false}
use Rattle.table.specs.declared.refusal.Rule.TheVariants.{Tasks}
use Rattle.table.specs.declared.records.Counts.{Counts}
use Rattle.table.specs.Rule.{or_else, tasks_fault}
use Rattle.table.specs.Grammar.{Line}
use Rattle.table.specs.Breach.{Breaks}

abbrev pub Exact : (ℕ → Type 0) → Option ℕ → Type 0
Exact P None = (p : ℕ) → P p → ⊥
Exact P (Some p) = P p × ((q : ℕ) → q < p → P q → ⊥)

-- the same said in other words
pub exact_like : (P Q : ℕ → Type 0) (o : Option ℕ) → ((q : ℕ) → P q → Q q) → ((q : ℕ) → Q q → P q) → Exact P o → Exact Q o
exact_like P Q None f g h = λ p k. h p (g p k)
exact_like P Q (Some p) f g h = (f p h.0, λ q lt k. h.1 q lt (g q k))

-- one thing or another, where each place of the one lies before each place of the other
pub exact_both : (P Q : ℕ → Type 0) (o o' : Option ℕ) → Exact P o → Exact Q o' → ((p q : ℕ) → P p → Q q → p < q) → Exact (λ q. P q ⊎ Q q) (or_else o o')
exact_both P Q None None h k apart = λ p. ⊎_elim (h p) (k p)
exact_both P Q None (Some r) h k apart = (inr k.0, λ q lt. ⊎_elim (h q) (k.1 q lt))
exact_both P Q (Some p) o' h k apart = (inl h.0, λ q lt. ⊎_elim (h.1 q lt) (λ b. omega (arith, apart p q h.0 b)))

-- a test at one place
pub exact_test : (b : Bool) (p : ℕ) (X : Type 0) → (b ≡ true → X → ⊥) → (b ≡ false → X) → Exact (λ q. (p ≡ q) × X) (cond b None (Some p))
exact_test true p X never breach = λ q k. never refl k.1
exact_test false p X never breach = ((refl, breach refl), λ q lt k. let e : p ≡ q = k.0 in omega arith)

-- the same at the start of the line
pub exact_start : (b : Bool) (X : Type 0) → (b ≡ true → X → ⊥) → (b ≡ false → X) → Exact (λ q. (q ≡ 0) × X) (cond b None (Some 0))
exact_start b X never breach = exact_like (λ q. (0 ≡ q) × X) (λ q. (q ≡ 0) × X) _ (λ q k. (sym k.0, k.1)) (λ q k. (sym k.0, k.1)) (exact_test b 0 X never breach)

-- a fault, or what is found later
pub else_cond : (b : Bool) (p : ℕ) (later : Option ℕ) → cond b later (Some p) ≡ or_else (cond b None (Some p)) later
else_cond true p later = refl
else_cond false p later = refl

pub else_assoc : (a b c : Option ℕ) → or_else (or_else a b) c ≡ or_else a (or_else b c)
else_assoc None b c = refl
else_assoc (Some p) b c = refl

pub exact_tasks : (room before : Counts) (l : Line) → Exact (Breaks room before l Tasks) (tasks_fault room.tasks before.tasks)
exact_tasks room before l =
    let r = room.tasks in
    let k = before.tasks in
    exact_start (ltb k r) (r ≤ k) (λ e h. omega (arith, ltb-true k r e)) (λ e. ltb-false k r e)
