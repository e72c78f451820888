-- One task: what it asks for as time goes on, and when it is due.
use Rattle.std.proofs.Common.{◌≡◌, ℕ, ◌+◌, ◌-◌, ◌*◌, ◌/◌, ◌<◌, ◌≤◌, ◌⊎◌, refl, ap, ◌∙◌, inl, inr, mul-le-mul_right, div-lt_iff_lt-mul, add-mul, mul-le-mul_left, mul-zero, le-div_iff_mul-le, div-mul-le_self, arith}
use native.Mathlib.Nat.{div-eq_of_lt, add-mul-div_right, mul-div-le, lt-div-mul-add}
use Rattle.std.proofs.lemmas.Nat.{div-mul-add}
use Rattle.std.proofs.lemmas.Bool.{cases_lt}
use Rattle.table.specs.declared.records.TaskRecord.{TaskRecord}
use Rattle.admission.specs.Demand.{demand_of, workload_of}
use Rattle.admission.specs.Due.{DueOf, NextOf}
use Rattle.admission.specs.Facts.{Timed}

div_mono : (x y k : ℕ) → 0 < k → x ≤ y → x / k ≤ y / k
div_mono x y k p h = (le-div_iff_mul-le p).1 (omega (arith, div-mul-le_self x k))

-- the first deadline past t
abbrev pub due_after : TaskRecord → ℕ → ℕ
due_after k t = k.deadline + (t + k.period - k.deadline) / k.period * k.period

module _ (k : TaskRecord) (ok : Timed k) where
  pub period_pos : 0 < k.period
  period_pos = omega (arith, ok.works, ok.early, ok.cyclic)

  -- no job takes longer than its period, so a task asks for no more than the time in which its jobs come
  times_le : (n : ℕ) → k.cost * (n / k.period) ≤ n
  times_le n =
      let c : k.cost ≤ k.period = omega (arith, ok.early, ok.cyclic) in
      omega (arith, mul-le-mul_right (n / k.period) c, mul-div-le n k.period)

  pub demand_of_le : (t : ℕ) → demand_of k t ≤ t + k.period
  demand_of_le t = omega (arith, times_le (t + k.period - k.deadline))

  pub workload_of_le : (t : ℕ) → workload_of k t ≤ t + k.period
  workload_of_le t = omega (arith, times_le (t + k.period - 1))

  pub workload_of_mono : (t u : ℕ) → t ≤ u → workload_of k t ≤ workload_of k u
  workload_of_mono t u h = mul-le-mul_left k.cost (div_mono (t + k.period - 1) (u + k.period - 1) k.period period_pos (omega arith))

  -- a period that has begun counts
  pub cost_le_workload_of : (t : ℕ) → 1 ≤ t → k.cost ≤ workload_of k t
  cost_le_workload_of t h =
      let p = period_pos in
      let q : 1 ≤ (t + k.period - 1) / k.period = (le-div_iff_mul-le p).1 (omega arith) in
      omega (arith, mul-le-mul_left k.cost q)

  pub demand_of_none : (t : ℕ) → t < k.deadline → demand_of k t ≡ 0
  demand_of_none t h =
      let z : (t + k.period - k.deadline) / k.period ≡ 0 = div-eq_of_lt (omega (arith, ok.cyclic)) in
      rw z (mul-zero _)

  -- what is asked for past an instant is at most what was released before it, and what is asked for as long from 0 on
  pub demand_of_idle : (l i : ℕ) → i ≤ l → demand_of k l ≤ workload_of k i + demand_of k (l - i)
  demand_of_idle l i h =
      let p = period_pos in
      let m : ℕ = (i + k.period - 1) / k.period in
      let x : ℕ = l - i + k.period - k.deadline in
      let up : i + k.period - 1 < m * k.period + k.period = lt-div-mul-add p in
      let le : l + k.period - k.deadline ≤ x + m * k.period = omega (arith, ok.cyclic) in
      let q : (l + k.period - k.deadline) / k.period ≤ x / k.period + m =
      rw add-mul-div_right at (div_mono _ (x + m * k.period) k.period p le) in
      omega (arith, mul-le-mul_left k.cost q)

  -- from one instant to the next no more is asked for, unless the task is due
  pub demand_of_quiet : (t : ℕ) → (demand_of k (t + 1) ≡ demand_of k t) ⊎ DueOf k (t + 1)
  demand_of_quiet t =
      let n : ℕ = t + k.period - k.deadline in
      let q : ℕ = n / k.period in
      let low : q * k.period ≤ n = div-mul-le_self n k.period in
      let up : n < q * k.period + k.period = lt-div-mul-add period_pos in
      elim (cases_lt (n + 1) (q * k.period + k.period)) [
        | inl lt ↦
            let b : ℕ = n + 1 - q * k.period in
            let e : t + 1 + k.period - k.deadline ≡ q * k.period + b = omega (arith, ok.cyclic) in
            inl (ap (λ x. k.cost * x) (ap (λ x. x / k.period) e ∙ div-mul-add q k.period b (omega arith)))
        | inr ge ↦ inr (q, omega (arith, ok.cyclic))
      ]

  pub due_after_next : (t : ℕ) → NextOf k t (due_after k t)
  due_after_next t =
      let n : ℕ = t + k.period - k.deadline in
      let up : n < n / k.period * k.period + k.period = lt-div-mul-add period_pos in
      record {
        past = omega (arith, ok.cyclic);
        due = (n / k.period, refl);
        first = λ u past d.
            let m : ℕ = d.0 in
            let lt : n / k.period < m + 1 = (div-lt_iff_lt-mul period_pos).1 (omega (arith, d.1, ok.cyclic, add-mul m 1 k.period)) in
            let le : n / k.period ≤ m = omega arith in
            omega (arith, d.1, mul-le-mul_right k.period le);
      }
