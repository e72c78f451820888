-- What a task's jobs with absolute deadlines from one on ask for by an instant.
use Rattle.std.proofs.Common.{◌≡◌, ℕ, ◌+◌, ◌-◌, ◌*◌, ◌/◌, ◌<◌, ◌≤◌, length, mul-le-mul_left, mul-zero, div-mul-le_self, arith}
use Rattle.std.proofs.lemmas.Nat.{le-div}
use native.Mathlib.Nat.{div-eq_of_lt, add-div_right}
use Rattle.admission.specs.Demand.{demand_of}
use Rattle.machine.specs.State.{task_at, Table, relative, period, cost}
use Rattle.machine.proofs.Tables.{Fit}

-- the jobs of task i with deadlines from dl on, up to d
unfoldable pub dem : Table → ℕ → ℕ → ℕ → ℕ
dem k d i dl = cost k i * ((d + period k i - dl) / period k i)

module _ (k : Table) (ok : Fit k) where
  pub dem_none : (d i dl : ℕ) → i < length k.tasks → d < dl → dem k d i dl ≡ 0
  unfolding dem
  dem_none d i dl n h =
      let a = ok.c_pos i n in let b = ok.c_d i n in let c = ok.d_t i n in
      let z : (d + period k i - dl) / period k i ≡ 0 = div-eq_of_lt (omega arith) in
      rw z (mul-zero _)

  pub dem_some : (d i dl : ℕ) → i < length k.tasks → dl ≤ d → dem k d i dl ≡ cost k i + dem k d i (dl + period k i)
  unfolding dem
  dem_some d i dl n h =
      let a = ok.c_pos i n in let b = ok.c_d i n in let c = ok.d_t i n in
      let u : d + period k i - dl ≡ d - dl + period k i = omega arith in
      let v : d + period k i - (dl + period k i) ≡ d - dl = omega arith in
      let p : 0 < period k i = omega arith in
      rw (u, v, add-div_right) (omega arith)

  -- releases from t on ask for no more than as many from 0 on, t later
  pub dem_from : (d t i dl : ℕ) → i < length k.tasks → t + relative k i ≤ dl → dem k d i dl ≤ demand_of (task_at k i) (d - t)
  unfolding dem
  dem_from d t i dl n h =
      let a = ok.c_pos i n in let b = ok.c_d i n in let c = ok.d_t i n in
      mul-le-mul_left (cost k i) (le-div _ _ (period k i) (omega arith) (omega (arith, div-mul-le_self (d + period k i - dl) (period k i))))
