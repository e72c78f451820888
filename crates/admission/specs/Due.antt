-- The instants at which a job can be due, if all tasks are first released at 0, and the first of them past an instant. `Laws` says why
-- only those have to be judged.
use Rattle.std.specs.Prelude.{◌≡◌, ℕ, ◌+◌, ◌*◌, ◌<◌, ◌≤◌, ◌⊎◌, List, [], ◌∷◌}
use Rattle.table.specs.declared.records.TaskRecord.{TaskRecord}

-- t is a deadline of the task: D, D + T, D + 2T, ..
abbrev pub DueOf : TaskRecord → ℕ → Type 0
DueOf k t = (n : ℕ) × (t ≡ k.deadline + n * k.period)

-- t is a deadline of one of the tasks
abbrev pub Due : List TaskRecord → ℕ → Type 0
Due [] t = ⊥
Due (k ∷ ks) t = DueOf k t ⊎ Due ks t

-- r is the first deadline of the task past t
pub record NextOf (k : TaskRecord) (t r : ℕ) : Type 0 where
  pub past : t < r
  pub due : DueOf k r
  pub first : (u : ℕ) → t < u → DueOf k u → r ≤ u

-- r is the first deadline of the tasks past t
pub record Next (tasks : List TaskRecord) (t r : ℕ) : Type 0 where
  pub past : t < r
  pub due : Due tasks r
  pub first : (u : ℕ) → t < u → Due tasks u → r ≤ u
