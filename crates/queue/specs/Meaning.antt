-- What a queue means: a capacity of at most 32, and a list of entries in rising order, no two of one task.
use Rattle.std.specs.Prelude.{◌≡◌, ℕ, ◌<◌, ◌≤◌, Bool, false, ◌||◌, List, [], ◌∷◌, length, Some, None, Option, ◌==◌}
use Rattle.std.specs.List.{AllByRecursion}
use Rattle.queue.specs.Order.{Order, Rising}

-- the number of tasks, and the most entries that a queue holds
abbrev pub limit : ℕ
limit = 32

-- the first entry, or none
abbrev pub first_of : {E : Type 0} → List E → Option E
first_of [] = None
first_of (x ∷ xs) = Some x

-- the entries after the first
abbrev pub rest_of : {E : Type 0} → List E → List E
rest_of [] = []
rest_of (x ∷ xs) = xs

-- whether one of the entries is of the task
abbrev pub queued : {E : Type 0} → (E → ℕ) → ℕ → List E → Bool
queued task t [] = false
queued task t (x ∷ xs) = task x == t || queued task t xs

-- no two entries are of one task
abbrev pub Distinct : {E : Type 0} → (E → ℕ) → List E → Type 0
Distinct task [] = Unit {0}
Distinct task (x ∷ xs) = (queued task (task x) xs ≡ false) × Distinct task xs

-- what is true of every queue that is ordered by o: it has room for at most 32 entries and holds no more than it has room for, they rise, no two are of one task, and each task has a number below 32
pub record Sound {E : Type 0} (o : Order E) (capacity : ℕ) (xs : List E) : Type 0 where
  pub limited : capacity ≤ limit
  pub fits : length xs ≤ capacity
  pub rising : Rising o.before xs
  pub distinct : Distinct o.task_of xs
  pub numbered : AllByRecursion (λ x. o.task_of x < limit) xs
