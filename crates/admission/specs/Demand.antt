-- What the tasks of a table ask for by an instant, counted from an instant at which all of them are released together and a
-- section that blocks them has just been entered. All times are whole ticks. `Sound` goes on with the rules that records keep, and
-- `Verdict` with what follows from both.
use Rattle.std.specs.Prelude.{ℕ, ◌+◌, ◌-◌, ◌*◌, ◌/◌, max, Bool, false, cond, ◌&&◌, List, [], ◌∷◌, Some, None, Option, nat_le, nat_lt}
use Rattle.table.specs.declared.records.TaskRecord.{TaskRecord}
use Rattle.table.specs.declared.records.SectionRecord.{SectionRecord}
use Rattle.table.specs.Level.{deadline_of}

-- what the jobs of a task with deadlines up to t ask for: C × floor((t − D + T) / T)
abbrev pub demand_of : TaskRecord → ℕ → ℕ
demand_of k t = k.cost * ((t + k.period - k.deadline) / k.period)

-- what the jobs of a task that are released before t ask for: C × ceiling(t / T)
abbrev pub workload_of : TaskRecord → ℕ → ℕ
workload_of k t = k.cost * ((t + k.period - 1) / k.period)

-- H(t)
abbrev pub demand : List TaskRecord → ℕ → ℕ
demand [] t = 0
demand (k ∷ ks) t = demand_of k t + demand ks t

-- W(t)
abbrev pub workload : List TaskRecord → ℕ → ℕ
workload [] t = 0
workload (k ∷ ks) t = workload_of k t + workload ks t

-- a level at or below t; no level is above every number
abbrev pub reaches : Option ℕ → ℕ → Bool
reaches None t = false
reaches (Some level) t = nat_le level t

-- a relative deadline past t
abbrev pub later : Option ℕ → ℕ → Bool
later None t = false
later (Some deadline) t = nat_lt t deadline

-- a section can hold up jobs with deadlines up to t: its level is at most t, and its own task's D is past t
abbrev pub blocks : List TaskRecord → SectionRecord → ℕ → Bool
blocks tasks s t = reaches s.level t && later (deadline_of tasks s.task) t

-- B(t): the greatest length of a section that can; 0 if none can
abbrev pub blocking : List TaskRecord → List SectionRecord → ℕ → ℕ
blocking tasks [] t = 0
blocking tasks (s ∷ ss) t = max (cond (blocks tasks s t) s.length 0) (blocking tasks ss t)
