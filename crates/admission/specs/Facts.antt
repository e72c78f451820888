-- What the rules of a table give to whoever judges it: times that lie in order and are not too large, sections that are no longer than
-- their task runs, and levels that are deadlines. `Judgeable` has all of it, and holds of all records that break no rule.
use Rattle.std.specs.Prelude.{◌≡◌, ℕ, ◌≤◌, List, length, Some, None, Option}
use Rattle.std.specs.List.{AllByRecursion, slice_get}
use Rattle.table.specs.declared.records.TaskRecord.{TaskRecord}
use Rattle.table.specs.declared.records.SectionRecord.{SectionRecord}
use Rattle.table.specs.Limits.{largest, most_tasks}
use Rattle.table.specs.Level.{deadline_of}

-- 1 ≤ C ≤ D ≤ T ≤ 1,048,576
pub record Timed (k : TaskRecord) : Type 0 where
  pub works : 1 ≤ k.cost
  pub early : k.cost ≤ k.deadline
  pub cyclic : k.deadline ≤ k.period
  pub near : k.period ≤ largest

-- the section is of a task of the table, and no longer than the task's C
pub record Owned (tasks : List TaskRecord) (s : SectionRecord) : Type 0 where
  pub owner : TaskRecord
  pub found : slice_get tasks s.task ≡ Some owner
  pub short : s.length ≤ owner.cost

-- a level, where there is one, is the D of a task of the table
abbrev pub LevelOf : List TaskRecord → Option ℕ → Type 0
LevelOf tasks None = Unit {0}
LevelOf tasks (Some level) = (i : ℕ) × (deadline_of tasks i ≡ Some level)

-- so is the level that the section holds
abbrev pub Leveled : List TaskRecord → SectionRecord → Type 0
Leveled tasks s = LevelOf tasks s.level

-- everything that judging the records takes
pub record Judgeable (tasks : List TaskRecord) (sections : List SectionRecord) : Type 0 where
  pub any : 1 ≤ length tasks
  pub few : length tasks ≤ most_tasks
  pub timed : AllByRecursion Timed tasks
  pub owned : AllByRecursion (Owned tasks) sections
  pub leveled : AllByRecursion (Leveled tasks) sections
