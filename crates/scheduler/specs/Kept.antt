-- What a core keeps beside its records and its queues, as contracts see it: the clock, the stack with how many jobs are on it, where each task is noted
-- to be, and what was counted.
use Rattle.std.specs.Prelude.{ℕ, List}
use Rattle.scheduler.specs.declared.stack.StackRecord.{StackRecord}
use Rattle.scheduler.specs.declared.stack.Spot.{Spot}
use Rattle.scheduler.specs.declared.question.Counts.{Counts}

pub record Kept : Type 0 where
  pub clock : ℕ
  pub depth : ℕ
  pub stack : List StackRecord
  pub spots : List Spot
  pub counts : Counts
