use Rattle.std.proofs.Common.{◌≡◌, take}
use Rattle.machine.specs.State.{relative, lowered}
use Rattle.scheduler.specs.View.{table_of, opens_of}
use Rattle.scheduler.proofs.records.Records.inherited.Given as goal

abbrev pub invariant-loop-open : goal.invariant-loop-open
invariant-loop-open l = l.least ≡ lowered (table_of l.self) (relative (table_of l.self) l.job.task) (opens_of (take l.open-index l.job.opened.items))
