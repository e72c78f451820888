use Rattle.std.proofs.Common.{List, slice_index_or, ap, arith}
use Rattle.table.specs.declared.records.TaskRecord.{TaskRecord}
use Rattle.scheduler.proofs.Facts.{no_task, timed_at}
use Rattle.scheduler.proofs.records.Records.next_release.Goals as goal

pub returns-clause-near : goal.returns-clause-near
returns-clause-near c =
    let p = ap (λ (ts : List TaskRecord). (slice_index_or ts c.args.task no_task).period) c.deref.ensures.0 in
    omega (arith, p, (timed_at c.args.self.now c.args.task c.requires.0).near, c.requires.1, c.saturating_sub-released.ensures)
