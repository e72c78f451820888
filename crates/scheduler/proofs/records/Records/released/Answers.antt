use Rattle.std.proofs.Common.{List, slice_index_or, ap, arith}
use Rattle.table.specs.declared.records.TaskRecord.{TaskRecord}
use Rattle.scheduler.proofs.Facts.{no_task, timed_at}
use Rattle.scheduler.proofs.records.Records.released.Goals as goal

pub returns-clause-near : goal.returns-clause-near
returns-clause-near c =
    let w = c.args.w in
    let times = timed_at c.args.self.now w.task c.requires.0 in
    let d = ap (λ (ts : List TaskRecord). (slice_index_or ts w.task no_task).deadline) c.deref.ensures.0 in
    omega (arith, d, times.near, times.cyclic, c.requires.1)
