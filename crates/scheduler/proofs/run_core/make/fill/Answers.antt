use Rattle.std.proofs.Common.{◌∙◌, arith}
use Rattle.scheduler.proofs.Starts.{firsts_put}
use Rattle.scheduler.proofs.run_core.make.fill.Goals as goal

pub loop-task-preserved : goal.loop-task-preserved
loop-task-preserved g c =
    let w = g.W.Queue in
    let n = c.loop-task.task in
    let room = w.capacity c.loop-task.waiting in (
      c.insert.ensures.ordered,
      c.insert.ensures.capacity ∙ c.loop-task.invariant.1,
      rw (c.insert.ensures.after, c.loop-task.invariant.2, firsts_put room n (omega arith) (omega (arith, c.loop-task.invariant.1))),
    )
