use Rattle.std.proofs.Common.{ap, ◌∙◌, arith}
use Rattle.queue.specs.Runs.{answer_to, list_after}
use Rattle.queue.proofs.Running.{run_more, run_end}
use Rattle.queue.proofs.runs.run.Goals as goal

pub loop-i-preserved : goal.loop-i-preserved
loop-i-preserved g c =
    let q = g.Q.Queue in
    let o = g.Q.Entry.QueueEntry.order in
    let step = run_more o (q.capacity c.args.q.now) c.args.calls.now c.loop-i.answers c.loop-i.i c.index-calls-i.result c.make.result (q.list c.loop-i.q) (q.list c.make.new.q)
    (omega arith) (omega arith) c.index-calls-i.is
    (c.make.ensures.value ∙ ap (λ n. answer_to o n c.index-calls-i.result (q.list c.loop-i.q)) c.loop-i.invariant.1)
    (c.make.ensures.after ∙ ap (λ n. list_after o n c.index-calls-i.result (q.list c.loop-i.q)) c.loop-i.invariant.1) in
    (c.make.ensures.ordered, c.make.ensures.capacity ∙ c.loop-i.invariant.1, step.0 ∙ c.loop-i.invariant.2, step.1 ∙ c.loop-i.invariant.3)

pub returns : goal.returns
returns g c =
    let q = g.Q.Queue in
    let o = g.Q.Entry.QueueEntry.order in
    let end = run_end o (q.capacity c.args.q.now) c.args.calls.now c.loop-i.answers c.loop-i.i (q.list c.loop-i.q) (omega arith) (omega arith) in
    record {
      ordered = c.loop-i.invariant.0;
      capacity = c.loop-i.invariant.1;
      value = end.0 ∙ c.loop-i.invariant.2;
      after = end.1 ∙ c.loop-i.invariant.3;
    }
