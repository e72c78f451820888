use Rattle.std.proofs.Common.{◌≡◌, ◌++◌, take, drop}
use Rattle.queue.specs.Runs.{answers_to, list_after_all}
use Rattle.queue.proofs.runs.run.Given as goal

abbrev pub invariant-loop-i : goal.invariant-loop-i
invariant-loop-i g l =
    let q = g.Q.Queue in
    let o = g.Q.Entry.QueueEntry.order in
    let n = q.capacity l.initial.q in
    q.ordered o l.q × (q.capacity l.q ≡ n)
    × (take l.i l.answers ++ answers_to o n (drop l.i l.calls) (q.list l.q) ≡ answers_to o n l.calls (q.list l.initial.q))
    × (list_after_all o n (drop l.i l.calls) (q.list l.q) ≡ list_after_all o n l.calls (q.list l.initial.q))
