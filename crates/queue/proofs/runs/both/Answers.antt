use Rattle.std.proofs.Common.{arith}
use Rattle.std.proofs.lemmas.List.{nil_from_length}
use Rattle.queue.proofs.runs.both.Goals as goal

pub run_both-requires : goal.run_both-requires
run_both-requires g c = record {
  ordered = c.requires.ordered;
  empty = (nil_from_length (g.P.Queue.list c.args.p.now) (omega arith), nil_from_length (g.Q.Queue.list c.args.q.now) (omega arith));
  capacity = omega arith;
  room = (omega arith, omega arith);
}
