use Rattle.std.proofs.Common.{arith}
use Rattle.queue.proofs.Shifting.{shifted_step, shifted_end}
use Rattle.queue.proofs.list_queue.shift.Goals as goal

pub loop-i-preserved : goal.loop-i-preserved
loop-i-preserved g c =
    shifted_step c.loop-i.entries c.args.entries.now c.loop-i.i c.index-entries-i.result (omega arith) (omega arith) (omega arith) c.loop-i.invariant c.index-entries-i.is

pub returns : goal.returns
returns g c = shifted_end c.loop-i.entries c.args.entries.now c.loop-i.i (omega arith) c.loop-i.invariant
