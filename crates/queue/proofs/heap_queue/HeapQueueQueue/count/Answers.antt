use Rattle.std.proofs.Common.{take, arith, length-take}
use Rattle.queue.proofs.Sounding.{length-sorted}
use Rattle.queue.proofs.heap_queue.HeapQueueQueue.count.Goals as goal

pub returns : goal.returns
returns g c =
    let s = c.args.self.now.entries.now in
    let len = c.args.self.now.len in
    omega (arith, length-sorted g.E.QueueEntry.order.before (take len s), length-take len s)
