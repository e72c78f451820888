use Rattle.std.proofs.Common.{◌∙◌, arith}
use Rattle.queue.proofs.Heaping.{heap_first}
use Rattle.queue.proofs.heap_queue.HeapQueueQueue.first.Goals as goal

pub returns : goal.returns
returns g c =
    let q = c.args.self.now in
    c.copied.ensures ∙ c.first.ensures.value ∙ heap_first g.E.QueueEntry.order.before g.met.E.QueueEntry.total q.entries.now q.len (omega arith) c.requires.1
