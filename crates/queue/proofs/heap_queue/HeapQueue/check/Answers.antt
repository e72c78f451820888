use Rattle.std.proofs.Common.{◌≡◌, ◌<◌, take, length-take, sym, ap, ◌∙◌, subst, arith}
use Rattle.std.specs.Result.{OnOk}
use Rattle.queue.specs.Order.{sorted}
use Rattle.queue.specs.Answer.{answer_of, answered}
use Rattle.queue.specs.Heaps.{heap_room}
use Rattle.queue.proofs.Sounding.{length-sorted, refusal_sorted, room_after}
use Rattle.queue.proofs.heap_queue.HeapQueue.check.Goals as goal

pub returns : goal.returns
returns g c =
    let o = g.E.QueueEntry.order in
    let q = c.args.self.now in
    let room = heap_room q in
    let xs = take q.len q.entries.now in
    let value : c.check.result ≡ answered o room c.args.e (sorted o.before xs) =
    c.check.ensures ∙ ap (λ n. answered o n c.args.e xs) c.capacity.ensures ∙ sym (ap answer_of (refusal_sorted o room c.args.e xs)) in
    record {
      value = value;
      room = subst (λ r. OnOk r (q.len < room)) (sym value)
          (room_after o room c.args.e (sorted o.before xs) q.len (omega (arith, length-sorted o.before xs, length-take q.len q.entries.now)));
    }
