use Rattle.std.proofs.Common.{◌≡◌, ◌<◌, take, length-take, sym, ap, ◌∙◌, subst, arith}
use Rattle.std.specs.Result.{OnOk}
use Rattle.queue.specs.Answer.{answered}
use Rattle.queue.specs.Lists.{list_room}
use Rattle.queue.proofs.Sounding.{room_after}
use Rattle.queue.proofs.list_queue.ListQueue.check.Goals as goal

pub returns : goal.returns
returns g c =
    let o = g.E.QueueEntry.order in
    let q = c.args.self.now in
    let room = list_room q in
    let xs = take q.len q.entries.now in
    let value : c.check.result ≡ answered o room c.args.e xs = c.check.ensures ∙ ap (λ n. answered o n c.args.e xs) c.capacity.ensures in
    record {
      value = value;
      room = subst (λ r. OnOk r (q.len < room)) (sym value) (room_after o room c.args.e xs q.len (omega (arith, length-take q.len q.entries.now)));
    }
