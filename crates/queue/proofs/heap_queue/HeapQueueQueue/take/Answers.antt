use Rattle.std.proofs.Common.{◌≡◌, ℕ, ◌-◌, ◌++◌, ◌<◌, min, length, get_or, take, drop, set, sym, ap, ◌∙◌, subst, arith}
use Rattle.std.proofs.lemmas.Grind.{common_steps}
use Rattle.queue.specs.Order.{sorted}
use Rattle.queue.specs.Meaning.{limit, Sound}
use Rattle.queue.specs.Heaps.{Heap}
use Rattle.queue.proofs.Sounding.{sound_rest}
use Rattle.queue.proofs.Heaping.{heap_rest, used_heap}
use Rattle.queue.proofs.heap_queue.HeapQueueQueue.take.Goals as goal

pub returns-clause-after : goal.returns-clause-after
returns-clause-after g c =
    let b = g.E.QueueEntry.order.before in
    let s = c.args.self.now.entries.now in
    let len = c.args.self.now.len in
    let n = len - 1 in
    let d = c.index-self-self.result in
    let used = c.sift_down.new.entries in
    let some : 0 < len = grind (arith, common_steps) in
    let front : take n (used ++ drop n (set s 0 (get_or s n d))) ≡ used = grind (arith, common_steps) in
    ap (sorted b) front ∙ c.sift_down.ensures.same ∙ heap_rest b g.met.E.QueueEntry.total s len d some (omega arith) c.requires.1

pub returns-clause-ordered : goal.returns-clause-ordered
returns-clause-ordered g c =
    let o = g.E.QueueEntry.order in
    let b = o.before in
    let s = c.args.self.now.entries.now in
    let len = c.args.self.now.len in
    let n = len - 1 in
    let room = min (length s) limit in
    let used = c.sift_down.new.entries in
    let behind = drop n (set s 0 (get_or s n c.index-self-self.result)) in
    let size : length used ≡ n = grind (arith, common_steps) in
    let same : min (length (used ++ behind)) limit ≡ room = grind (arith, common_steps) in (
      omega arith,
      used_heap b used behind n (sym size) (subst (λ (k : ℕ). Heap b used k) (sym c.sift_down.auto.entries) c.sift_down.ensures.shape),
      subst (λ (k : ℕ). Sound o k (sorted b (take n (used ++ behind)))) (sym same)
          (subst (Sound o room) (sym (returns-clause-after g c)) (sound_rest o room (sorted b (take len s)) c.requires.2)),
    )
