use Rattle.std.proofs.Common.{◌≡◌, ℕ, ◌+◌, ◌++◌, ◌<◌, min, length, take, drop, set, None, sym, ap, ◌∙◌, subst, arith}
use Rattle.std.proofs.lemmas.Grind.{common_steps}
use Rattle.std.specs.Result.{OnOk}
use Rattle.queue.specs.Order.{insert_sorted, sorted}
use Rattle.queue.specs.Meaning.{limit, Sound}
use Rattle.queue.specs.Heaps.{Heap}
use Rattle.queue.specs.Answer.{refusal_of, unless}
use Rattle.queue.proofs.Sounding.{not_refused, sound_insert}
use Rattle.queue.proofs.Heaping.{heap_insert, used_heap}
use Rattle.queue.proofs.heap_queue.HeapQueueQueue.insert.Goals as goal

pub returns-clause-ordered : goal.returns-clause-ordered
returns-clause-ordered g c =
    let o = g.E.QueueEntry.order in
    let b = o.before in
    let e = c.args.e in
    let s = c.args.self.now.entries.now in
    let len = c.args.self.now.len in
    let xs = sorted b (take len s) in
    let room = min (length s) limit in
    let used = c.sift_up.new.entries in
    let behind = drop (len + 1) (set s len e) in
    let none : refusal_of o room e xs ≡ None = not_refused (refusal_of o room e xs) c.in_ok-check.field-0 (sym c.check.ensures.value ∙ c.in_ok-check.was) in
    let fit : len < room = subst (λ r. OnOk r (len < room)) c.in_ok-check.was c.check.ensures.room in
    let size : length used ≡ len + 1 = grind (arith, common_steps) in
    let same : min (length (used ++ behind)) limit ≡ room = grind (arith, common_steps) in
    let front : take (len + 1) (used ++ behind) ≡ used = grind (arith, common_steps) in
    let new : sorted b (take (len + 1) (used ++ behind)) ≡ insert_sorted b e xs =
    ap (sorted b) front ∙ c.sift_up.ensures.same ∙ heap_insert b g.met.E.QueueEntry.total s len e (omega arith) in (
      omega arith,
      used_heap b used behind (len + 1) (sym size) (subst (λ (k : ℕ). Heap b used k) (sym c.sift_up.auto.entries) c.sift_up.ensures.shape),
      subst (λ (k : ℕ). Sound o k (sorted b (take (len + 1) (used ++ behind)))) (sym same)
          (subst (Sound o room) (sym new) (sound_insert o room e xs g.met.E.QueueEntry.total c.requires.2 none)),
    )

pub returns-clause-after : goal.returns-clause-after
returns-clause-after g c =
    let o = g.E.QueueEntry.order in
    let b = o.before in
    let e = c.args.e in
    let s = c.args.self.now.entries.now in
    let len = c.args.self.now.len in
    let xs = sorted b (take len s) in
    let room = min (length s) limit in
    let used = c.sift_up.new.entries in
    let none : refusal_of o room e xs ≡ None = not_refused (refusal_of o room e xs) c.in_ok-check.field-0 (sym c.check.ensures.value ∙ c.in_ok-check.was) in
    let fit : len < room = subst (λ r. OnOk r (len < room)) c.in_ok-check.was c.check.ensures.room in
    let front : take (len + 1) (used ++ drop (len + 1) (set s len e)) ≡ used = grind (arith, common_steps) in
    ap (sorted b) front ∙ c.sift_up.ensures.same ∙ heap_insert b g.met.E.QueueEntry.total s len e (omega arith)
    ∙ sym (ap (λ r. unless r (insert_sorted b e xs) xs) none)
