use Rattle.std.proofs.Common.{◌≡◌, ℕ, ◌+◌, ◌++◌, ◌<◌, min, length, take, drop, None, sym, ◌∙◌, subst, arith}
use Rattle.std.proofs.lemmas.Grind.{common_steps}
use Rattle.std.specs.Result.{OnOk}
use Rattle.queue.specs.Order.{insert_sorted}
use Rattle.queue.specs.Meaning.{limit, Sound}
use Rattle.queue.specs.Answer.{refusal_of}
use Rattle.queue.proofs.Sounding.{not_refused, sound_insert}
use Rattle.queue.proofs.list_queue.ListQueueQueue.insert.Goals as goal

pub returns-clause-ordered : goal.returns-clause-ordered
returns-clause-ordered g c =
    let o = g.E.QueueEntry.order in
    let e = c.args.e in
    let s = c.args.self.now.entries.now in
    let len = c.args.self.now.len in
    let xs = take len s in
    let room = min (length s) limit in
    let last = c.put.new.entries ++ drop (len + 1) s in
    let none : refusal_of o room e xs ≡ None = not_refused (refusal_of o room e xs) c.in_ok-check.field-0 (sym c.check.ensures.value ∙ c.in_ok-check.was) in
    let fit : len < room = subst (λ r. OnOk r (len < room)) c.in_ok-check.was c.check.ensures.room in
    let same : min (length last) limit ≡ room = grind (arith, common_steps) in
    let put : take (len + 1) last ≡ insert_sorted o.before e xs = grind (arith, common_steps) in (
      omega arith,
      subst (λ (n : ℕ). Sound o n (take (len + 1) last)) (sym same)
          (subst (Sound o room) (sym put) (sound_insert o room e xs g.met.E.QueueEntry.total c.requires.1 none)),
    )
