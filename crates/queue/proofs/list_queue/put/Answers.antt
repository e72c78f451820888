use Rattle.std.proofs.Common.{◌≡◌, ◌+◌, ◌<◌, ◌-◌, true, length, take, set, sym, refl, ◌∙◌, arith}
use Rattle.std.proofs.lemmas.List.{take_all, length-set}
use Rattle.queue.proofs.Putting.{moved_start, moved_back, all_back, all_none, put_first, put_after}
use Rattle.queue.proofs.list_queue.put.Goals as goal
use Rattle.queue.proofs.list_queue.put.Goals.{then-loop-i-test+else-is_before, else-loop-i-test}

pub loop-i-init : goal.loop-i-init
loop-i-init g c =
    let s = c.args.entries.now in
    let n = length s - 1 in
    (moved_start s s n (omega arith) refl, all_none (λ y. g.E.QueueEntry.order.before c.args.e y ≡ true) n s)

pub loop-i-preserved : goal.loop-i-preserved
loop-i-preserved g c =
    let s = c.loop-i.entries in
    let s0 = c.args.entries.now in
    let n = length s0 - 1 in
    let room : n < length s0 = omega arith in (
      moved_back s s0 n room c.loop-i.i c.index-entries-i-in-loop-i.result (omega arith) c.loop-i.invariant.0 c.index-entries-i-in-loop-i.is,
      all_back s s0 n room (λ y. g.E.QueueEntry.order.before c.args.e y ≡ true) c.loop-i.i c.index-entries-i.result (omega arith) c.loop-i.invariant.0 c.index-entries-i.is
          (sym c.is_before.ensures ∙ c.if-is_before.true) c.loop-i.invariant.1,
    )

pub returns : goal.returns
returns g c =
    let before = g.E.QueueEntry.order.before in
    let s = c.loop-i.entries in
    let s0 = c.args.entries.now in
    let n = length s0 - 1 in
    let i = c.loop-i.i in
    let room : n < length s0 = omega arith in
    let whole : take (n + 1) (set s i c.args.e) ≡ set s i c.args.e = take_all (n + 1) (set s i c.args.e) (omega (arith, length-set s i c.args.e)) in
    elim c.loop-i-test.branch [
      | then-loop-i-test+else-is_before w ↦
          sym whole
          ∙ put_after before s s0 n room i c.args.e c.loop-i.invariant.0 c.loop-i.invariant.1
          g.met.E.QueueEntry.total w.index-entries-i.result c.requires.rising (omega arith) w.index-entries-i.is (sym w.is_before.ensures ∙ w.if-is_before.false)
      | else-loop-i-test w ↦ sym whole ∙ put_first before s s0 n room i c.args.e c.loop-i.invariant.0 c.loop-i.invariant.1 (omega arith)
    ]
