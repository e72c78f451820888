use Rattle.std.proofs.Common.{◌≡◌, true, length, sym, ◌∙◌, arith}
use Rattle.queue.proofs.Heaping.{step_above, step_across}
use Rattle.queue.proofs.Multiset.{sorted_swapped}
use Rattle.queue.proofs.heap_queue.sift_up.Goals as goal

pub loop-i-preserved : goal.loop-i-preserved
loop-i-preserved g c =
    let b = g.E.QueueEntry.order.before in
    let o = g.met.E.QueueEntry.total in
    let s = c.loop-i.entries in
    let s' = c.swap.new.self in
    let n = length c.args.entries.now in
    let i = c.loop-i.i in
    let p = c.parent_of-parent.result in
    let x = c.index-entries-i.result in
    let y = c.index-entries-parent.result in
    let less : b x y ≡ true = sym c.if-not-is_before.ensures in (
      omega arith,
      step_above b o s n s' i p x y (omega arith) (omega arith) c.index-entries-i.is c.index-entries-parent.is c.parent_of-parent.ensures c.swap.ensures.by_index less (omega arith) c.loop-i.invariant.1 c.loop-i.invariant.2,
      step_across b o s n s' i p x y (omega arith) (omega arith) c.index-entries-i.is c.index-entries-parent.is c.parent_of-parent.ensures c.swap.ensures.by_index less (omega arith) c.loop-i.invariant.1 c.loop-i.invariant.2,
      sorted_swapped b o s s' i p (omega arith) (omega arith) (λ e. omega arith) c.swap.ensures.by_index ∙ c.loop-i.invariant.3,
    )
