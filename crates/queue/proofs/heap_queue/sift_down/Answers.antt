use Rattle.std.proofs.Common.{◌≡◌, ℕ, true, length, sym, ◌∙◌, subst, arith}
use Rattle.queue.specs.Heaps.{Least}
use Rattle.queue.proofs.Heaping.{step_beneath, step_across_down}
use Rattle.queue.proofs.Multiset.{sorted_swapped}
use Rattle.queue.proofs.heap_queue.sift_down.Goals as goal

pub loop-i-preserved : goal.loop-i-preserved
loop-i-preserved g c =
    let b = g.E.QueueEntry.order.before in
    let o = g.met.E.QueueEntry.total in
    let s = c.loop-i.entries in
    let s' = c.swap.new.self in
    let n = length c.args.entries.now in
    let i = c.loop-i.i in
    let m = c.least_child-child.result in
    let x = c.index-entries-i.result in
    let y = c.index-entries-child.result in
    let size : length s ≡ n = omega arith in
    let least : Least b s n i m = subst (λ (k : ℕ). Least b s k i m) size c.least_child-child.ensures in
    let less : b y x ≡ true = sym c.if-not-is_before.ensures in (
      omega arith,
      step_beneath b o s n i m x y (omega arith) (omega arith) c.index-entries-i.is c.index-entries-child.is least c.loop-i.invariant.1 s' c.swap.ensures.by_index less c.loop-i.invariant.2,
      step_across_down b o s n i m x y (omega arith) (omega arith) c.index-entries-i.is c.index-entries-child.is least c.loop-i.invariant.1 s' c.swap.ensures.by_index less c.loop-i.invariant.2,
      sorted_swapped b o s s' i m (omega arith) (omega arith) (λ e. omega arith) c.swap.ensures.by_index ∙ c.loop-i.invariant.3,
    )
