-- The orders of the two kinds of entry: part by part, from the left.
use Rattle.std.specs.Prelude.{ℕ, Bool, true, false, cond, nat_lt}
use Rattle.queue.specs.Order.{Order}
use Rattle.queue.specs.declared.waiting.Waiting.{Waiting}
use Rattle.queue.specs.declared.released.Released.{Released}

-- the left parts decide, unless they are equal: then `rest` does
abbrev pub then_by : ℕ → ℕ → Bool → Bool
then_by x y rest = cond (nat_lt x y) true (cond (nat_lt y x) false rest)

-- a waiting entry comes before another by its release, then by its task
abbrev pub waiting_before : Waiting → Waiting → Bool
waiting_before x y = then_by x.release y.release (nat_lt x.task y.task)

-- a released entry comes before another by its deadline, then by its relative deadline, then by its task
abbrev pub released_before : Released → Released → Bool
released_before x y =
    then_by x.deadline y.deadline (then_by x.relative y.relative (nat_lt x.task y.task))

-- the order of waiting entries
abbrev pub waiting_order : Order Waiting
waiting_order = record { before = waiting_before; task_of = λ e. e.task }

-- the order of released entries
abbrev pub released_order : Order Released
released_order = record { before = released_before; task_of = λ e. e.task }
