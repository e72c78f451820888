-- When two queues can serve an admitted table: neither holds an entry, and each has room for every task.
use Rattle.std.specs.Prelude.{ℕ, Bool, ◌&&◌, List, length, ◌==◌, nat_le}
use Rattle.admission.specs.declared.pass.Pass.{Pass}
use Rattle.queue.specs.declared.waiting.Waiting.{Waiting}
use Rattle.queue.specs.declared.released.Released.{Released}
use Rattle.machine.specs.State.{Table}

-- the table that a pass holds
abbrev pub pass_table : Pass → Table
pass_table p = record { tasks = p.tasks.now; sections = p.sections.now }

-- whether two queues can serve so many tasks: neither holds an entry, and each has room for every task
abbrev pub serve : ℕ → ℕ → ℕ → ℕ → ℕ → Bool
serve tasks waiting released wc rc = waiting == 0 && (released == 0 && (nat_le tasks wc && nat_le tasks rc))

abbrev pub ready : Table → List Waiting → List Released → ℕ → ℕ → Bool
ready k ws rs wc rc = serve (length k.tasks) (length ws) (length rs) wc rc
