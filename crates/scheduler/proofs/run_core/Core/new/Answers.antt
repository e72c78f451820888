use Rattle.std.proofs.Common.{◌≡◌, [], length, refl, arith}
use Rattle.std.proofs.lemmas.List.{nil_from_length}
use Rattle.scheduler.specs.View.{table_of}
use Rattle.scheduler.proofs.Steps.{left}
use Rattle.scheduler.proofs.Starts.{served, fresh_ghosts, fresh_listed, fresh_state}
use Rattle.scheduler.proofs.run_core.Core.new.Goals as goal

pub invariant_of-engine : goal.invariant_of-engine
invariant_of-engine g c =
    let k = c.copy-records.result in
    let rs = g.R.Queue.list c.args.released in
    let all = c.len-tasks.ensures.value in
    let in-wait = served (length (g.W.Queue.list c.args.waiting)) c.len-tasks.result (g.W.Queue.capacity c.args.waiting) c.serves.ensures c.if-not-serves.false in
    let out = served (length rs) c.len-tasks.result (g.R.Queue.capacity c.args.released) c.serves-else-not-serves.ensures c.if-not-serves-2.false in
    let none : rs ≡ [] = nil_from_length rs out.0 in
    (left c.new.ensures (rw (← all) c.fill.ensures.list) none c.fill.ensures.capacity refl c.fill.ensures.ordered c.requires.ordered.1 (fresh_ghosts k)
    (fresh_listed k (g.W.Queue.capacity c.args.waiting) (g.R.Queue.capacity c.args.released) (omega (arith, in-wait.1, all)) (omega (arith, out.1, all)))).fits

pub returns-clause-started : goal.returns-clause-started
returns-clause-started g c _ =
    let k = c.copy-records.result in
    let pass = c.args.pass in
    let rs = g.R.Queue.list c.args.released in
    let out = served (length rs) c.len-tasks.result (g.R.Queue.capacity c.args.released) c.serves-else-not-serves.ensures c.if-not-serves-2.false in
    let none : rs ≡ [] = nil_from_length rs out.0 in
    let is : table_of k ≡ record { tasks = pass.tasks.now; sections = pass.sections.now } =
    rw (c.tasks.ensures, c.sections.ensures) at c.copy-records.ensures in
    rw (c.new.ensures, c.fill.ensures.list, c.len-tasks.ensures.value, none) (fresh_state k pass.tasks.now pass.sections.now is)
