use Rattle.std.proofs.Common.{◌≡◌, length, sym, subst, rules}
use Rattle.table.specs.Judged.{room_for, judged}
use Rattle.table.specs.Meaning.{Meaning, Exactly}
use Rattle.table.proofs.Counted.{judged_within}
use Rattle.table.proofs.Meanings.{meaning, exactly}
use Rattle.table.proofs.read.read.Goals as goal

pub returns-in_err-counts-clause-meaning : goal.returns-in_err-counts-clause-meaning
returns-in_err-counts-clause-meaning c =
    let text = c.args.text.now in
    let t = length c.args.tasks.now in
    let s = length c.args.sections.now in
    let is : c.from_residual.result ≡ judged text t s = search rules in
    subst (Meaning text (room_for t s)) (sym is) (meaning text t s)

pub returns-in_err-counts-clause-exactly : goal.returns-in_err-counts-clause-exactly
returns-in_err-counts-clause-exactly c =
    let text = c.args.text.now in
    let t = length c.args.tasks.now in
    let s = length c.args.sections.now in
    let is : c.from_residual.result ≡ judged text t s = search rules in
    subst (Exactly text (room_for t s)) (sym is) (exactly text t s)

pub returns-clause-meaning : goal.returns-clause-meaning
returns-clause-meaning c =
    let text = c.args.text.now in
    let t = length c.args.tasks.now in
    let s = length c.args.sections.now in
    subst (Meaning text (room_for t s)) (sym c.in_ok-counts.ensures.value) (meaning text t s)

pub returns-clause-bound : goal.returns-clause-bound
returns-clause-bound c = judged_within c.args.text.now (length c.args.tasks.now) (length c.args.sections.now) _ c.in_ok-counts.ensures.value
