use Rattle.std.proofs.Common.{rules, ◌≡◌, List, [], slice_index_or, length, sym, refl, ap, ◌∙◌, arith}
use Rattle.std.proofs.lemmas.List.{take_all}
use Rattle.table.specs.declared.records.TaskRecord.{TaskRecord}
use Rattle.machine.specs.State.{relative, lowered, or_lower}
use Rattle.scheduler.specs.View.{table_of, opens_of}
use Rattle.scheduler.specs.declared.stack.OpenSection.{OpenSection}
use Rattle.scheduler.proofs.Jobs.{opens_none, opens_more}
use Rattle.scheduler.proofs.Facts.{no_task, no_open, open_within}
use Rattle.scheduler.proofs.records.Records.inherited.Goals as goal

pub loop-open-init : goal.loop-open-init
loop-open-init c =
    let k = c.args.self.now in
    let job = c.args.job.now in
    ap (λ (ts : List TaskRecord). (slice_index_or ts job.task no_task).deadline) c.deref.ensures.0
    ∙ ap (lowered (table_of k) (relative (table_of k) job.task)) (sym (opens_none [] refl))

pub level-requires : goal.level-requires
level-requires c =
    let k = c.args.self.now in
    let os = c.args.job.now.opened.items in
    let few = rw c.as_slice-open-items.ensures.value at c.loop-open-test.true in
    rw c.as_slice-open-items.ensures.value
    (open_within (table_of k) os (length os) c.loop-open.open-index (rw (take_all (length os) os (omega arith)) c.requires.nested) few (omega arith))

pub loop-open-preserved : goal.loop-open-preserved
loop-open-preserved c =
    let os = c.args.job.now.opened.items in
    let i = c.loop-open.open-index in
    let few = rw c.as_slice-open-items.ensures.value at c.loop-open-test.true in
    let lower : c.map_or-least.result ≡ or_lower c.loop-open.least c.level.result = search rules in
    rw (lower, c.loop-open.invariant, c.level.ensures, c.as_slice-open-items.ensures.value, opens_more os i no_open few)

pub returns : goal.returns
returns c =
    let k = c.args.self.now in
    let job = c.args.job.now in
    let os = job.opened.items in
    let few = ap length c.as_slice-open-items.ensures.value in
    c.loop-open.invariant ∙ ap (λ (l : List OpenSection). lowered (table_of k) (relative (table_of k) job.task) (opens_of l))
    (take_all c.loop-open.open-index os (omega (arith, few, c.loop-open-test.false, c.loop-open.auto.open-index-end)))
