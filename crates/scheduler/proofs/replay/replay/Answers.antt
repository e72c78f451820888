use Rattle.std.proofs.Common.{sym, ap, ◌∙◌}
use Rattle.scheduler.specs.Parts.{Whole, view}
use Rattle.scheduler.specs.Ready.{pass_table}
use Rattle.scheduler.specs.View.{table_of}
use Rattle.scheduler.proofs.Replays.{ran, all_shut}
use Rattle.scheduler.proofs.replay.replay.Goals as goal

pub returns-clause-ran : goal.returns-clause-ran
returns-clause-ran g c on =
    let new = c.new-core.ensures in
    let done = c.run.ensures in
    let core = c.new-core.result in
    let see = view g.W.Queue g.R.Queue in
    let from = sym done.live ∙ on in
    ran core.live (table_of core.records) c.args.calls.now (see core) c.run.new.answers c.args.answers.now (see c.run.new.core) done.value done.after (pass_table c.args.pass)
    c.args.pass.idle c.requires.pass from new.table (new.started from)

pub returns-clause-shut : goal.returns-clause-shut
returns-clause-shut g c off =
    let new = c.new-core.ensures in
    let done = c.run.ensures in
    let core = c.new-core.result in
    let from = sym done.live ∙ off in
    let kept = done.shut from in (
      all_shut core.live (table_of core.records) c.args.calls.now (view g.W.Queue g.R.Queue core) c.run.new.answers c.args.answers.now done.value from,
      ap (λ (x : Whole _ _). x.inner) kept ∙ new.own,
      ap (λ (x : Whole _ _). x.waiting) kept ∙ (new.same from).0,
      ap (λ (x : Whole _ _). x.released) kept ∙ (new.same from).1,
    )
