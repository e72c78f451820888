use Rattle.std.proofs.Common.{◌≡◌, ◌<◌, Bool, length, slice_index_or, take, ◌∙◌, arith}
use Rattle.std.proofs.lemmas.List.{take_all}
use Rattle.machine.specs.declared.call.Call.TheVariants.{Advance}
use Rattle.machine.specs.State.{Table, State}
use Rattle.scheduler.specs.View.{table_of}
use Rattle.scheduler.specs.Parts.{view}
use Rattle.scheduler.specs.Calls.{answer_of, state_after}
use Rattle.scheduler.proofs.Replays.{at_same, state_more, answers_more}
use Rattle.scheduler.proofs.replay.run.Goals as goal

pub loop-i-preserved : goal.loop-i-preserved
loop-i-preserved g c =
    let core = c.args.core.now in
    let s = view g.W.Queue g.R.Queue core in
    let k = table_of core.records in
    let cs = c.args.calls.now in
    let old = c.args.answers.now in
    let i = c.loop-i.i in
    let call = slice_index_or cs i (Advance 0) in
    let inv = c.loop-i.invariant in
    let made = c.make.ensures in
    let room : i < length old = omega (arith, c.loop-i-test.true, c.requires) in (
      made.live ∙ inv.0,
      made.table ∙ inv.1,
      rw (state_more core.live k cs i (Advance 0) s c.loop-i-test.true) (made.after ∙ at_same (λ (b : Bool) (t : Table) (x : State). state_after b t call x) inv.0 inv.1 inv.2),
      rw inv.3
          (answers_more core.live k cs i (Advance 0) s old c.make.result c.loop-i-test.true room
          (made.value ∙ at_same (λ (b : Bool) (t : Table) (x : State). answer_of b t call x) inv.0 inv.1 inv.2)),
      λ e. made.shut (inv.0 ∙ e) ∙ inv.4 e,
    )

pub returns : goal.returns
returns g c =
    let core = c.args.core.now in
    let s = view g.W.Queue g.R.Queue core in
    let k = table_of core.records in
    let cs = c.args.calls.now in
    let old = c.args.answers.now in
    let i = c.loop-i.i in
    let inv = c.loop-i.invariant in
    let all : take i cs ≡ cs = take_all i cs c.loop-i-test.false in
    let end : i ≡ length cs = omega arith in
    record {
      live = inv.0;
      table = inv.1;
      shut = inv.4;
      value = rw (inv.3, all, end);
      after = rw (inv.2, all);
    }
