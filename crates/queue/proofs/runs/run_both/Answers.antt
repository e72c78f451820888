use Rattle.std.proofs.Common.{◌≡◌, [], sym, ap, ◌∙◌, subst}
use Rattle.queue.specs.Meaning.{Sound}
use Rattle.queue.specs.Runs.{answers_to, list_after_all, Kept, TakesRise}
use Rattle.queue.proofs.Running.{run_kept, run_rises}
use Rattle.queue.proofs.runs.run_both.Goals as goal

pub returns : goal.returns
returns g c =
    let o = g.P.Entry.QueueEntry.order in
    let p = c.args.p.now in
    let q = c.args.q.now in
    let calls = c.args.calls.now in
    let n = g.P.Queue.capacity p in
    let value : c.run.new.answers ≡ answers_to o n calls [] =
    c.run.ensures.value ∙ ap (answers_to o n calls) c.requires.empty.0 in
    let after : g.P.Queue.list c.run.new.q ≡ list_after_all o n calls [] =
    c.run.ensures.after ∙ ap (list_after_all o n calls) c.requires.empty.0 in
    let value-2 : c.run-2.new.answers ≡ answers_to o n calls [] =
    c.run-2.ensures.value ∙ ap (answers_to o (g.Q.Queue.capacity q) calls) c.requires.empty.1 ∙ ap (λ m. answers_to o m calls []) (sym c.requires.capacity) in
    let after-2 : g.Q.Queue.list c.run-2.new.q ≡ list_after_all o n calls [] =
    c.run-2.ensures.after ∙ ap (list_after_all o (g.Q.Queue.capacity q) calls) c.requires.empty.1 ∙ ap (λ m. list_after_all o m calls []) (sym c.requires.capacity) in
    let sound : Sound o n [] = subst (Sound o n) c.requires.empty.0 (g.P.Queue.sound o p c.requires.ordered.0) in
    record {
      ordered = (c.run.ensures.ordered, c.run-2.ensures.ordered);
      capacity = (c.run.ensures.capacity, c.run-2.ensures.capacity);
      law = record {
        same_answers = value ∙ sym value-2;
        same_lists = after ∙ sym after-2;
        run = value;
        after = after;
        rising = subst (TakesRise o.before calls) (sym value) (run_rises o n g.met.P.Entry.QueueEntry.total calls [] sound);
        kept = subst (λ l. Kept calls l (g.P.Queue.list c.run.new.q)) (sym value) (subst (Kept calls (answers_to o n calls [])) (sym after) (run_kept o n calls));
      };
    }
