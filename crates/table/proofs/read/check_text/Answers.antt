use Rattle.std.proofs.Common.{sym, ap, ◌∙◌}
use Rattle.std.proofs.lemmas.Bool.{cond-true, cond-false, lt-ltb, le-ltb}
use Rattle.table.specs.Judged.{judged, lines_judged, nothing_read}
use Rattle.table.specs.Lines.{lines_of}
use Rattle.table.proofs.read.check_text.Goals as goal

pub returns-then-text-gt-LONGEST_TEXT-clause-value : goal.returns-then-text-gt-LONGEST_TEXT-clause-value
unfolding judged
returns-then-text-gt-LONGEST_TEXT-clause-value c = sym (cond-true _ _ _ (lt-ltb _ _ c.if-text-gt-LONGEST_TEXT.true))

pub returns-then-is_empty-clause-value : goal.returns-then-is_empty-clause-value
unfolding judged
returns-then-is_empty-clause-value c = sym (cond-false _ _ _ (le-ltb _ _ c.if-text-gt-LONGEST_TEXT.false) ∙ cond-true _ _ _ (sym c.if-is_empty.ensures))

pub returns-clause-value : goal.returns-clause-value
unfolding judged
returns-clause-value c =
    c.check_lines.ensures ∙ ap (λ room. lines_judged room nothing_read (lines_of c.args.text.now)) c.room_for.ensures
    ∙ sym (cond-false _ _ _ (le-ltb _ _ c.if-text-gt-LONGEST_TEXT.false) ∙ cond-false _ _ _ (sym c.if-is_empty.ensures))
