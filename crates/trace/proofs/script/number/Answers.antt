use Rattle.std.proofs.Common.{sym, subst, arith}
use Rattle.std.proofs.lemmas.Str.Pattern.{starts_char}
use Rattle.std.proofs.lemmas.Bool.Decides.{not_from_Decides}
use Rattle.trace.specs.Line.{Counts}
use Rattle.trace.proofs.Words.{counted}
use Rattle.trace.proofs.script.number.Goals as goal

pub returns : goal.returns
returns c =
    let word = c.args.word.now in
    let plain = not_from_Decides c.starts_with.result (starts_char 43 word c.starts_with.result c.starts_with.ensures.cases (omega arith) (omega arith)) c.if-starts_with.false in
    subst (Counts 64 word) (sym c.ok.ensures.value) (counted 64 word c.parse.result c.parse.ensures.value.0 plain)
