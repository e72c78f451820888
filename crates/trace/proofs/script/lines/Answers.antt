use Rattle.std.proofs.Common.{◌==◌, not, length, rules, tests}
use Rattle.std.proofs.lemmas.Iterator.Consumers.{YieldsList-from_filter, YieldsList-at}
use Rattle.std.proofs.lemmas.Iterator.Splits.{YieldsList-from_slice_split}
use Rattle.trace.specs.declared.script.Line.{Line}
use Rattle.trace.specs.Line.{Says}
use Rattle.trace.proofs.Lines.{collected_by_map}
use Rattle.trace.proofs.script.lines.Goals as goal

pub returns : goal.returns
returns c =
    collected_by_map _ (λ x. x.now) _ (λ (l : Line). l.given.now) (λ (l : Line). Says l.given.now l.call) _ (λ x r q k. search rules) c.map.result c.collect.result _ c.collect.ensures.ran c.map.ensures.closure
    (YieldsList-at c.map.ensures.source
    (YieldsList-from_filter _ (λ piece. not (length piece == 0))
    (YieldsList-at c.filter.ensures.source (YieldsList-from_slice_split _ (λ b. b == 10) c.args.text.now c.split.ensures.rest c.split.ensures.done c.split.ensures.closure (λ x b q k. search (rules, tests))))
    c.filter.ensures.closure (λ x b q k. search (rules, tests))))
