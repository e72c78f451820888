use Rattle.trace.proofs.Words.{said_of}
use Rattle.trace.proofs.script.Line.read.Goals as goal

pub returns-clause-call : goal.returns-clause-call
returns-clause-call c = said_of _ c.args.given.now c.from_utf8.result c.ok.result c.and_then.result c.from_utf8.ensures.cases c.ok.ensures.value c.and_then.ensures
