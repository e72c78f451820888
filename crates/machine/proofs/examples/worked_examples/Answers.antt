use Rattle.machine.proofs.Verdicts.{verdicts}
use Rattle.machine.proofs.Ran.{runs, refusals}
use Rattle.machine.proofs.Meeting.{met}
use Rattle.machine.proofs.examples.worked_examples.Goals as goal

pub returns : goal.returns
returns c = record { verdicts = verdicts; runs = runs; refusals = refusals; met = met }
