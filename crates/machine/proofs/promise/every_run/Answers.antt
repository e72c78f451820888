use Rattle.machine.proofs.Promised.{every_run}
use Rattle.machine.proofs.promise.every_run.Goals as goal

pub returns : goal.returns
returns c = every_run
