use Rattle.admission.proofs.Rises.{only_at_deadlines}
use Rattle.admission.proofs.laws.deadlines_suffice.Goals as goal

pub returns : goal.returns
returns c = only_at_deadlines
