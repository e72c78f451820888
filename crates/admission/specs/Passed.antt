-- What a pass stands for: its records were admitted, and it carries their idle instant. Whoever takes a pass may rely on just this.
use Rattle.admission.specs.declared.pass.Pass.{Pass}
use Rattle.admission.specs.Verdict.{Admitted}

abbrev pub Passed : Pass → Type 0
Passed p = Admitted p.tasks.now p.sections.now p.idle
