use Rattle.std.proofs.Common.{arith}
use Rattle.admission.proofs.SoundFacts.{judgeable_if_sound, few_sections}
use Rattle.scheduler.proofs.records.Records.copy.Goals as goal

pub copied-requires : goal.copied-requires
copied-requires c = omega (arith, (judgeable_if_sound _ _ c.requires).few)

pub copied-requires-2 : goal.copied-requires-2
copied-requires-2 c = omega (arith, few_sections _ _ c.requires)
