-- What is true of the core's copies of the records, which is a ghost field of `Records`: they break no rule.
use Rattle.std.specs.Prelude.{◌≡◌, true}
use Rattle.arrayvec.specs.ArrayVec.{ArrayVec}
use Rattle.table.specs.declared.records.TaskRecord.{TaskRecord}
use Rattle.table.specs.declared.records.SectionRecord.{SectionRecord}
use Rattle.admission.specs.Sound.{sound}

abbrev pub Copied : ArrayVec TaskRecord → ArrayVec SectionRecord → Type 0
Copied tasks sections = sound tasks.items sections.items ≡ true
