-- The open sections of a task as the check keeps them: the innermost last, where the rules have a list of them with the innermost first.
use Rattle.std.specs.Prelude.{ℕ, cond, List, ◌∷◌, reverse, Some, None, Option}
use Rattle.table.specs.declared.records.SectionRecord.{SectionRecord}
use Rattle.admission.specs.declared.path.Opened.{Opened}
use Rattle.admission.specs.declared.path.Path.{Path}
use Rattle.admission.specs.Sound.{unwound, section_sound, opening}

-- the open sections
abbrev pub open_of : Path → List Opened
open_of path = reverse path.opened.items

-- the open sections once the next one, which has the number n, is open too; none where it breaks a rule
abbrev pub entered : ℕ → ℕ → ℕ → List Opened → SectionRecord → Option (List Opened)
entered k cost n path s =
    elim (unwound s.around path) [
      | None ↦ None
      | Some inside ↦ cond (section_sound k cost inside s) (Some (opening n inside s ∷ inside)) None
    ]
