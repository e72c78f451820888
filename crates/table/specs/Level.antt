-- Levels. A resource's level is the least D of the tasks that name it; a section's level is the least level of the
-- resources that it names itself. No level counts as above every number.
use Rattle.std.specs.Prelude.{ℕ, ◌+◌, ◌/◌, ◌%◌, ◌^◌, min, Bool, cond, ◌||◌, List, [], ◌∷◌, map, Some, None, Option, ◌==◌}
use Rattle.std.specs.List.{slice_get, range_with_len}
use Rattle.std.specs.Option.{option_map}
use Rattle.table.specs.Limits.{resources}
use Rattle.table.specs.declared.records.TaskRecord.{TaskRecord}
use Rattle.table.specs.declared.records.SectionRecord.{SectionRecord}

-- whether a set has the resource with this number: bit 0 is a
abbrev pub member : ℕ → ℕ → Bool
member set resource = (set / 2 ^ resource % 2) == 1

-- whether a section names a resource itself, in either case
abbrev pub names : SectionRecord → ℕ → Bool
names s resource = member s.small resource || member s.capital resource

-- the relative deadline of the task with this number
abbrev pub deadline_of : List TaskRecord → ℕ → Option ℕ
deadline_of tasks i = option_map (λ (t : TaskRecord). t.deadline) (slice_get tasks i)

-- the lesser of two levels
abbrev pub lesser : Option ℕ → Option ℕ → Option ℕ
lesser None b = b
lesser (Some x) None = Some x
lesser (Some x) (Some y) = Some (min x y)

-- the least D of the tasks whose sections, from these on, name a resource
abbrev pub letter_level : List TaskRecord → List SectionRecord → ℕ → Option ℕ
letter_level tasks [] resource = None
letter_level tasks (s ∷ ss) resource =
    lesser (cond (names s resource) (deadline_of tasks s.task) None) (letter_level tasks ss resource)

-- the level of each of the letters
unfoldable pub letter_levels : List TaskRecord → List SectionRecord → List (Option ℕ)
letter_levels tasks sections = map (letter_level tasks sections) (range_with_len 0 resources)

-- the least of these levels, which are those of the resources from this one on, that a section names itself
abbrev pub least_level : List (Option ℕ) → ℕ → SectionRecord → Option ℕ
least_level [] resource s = None
least_level (l ∷ ls) resource s = lesser (cond (names s resource) l None) (least_level ls (resource + 1) s)

-- a section's level in a table
abbrev pub section_level : List TaskRecord → List SectionRecord → SectionRecord → Option ℕ
section_level tasks sections s = least_level (letter_levels tasks sections) 0 s
