-- The rules that the records of a table keep, whoever wrote them. Tasks come in order, each with its own run of sections; sections
-- come as their opening braces would stand in a text, so the sections around one are the last sections before it that are not yet
-- closed. An open section is told by its number, its length, and the resources that it and those around it name. Names of tasks are
-- not judged.
use Rattle.std.specs.Prelude.{ℕ, ◌+◌, ◌^◌, Bool, true, false, cond, ◌&&◌, List, [], ◌∷◌, length, take, drop, Some, None, Option, ◌==◌, bit_and, bit_or, nat_le, nat_lt}
use Rattle.table.specs.declared.records.TaskRecord.{TaskRecord}
use Rattle.table.specs.declared.records.SectionRecord.{SectionRecord}
use Rattle.table.specs.Limits.{resources, deepest, largest, most_tasks, most_sections}
use Rattle.table.specs.Level.{section_level}
use Rattle.admission.specs.declared.path.Opened.{Opened}

-- the open sections, innermost first, that are left once those inside the one named are closed; none where it is not among them
abbrev pub unwound : Option ℕ → List Opened → Option (List Opened)
unwound None path = Some []
unwound (Some a) [] = None
unwound (Some a) (o ∷ path) = cond (o.number == a) (Some (o ∷ path)) (unwound (Some a) path)

-- how long a section may be, and which resources are taken, inside these: outermost it goes by its task's C
abbrev pub longest : ℕ → List Opened → ℕ
longest cost [] = cost
longest cost (o ∷ path) = o.length

abbrev pub taken : List Opened → ℕ
taken [] = 0
taken (o ∷ path) = o.letters

-- both sets lie within 26 letters, and no resource stands in both
abbrev pub letters_sound : ℕ → ℕ → Bool
letters_sound small capital = nat_lt small (2 ^ resources) && (nat_lt capital (2 ^ resources) && bit_and small capital == 0)

-- whether two levels are the same
abbrev pub same_level : Option ℕ → Option ℕ → Bool
same_level None None = true
same_level None (Some y) = false
same_level (Some x) None = false
same_level (Some x) (Some y) = x == y

-- the level that a section record holds is the one that the table gives it
abbrev pub level_sound : List TaskRecord → List SectionRecord → SectionRecord → Bool
level_sound tasks sections s = same_level s.level (section_level tasks sections s)

-- a section of this length has room inside these, and nesting stays at most 8
abbrev pub roomy : ℕ → List Opened → ℕ → Bool
roomy cost path long = nat_le 1 long && (nat_le long (longest cost path) && nat_lt (length path) deepest)

-- a section of the task k, inside these: its task, its letters, its length, and nesting at most 8
abbrev pub section_sound : ℕ → ℕ → List Opened → SectionRecord → Bool
section_sound k cost path s =
    (s.task == k) && (letters_sound s.small s.capital && (bit_and (bit_or s.small s.capital) (taken path) == 0
    && roomy cost path s.length))

abbrev pub opening : ℕ → List Opened → SectionRecord → Opened
opening n path s = record { number = n; length = s.length; letters = bit_or (bit_or s.small s.capital) (taken path) }

-- the sections of the task k, from number n on, while these are open
abbrev pub sections_sound : ℕ → ℕ → ℕ → List Opened → List SectionRecord → Bool
sections_sound k cost n path [] = true
sections_sound k cost n path (s ∷ ss) =
    elim (unwound s.around path) [
      | None ↦ false
      | Some inside ↦ section_sound k cost inside s && sections_sound k cost (n + 1) (opening n inside s ∷ inside) ss
    ]

-- 1 ≤ C ≤ D ≤ T ≤ 1,048,576
abbrev pub times_sound : TaskRecord → Bool
times_sound t = nat_le 1 t.cost && (nat_le t.cost t.deadline && (nat_le t.deadline t.period && nat_le t.period largest))

-- the task k keeps the rules, with the first of these sections, which are numbered from n on
abbrev pub task_sound : ℕ → ℕ → TaskRecord → List SectionRecord → Bool
task_sound k n t ss =
    times_sound t && (t.sections.first == n && (nat_le t.sections.count (length ss)
    && sections_sound k t.cost n [] (take t.sections.count ss)))

-- the tasks from number k on own just these sections, which are numbered from n on
abbrev pub tasks_sound : ℕ → ℕ → List TaskRecord → List SectionRecord → Bool
tasks_sound k n [] [] = true
tasks_sound k n [] (s ∷ ss) = false
tasks_sound k n (t ∷ ts) ss = task_sound k n t ss && tasks_sound (k + 1) (n + t.sections.count) ts (drop t.sections.count ss)

-- each section holds its level
abbrev pub levels_sound : List TaskRecord → List SectionRecord → List SectionRecord → Bool
levels_sound tasks sections [] = true
levels_sound tasks sections (s ∷ ss) = level_sound tasks sections s && levels_sound tasks sections ss

-- the records break no rule
unfoldable pub sound : List TaskRecord → List SectionRecord → Bool
sound tasks sections =
    nat_le 1 (length tasks) && (nat_le (length tasks) most_tasks && (nat_le (length sections) most_sections
    && (tasks_sound 0 0 tasks sections && levels_sound tasks sections sections)))
