-- The limits of a table, each in one place.
use Rattle.std.specs.Prelude.{ℕ}

-- letters of a name
abbrev pub longest_name : ℕ
longest_name = 8

-- the largest number: a deadline, a period, a run time or a length, in ticks
abbrev pub largest : ℕ
largest = 1048576

-- bytes of a text
abbrev pub longest_text : ℕ
longest_text = 16384

-- tasks of a table
abbrev pub most_tasks : ℕ
most_tasks = 32

-- sections of a table
abbrev pub most_sections : ℕ
most_sections = 64

-- sections that stand inside one another
abbrev pub deepest : ℕ
deepest = 8

-- resources, one for each letter
abbrev pub resources : ℕ
resources = 26
