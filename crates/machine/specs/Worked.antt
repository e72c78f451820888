-- Worked examples: what the definitions come to on a few small tables. A table is given by its text; `reads` is what reading it answers, and
-- `verdict` what admission answers on the records that were read. Of a run, `answers` is what each call answered, and
-- `after` the state after its first so many calls.
use Rattle.std.specs.Prelude.{◌≡◌, ℕ, ◌<◌, List, [], ◌∷◌, ◌++◌, map, length, take, Some, Ok, Err, codes, Option, Result}
use Prim.Native.String.{String}
use Rattle.table.specs.declared.records.Counts.{Counts as Sizes}
use Rattle.table.specs.declared.records.SectionRecord.{SectionRecord}
use Rattle.table.specs.declared.refusal.Rule.TheVariants.{Times}
use Rattle.table.specs.declared.refusal.Refusal.{Refusal as Unread}
use Rattle.table.specs.declared.refusal.Refusal.TheVariants.{Broken}
use Rattle.table.specs.Limits.{most_tasks, most_sections}
use Rattle.table.specs.Judged.{judged as read}
use Rattle.table.specs.Record.{text_tasks, text_sections}
use Rattle.admission.specs.declared.refusal.Refusal.{Refusal as NotAdmitted}
use Rattle.admission.specs.declared.refusal.Refusal.TheVariants.{Demand}
use Rattle.admission.specs.Verdict.{judged, Admitted}
use Rattle.queue.specs.declared.released.Released.{Released}
use Rattle.machine.specs.declared.call.Call.{Call}
use Rattle.machine.specs.declared.call.Call.TheVariants.{Advance, Enter, Leave, Finish}
use Rattle.machine.specs.declared.call.Answer.{Answer}
use Rattle.machine.specs.declared.call.Refusal.{Refusal}
use Rattle.machine.specs.declared.call.Answer.TheVariants.{Advanced, Granted, Running, Refused}
use Rattle.machine.specs.declared.call.Refusal.TheVariants.{Past, Far, BeyondDue, NothingRuns, NotEnterable, TooManyEntries, NotInnermost, NotOpen, StillOpen}
use Rattle.machine.specs.State.{Table, Job, State, cost}
use Rattle.machine.specs.Step.{step}
use Rattle.machine.specs.Run.{Event, history, reached, moved, run_time, Expires, Somewhere, Kept}

-- a line of a text, with its byte 10, before others
abbrev pub line : String → List ℕ → List ℕ
line s rest = codes s ++ (10 ∷ rest)

-- a text is read into slices for as many tasks and sections as a table can have
abbrev pub reads : List ℕ → Result Sizes Unread
reads text = read text most_tasks most_sections

-- the idle instant of a text's records, or why they are not admitted
abbrev pub verdict : List ℕ → Result ℕ NotAdmitted
verdict text = judged (text_tasks text) (text_sections text)

-- the levels of a text's sections
abbrev pub levels : List ℕ → List (Option ℕ)
levels text = map (λ (s : SectionRecord). s.level) (text_sections text)

-- the flash table, with the last line left to choose
abbrev pub flash_with : String → List ℕ
flash_with last =
    line "hostrd: D=40 T=50 C=10 9{ a B }"
    (line "mapupd: D=50 T=80 C=10 8{ a 2{ B 1{ C } } }"
    (line "reloc: D=60 T=100 C=20 2{ b } 17{ c 13{ b } }"
    (line last [])))

abbrev pub flash : List ℕ
flash = flash_with "scrub: D=90 T=90 C=30 18{ a c }"

abbrev pub flash20 : List ℕ
flash20 = flash_with "scrub: D=90 T=90 C=30 20{ a c }"

abbrev pub flash21 : List ℕ
flash21 = flash_with "scrub: D=90 T=90 C=30 21{ a c }"

-- four tasks without sections, with the last line left to choose
abbrev pub plain_with : String → List ℕ
plain_with last = line "p: D=3 T=4 C=1" (line "q: D=5 T=8 C=1" (line "r: D=6 T=10 C=2" (line last [])))

abbrev pub plain4 : List ℕ
plain4 = plain_with "s: D=9 T=15 C=4"

abbrev pub plain5 : List ℕ
plain5 = plain_with "s: D=9 T=15 C=5"

-- a table of one task that takes all the time, the same task twice, and a C past its D
abbrev pub whole : List ℕ
whole = line "x: D=1 T=1 C=1" []

abbrev pub twice : List ℕ
twice = line "x: D=1 T=1 C=1" (line "x: D=1 T=1 C=1" [])

abbrev pub upside : List ℕ
upside = line "x: D=3 T=4 C=4" []

-- two tasks that share a resource
abbrev pub pair : List ℕ
pair = line "fast: D=4 T=10 C=2 1{ a }" (line "slow: D=20 T=20 C=8 2{ a }" [])

-- from text to verdict
pub record Verdicts : Type 0 where
  pub flash_reads : reads flash ≡ Ok (record { tasks = 4; sections = 8 })
  pub flash_levels : levels flash ≡ Some 40 ∷ Some 40 ∷ Some 40 ∷ Some 50 ∷ Some 40 ∷ Some 50 ∷ Some 40 ∷ Some 40 ∷ []
  pub flash_idle : verdict flash ≡ Ok 80
  pub flash20_reads : reads flash20 ≡ Ok (record { tasks = 4; sections = 8 })
  pub flash20_idle : verdict flash20 ≡ Ok 80
  pub flash21_reads : reads flash21 ≡ Ok (record { tasks = 4; sections = 8 })
  pub flash21_over : verdict flash21 ≡ Err (Demand 60 61)
  pub plain4_reads : reads plain4 ≡ Ok (record { tasks = 4; sections = 0 })
  pub plain4_idle : verdict plain4 ≡ Ok 14
  pub plain5_reads : reads plain5 ≡ Ok (record { tasks = 4; sections = 0 })
  pub plain5_over : verdict plain5 ≡ Err (Demand 9 10)
  pub whole_reads : reads whole ≡ Ok (record { tasks = 1; sections = 0 })
  pub whole_idle : verdict whole ≡ Ok 1
  pub twice_reads : reads twice ≡ Ok (record { tasks = 2; sections = 0 })
  pub twice_over : verdict twice ≡ Err (Demand 1 2)
  pub upside_refused : reads upside ≡ Err (Broken Times (record { line = 1; byte = 1 }))
  pub pair_reads : reads pair ≡ Ok (record { tasks = 2; sections = 2 })
  pub pair_idle : verdict pair ≡ Ok 10

-- the table of a text
abbrev pub table_of : List ℕ → Table
table_of text = record { tasks = text_tasks text; sections = text_sections text }

-- what each call of a run answered
abbrev pub answers_of : List Event → List (Answer Refusal)
answers_of [] = []
answers_of (e ∷ es) = e.answer ∷ answers_of es

abbrev pub answers : List ℕ → List Call → List (Answer Refusal)
answers text cs = answers_of (history (table_of text) cs)

-- the state after the first so many calls
abbrev pub after : List ℕ → ℕ → List Call → State
after text n cs = reached (table_of text) (take n cs)

-- a run of the two tasks that share a resource: slow is in its section when fast is released
abbrev pub pair_calls : List Call
pair_calls =
    Advance 0 ∷ Advance 2 ∷ Finish ∷ Advance 9 ∷ Enter 1 ∷ Advance 10
    ∷ Leave (record { task = 1; section = 1; serial = 0 }) ∷ Finish ∷ Finish ∷ []

-- a run of the flash table: hostrd is released with the deadline of scrub, which runs
abbrev pub flash_calls : List Call
flash_calls = Advance 0 ∷ Advance 10 ∷ Finish ∷ Advance 20 ∷ Finish ∷ Advance 40 ∷ Finish ∷ Advance 50 ∷ []

-- what runs come to
pub record Runs : Type 0 where
  pub pair_answers :
      answers pair pair_calls
      ≡ Advanced (0, 2, 0) ∷ Advanced (0, 0, 0) ∷ Running 1 ∷ Advanced (0, 0, 1) ∷ Granted (record { task = 1; section = 1; serial = 0 }) ∷ Advanced (0, 1, 1)
      ∷ Running 0 ∷ Running 1 ∷ Running 32 ∷ []
  pub pair_waits : (after pair 6 pair_calls).released ≡ record { deadline = 14; relative = 4; task = 0 } ∷ []
  pub pair_stays :
      (after pair 6 pair_calls).stack ≡ record { task = 1; deadline = 20; opened = record { section = 1; serial = 0 } ∷ [] } ∷ []
  pub pair_preempts :
      (after pair 7 pair_calls).stack ≡ record { task = 0; deadline = 14; opened = [] } ∷ record { task = 1; deadline = 20; opened = [] } ∷ []
  pub pair_ends : (after pair 9 pair_calls).stack ≡ []
  pub pair_counts :
      (after pair 9 pair_calls).counts ≡ record { releases = 3; finishes = 3; expiries = 0; entries = 1; leaves = 1; taken = 0 }
  pub flash_answers :
      answers flash flash_calls
      ≡ Advanced (0, 4, 0) ∷ Advanced (0, 0, 0) ∷ Running 1 ∷ Advanced (0, 0, 1) ∷ Running 2 ∷ Advanced (0, 0, 2) ∷ Running 3 ∷ Advanced (0, 1, 3) ∷ []
  pub flash_keeps : (after flash 8 flash_calls).stack ≡ record { task = 3; deadline = 90; opened = [] } ∷ []
  pub flash_waits : (after flash 8 flash_calls).released ≡ record { deadline = 90; relative = 40; task = 0 } ∷ []

-- a run of the flash table with every refusal but one, what its calls answer, and those of them that are not refused
abbrev pub refused_calls : List Call
refused_calls =
    Finish ∷ Enter 0 ∷ Advance 1 ∷ Advance 0 ∷ Advance 41 ∷ Advance 281474976710656 ∷ Enter 1 ∷ Enter 0 ∷ Finish ∷ Advance 10 ∷ Advance 9
    ∷ Leave (record { task = 0; section = 0; serial = 0 }) ∷ Leave (record { task = 0; section = 0; serial = 0 }) ∷ Finish
    ∷ Enter 1 ∷ Enter 2 ∷ Leave (record { task = 1; section = 1; serial = 1 }) ∷ []

abbrev pub refused_answers : List (Answer Refusal)
refused_answers =
    Refused NothingRuns ∷ Refused NothingRuns ∷ Refused (BeyondDue 0) ∷ Advanced (0, 4, 0) ∷ Refused (BeyondDue 40) ∷ Refused Far
    ∷ Refused NotEnterable ∷ Granted (record { task = 0; section = 0; serial = 0 }) ∷ Refused StillOpen ∷ Advanced (0, 0, 0) ∷ Refused Past
    ∷ Running 0 ∷ Refused NotOpen ∷ Running 1 ∷ Granted (record { task = 1; section = 1; serial = 1 })
    ∷ Granted (record { task = 1; section = 2; serial = 2 }) ∷ Refused (NotInnermost (record { task = 1; section = 1; serial = 1 })) ∷ []

abbrev pub accepted_calls : List Call
accepted_calls = Advance 0 ∷ Enter 0 ∷ Advance 10 ∷ Leave (record { task = 0; section = 0; serial = 0 }) ∷ Finish ∷ Enter 1 ∷ Enter 2 ∷ []

-- a state in which fast runs, and as many entries were made as can be counted
abbrev pub full : State
full = record {
  clock = 0;
  waiting = record { release = 0; task = 1 } ∷ [];
  released = [];
  stack = record { task = 0; deadline = 4; opened = [] } ∷ [];
  counts = record { releases = 1; finishes = 0; expiries = 0; entries = 4294967295; leaves = 4294967295; taken = 0 };
}

-- what refusals come to
pub record Refusals : Type 0 where
  pub answered : answers flash refused_calls ≡ refused_answers
  pub unchanged : reached (table_of flash) refused_calls ≡ reached (table_of flash) accepted_calls
  pub too_many : step (table_of pair) (Enter 0) full ≡ record { state = full; answer = Refused TooManyEntries }

-- three tasks that fill ten ticks
abbrev pub tight : List ℕ
tight = line "hi: D=4 T=5 C=2 1{ a }" (line "lo: D=10 T=10 C=4 2{ a }" (line "last: D=10 T=10 C=2" []))

abbrev pub tight_table : Table
tight_table = table_of tight

-- lo stays in its section while hi waits; last runs just its C and does not finish
abbrev pub tight_calls : List Call
tight_calls =
    Advance 0 ∷ Advance 2 ∷ Finish ∷ Advance 4 ∷ Enter 1 ∷ Advance 5 ∷ Advance 6
    ∷ Leave (record { task = 1; section = 1; serial = 0 }) ∷ Advance 8 ∷ Finish ∷ Finish ∷ Advance 10 ∷ []

-- the first released job, of task i with deadline d, is more urgent than the running one, of task l, which has a section open
abbrev pub HeldUp : ℕ → ℕ → ℕ → List Released → List Job → Type 0
HeldUp i d l [] js = ⊥
HeldUp i d l (e ∷ es) [] = ⊥
HeldUp i d l (e ∷ es) (j ∷ js) = (e.task ≡ i) × (e.deadline ≡ d) × (j.task ≡ l) × (d < j.deadline) × (0 < length j.opened)

-- so it was while a call moved the clock
abbrev pub Blocks : ℕ → ℕ → ℕ → Event → Type 0
Blocks i d l e = (0 < moved e) × HeldUp i d l e.before.released e.before.stack

-- the promise that an expired job has run just its C is no empty one: in this run of an admitted table no job runs too long and no stay is
-- too long, a job is blocked, and another expires
pub record Met : Type 0 where
  pub tight_reads : reads tight ≡ Ok (record { tasks = 3; sections = 2 })
  pub admitted : Admitted tight_table.tasks tight_table.sections 10
  pub kept : Kept tight_table (history tight_table tight_calls)
  pub blocked : Somewhere (Blocks 0 9 1) (history tight_table tight_calls)
  pub expired : Somewhere (Expires 2 10) (history tight_table tight_calls)
  pub exact : (run_time 2 10 (history tight_table tight_calls) ≡ 2) × (cost tight_table 2 ≡ 2)

-- all the examples
pub record Worked : Type 0 where
  pub verdicts : Verdicts
  pub runs : Runs
  pub refusals : Refusals
  pub met : Met
