-- What is taken from an input.
use Rattle.std.specs.Prelude.{◌≡◌, ℕ, cond, List, map, is_some, Some, None, vec_items, codes, Option}
use Rattle.std.specs.Option.{unwrap_or}
use Rattle.std.specs.List.{AllByRecursion, filter_map}
use Rattle.std.specs.Str.{bytes_eq}
use Rattle.machine.specs.declared.call.Call.{Call}
use Rattle.trace.specs.declared.script.Line.{Line}
use Rattle.trace.specs.declared.script.Queues.{Queues}
use Rattle.trace.specs.declared.script.Queues.TheVariants.{Lists, Heaps}
use Rattle.trace.specs.declared.script.Script.{Script}
use Rattle.trace.specs.Cut.{line_of, behind_line, table_of, behind_table, pieces_of, filled}
use Rattle.trace.specs.Line.{Says}

-- the queues that a line chooses
abbrev pub choice_of : List ℕ → Option Queues
choice_of line = cond (bytes_eq line (codes "queue list")) (Some Lists) (cond (bytes_eq line (codes "queue heap")) (Some Heaps) None)

-- the queues that are chosen right behind the table, or heaps, and what is left for calls
abbrev pub queues_of : List ℕ → Queues
queues_of behind = unwrap_or (choice_of (line_of behind)) Heaps

abbrev pub calls_of : List ℕ → List ℕ
calls_of behind = cond (is_some (choice_of (line_of behind))) (behind_line behind) behind

-- each line has its bytes, and the call that they are
abbrev pub Lined : List ℕ → List Line → Type 0
Lined text lines = (map (λ (l : Line). l.given.now) lines ≡ filled (pieces_of text)) × AllByRecursion (λ (l : Line). Says l.given.now l.call) lines

pub record Taken (input : List ℕ) (s : Script) : Type 0 where
  pub table : s.table.now ≡ table_of input
  pub queues : s.queues ≡ queues_of (behind_table input)
  pub lines : Lined (calls_of (behind_table input)) (vec_items s.lines)

-- the calls among lines
abbrev pub calls_among : List Line → List Call
calls_among lines = filter_map (λ (l : Line). l.call) lines
