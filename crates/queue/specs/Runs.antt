-- Whole runs of a queue: lists of inserts and takes, what they answer and what they leave, and what is true of every such run.
use Rattle.std.specs.Prelude.{◌≡◌, ℕ, ◌+◌, Bool, true, false, cond, ◌&&◌, List, [], ◌∷◌, ◌++◌, length, take, drop, Some, None, Ok, Err, ◌==◌}
use Rattle.std.specs.List.{AllByRecursion}
use Rattle.queue.specs.Order.{Order, Rising}
use Rattle.queue.specs.Meaning.{first_of, rest_of}
use Rattle.queue.specs.Answer.{answered, inserted}
use Rattle.queue.specs.declared.runs.Call.{Call}
use Rattle.queue.specs.declared.runs.Call.TheVariants.{Insert, Take}
use Rattle.queue.specs.declared.runs.Mismatch.{Mismatch}
use Rattle.queue.specs.declared.runs.Mismatch.TheVariants.{Entries, Capacities, Places}
use Rattle.queue.specs.declared.runs.Answer.{Answer}
use Rattle.queue.specs.declared.runs.Answer.TheVariants.{Inserted, Taken}

-- what a call answers, by the list before it
abbrev pub answer_to : {E : Type 0} → Order E → ℕ → Call E → List E → Answer E
answer_to o capacity (Insert e) xs = Inserted (answered o capacity e xs)
answer_to o capacity Take xs = Taken (first_of xs)

-- the list after a call
abbrev pub list_after : {E : Type 0} → Order E → ℕ → Call E → List E → List E
list_after o capacity (Insert e) xs = inserted o capacity e xs
list_after o capacity Take xs = rest_of xs

-- what a list of calls answers, one answer to a call
abbrev pub answers_to : {E : Type 0} → Order E → ℕ → List (Call E) → List E → List (Answer E)
answers_to o capacity [] xs = []
answers_to o capacity (c ∷ cs) xs = answer_to o capacity c xs ∷ answers_to o capacity cs (list_after o capacity c xs)

-- the list after a list of calls
abbrev pub list_after_all : {E : Type 0} → Order E → ℕ → List (Call E) → List E → List E
list_after_all o capacity [] xs = xs
list_after_all o capacity (c ∷ cs) xs = list_after_all o capacity cs (list_after o capacity c xs)

-- the entry that a call put in, by its answer
abbrev pub put_by : {E : Type 0} → Call E → Answer E → List E
put_by (Insert e) (Inserted (Ok u)) = e ∷ []
put_by (Insert e) (Inserted (Err r)) = []
put_by (Insert e) (Taken x) = []
put_by Take a = []

-- the entries that a list of calls put in, by their answers
abbrev pub put_in : {E : Type 0} → List (Call E) → List (Answer E) → List E
put_in [] rs = []
put_in (c ∷ cs) [] = []
put_in (c ∷ cs) (a ∷ rs) = put_by c a ++ put_in cs rs

-- the entry that an answer gave out
abbrev pub out_by : {E : Type 0} → Answer E → List E
out_by (Inserted r) = []
out_by (Taken (Some e)) = e ∷ []
out_by (Taken None) = []

-- the entries that a list of answers gave out, in their order
abbrev pub came_out : {E : Type 0} → List (Answer E) → List E
came_out [] = []
came_out (a ∷ rs) = out_by a ++ came_out rs

-- how many entries of a list pass a test
abbrev pub counted : {E : Type 0} → (E → Bool) → List E → ℕ
counted test [] = 0
counted test (x ∷ xs) = cond (test x) 1 0 + counted test xs

-- whatever entries one counts, as many were put in as came out and are still there: none is lost, and none comes out twice
abbrev pub Kept : {E : Type 0} → List (Call E) → List (Answer E) → List E → Type 0
Kept {E} calls answers xs =
    (test : E → Bool) → counted test (put_in calls answers) ≡ counted test (came_out answers) + counted test xs

-- the call is a take
abbrev pub is_take : {E : Type 0} → Call E → Bool
is_take (Insert e) = false
is_take Take = true

-- what comes out by takes with no insert between them is in rising order, wherever they stand in the run
abbrev pub TakesRise : {E : Type 0} → (E → E → Bool) → List (Call E) → List (Answer E) → Type 0
TakesRise before calls answers =
    (i n : ℕ) → AllByRecursion (λ c. is_take c ≡ true) (take n (drop i calls)) → Rising before (came_out (take n (drop i answers)))

-- the law of two queues that start empty with one capacity and are given the same calls
pub record Alike {E : Type 0} (o : Order E) (capacity : ℕ) (calls : List (Call E)) (answers answers' : List (Answer E)) (xs xs' : List E) : Type 0 where
  pub same_answers : answers ≡ answers'
  pub same_lists : xs ≡ xs'
  pub run : answers ≡ answers_to o capacity calls []
  pub after : xs ≡ list_after_all o capacity calls []
  pub rising : TakesRise o.before calls answers
  pub kept : Kept calls answers xs

-- whether two queues can be compared: both empty, of one capacity, with one place for each answer
abbrev pub comparable : {E : Type 0} → List E → List E → ℕ → ℕ → ℕ → ℕ → ℕ → Bool
comparable xs ys c d calls from_p from_q =
    (length xs == 0 && length ys == 0) && (c == d && (from_p == calls && from_q == calls))

-- why two queues that cannot be compared cannot: a queue holds an entry, else the capacities differ, else there is not one place for each answer
abbrev pub mismatch_of : {E : Type 0} → List E → List E → ℕ → ℕ → Mismatch
mismatch_of xs ys c d = cond (length xs == 0 && length ys == 0) (cond (c == d) Places Capacities) Entries
