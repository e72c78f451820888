-- The place that is noted of a task is where it is: in one of the two lists, or on the stack.
use Rattle.std.proofs.Common.{length, ◌≡◌, ℕ, ◌<◌, ◌≤◌, Bool, false, if◌then◌else◌, ◌==◌, ◌≢◌, List, Some, None, Option, sym, arith}
use Rattle.std.proofs.lemmas.Bool.Decides.{nat_tests}
use Rattle.std.proofs.ByRecursion.{All-weaker}
use Rattle.table.specs.Limits.{most_tasks}
use Rattle.queue.specs.declared.waiting.Waiting.{Waiting as WaitingEntry}
use Rattle.queue.specs.declared.released.Released.{Released as ReleasedEntry}
use Rattle.queue.specs.Meaning.{queued}
use Rattle.scheduler.specs.declared.records.Records.{Records}
use Rattle.scheduler.specs.declared.stack.Spot.{Spot}
use Rattle.scheduler.specs.declared.stack.Spot.TheVariants.{Waiting, Released, Stacked}
use Rattle.scheduler.specs.declared.stack.Inner.{Inner}
use Rattle.scheduler.specs.declared.question.Place.{Place}
use Rattle.scheduler.specs.declared.question.Place.TheVariants.{Waiting as IsWaiting, Released as IsReleased, Stacked as IsStacked}
use Rattle.scheduler.specs.View.{jobs_of}
use Rattle.scheduler.specs.Steady.{spot_at, Steady}
use Rattle.scheduler.specs.Moves.{place_from}
use Rattle.scheduler.specs.Fitted.{WaitsIn, ReleasedIn, Listed}
use Rattle.scheduler.specs.Calls.{stacked}
use Rattle.scheduler.proofs.Facts.{few_tasks}
use Rattle.scheduler.proofs.Ghosts.{high}
use Rattle.scheduler.proofs.Queues.{none_of}
use Rattle.scheduler.proofs.Fits.{released_waits, others_waiting, others_released}
use Rattle.scheduler.proofs.Grants.{no_jobs, one_job, other_job, stood_here}

module _ {k : Records} {i : Inner} (gh : Steady k i) {ws : List WaitingEntry} {rs : List ReleasedEntry} {wc rc : ℕ} (li : Listed k i ws rs wc rc) (task : ℕ) where
  abbrev waits : Bool
  waits = queued (λ (w : WaitingEntry). w.task) task ws

  abbrev is_out : Bool
  is_out = queued (λ (e : ReleasedEntry). e.task) task rs

  abbrev stands : Bool
  stands = stacked task (jobs_of i.stack i.depth)

  abbrev chosen : Option Place
  chosen = if waits then Some IsWaiting else if is_out then Some IsReleased else if stands then Some IsStacked else None

  -- a task with another spot is not in a list
  not_waiting : (spot_at i task ≡ Waiting → ⊥) → waits ≡ false
  not_waiting other = none_of (λ w. w.task) task ws (others_waiting k i task ws other li.waiting)

  not_released : (spot_at i task ≡ Released → ⊥) → is_out ≡ false
  not_released other = none_of (λ e. e.task) task rs (others_released k i task rs other li.released)

  -- a task of the table, by its spot
  pub place_by : task < length k.tasks.items → (s : Spot) → s ≡ spot_at i task → Some (place_from s) ≡ chosen
  place_by lt Waiting is = let in-it = li.waiting_all task lt (sym is) in grind arith
  place_by lt Released is =
      let in-it = li.released_all task lt (sym is) in
      let not-in = not_waiting (λ e. released_waits (spot_at i task) (sym is) e) in
      grind arith
  place_by lt (Stacked at) is =
      let small : task < most_tasks = omega (arith, lt, few_tasks k) in
      let stood = stood_here gh task small at (sym is) in
      let here = one_job (λ j. j.task == task) i.stack i.depth at (high gh) stood.0 (λ q h ne. other_job gh task small at (sym is) q h ne) in
      let not-in = not_waiting (λ e. grind arith) in
      let not-out = not_released (λ e. grind arith) in
      grind arith

  -- a number outside the table
  pub place_none : length k.tasks.items ≤ task → None ≡ chosen
  place_none far =
      let a : waits ≡ false = none_of (λ w. w.task) task ws (All-weaker (WaitsIn k i) (λ w. w.task ≢ task) (λ w h e. omega (arith, h.0)) ws li.waiting) in
      let b : is_out ≡ false = none_of (λ e. e.task) task rs (All-weaker (ReleasedIn k i) (λ e. e.task ≢ task) (λ e h q. omega (arith, h.0)) rs li.released) in
      let c : stands ≡ false = no_jobs (λ j. j.task == task) i.stack i.depth (high gh) (λ p h. grind (arith, nat_tests, (gh.known p h).0)) in
      grind arith
