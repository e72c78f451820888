-- What admission gives to the machine: the times of each task, the owner of each section, and that what is asked for fits at every instant.
use Rattle.std.proofs.Common.{◌≡◌, ℕ, zero, suc, ◌+◌, ◌<◌, ◌≤◌, true, List, [], ◌∷◌, length, get_or, drop, Some, ap, ◌∙◌, arith}
use Rattle.std.specs.Option.{option_map}
use Rattle.std.proofs.lemmas.Bool.Decides.{nat_tests}
use Rattle.std.proofs.lemmas.List.Elements.{All-from_recursion}
use Rattle.std.proofs.lemmas.Option.{slice_get-get_or, slice_get_within}
use Rattle.std.proofs.lemmas.List.{drop_all}
use Rattle.table.specs.declared.records.TaskRecord.{TaskRecord}
use Rattle.table.specs.declared.records.SectionRecord.{SectionRecord}
use Rattle.table.specs.Level.{deadline_of}
use Rattle.queue.specs.declared.waiting.Waiting.{Waiting}
use Rattle.admission.specs.Demand.{demand, demand_of, blocking, blocks, reaches}
use Rattle.admission.specs.Facts.{Timed, Owned, Judgeable}
use Rattle.admission.specs.Verdict.{Admitted}
use Rattle.admission.proofs.SoundFacts.{judgeable_if_sound}
use Rattle.admission.proofs.Beyond.{fits_ever}
use Rattle.admission.proofs.Several.{demand_more}
use Rattle.machine.specs.State.{task_at, Table, relative, period, cost, section_at, first_releases}
use Rattle.machine.proofs.Lists.{tot}

-- what the proofs over runs know of a table
pub record Fit (k : Table) : Type 0 where
  pub c_pos : (i : ℕ) → i < length k.tasks → 1 ≤ cost k i
  pub c_d : (i : ℕ) → i < length k.tasks → cost k i ≤ relative k i
  pub d_t : (i : ℕ) → i < length k.tasks → relative k i ≤ period k i
  pub owned : (x : ℕ) → x < length k.sections → (section_at k x).task < length k.tasks
  pub fits : (t : ℕ) → 1 ≤ t → demand k.tasks t ≤ t
  pub fits_held : (t x : ℕ) → 1 ≤ t → x < length k.sections → reaches (section_at k x).level t ≡ true → t < relative k (section_at k x).task
      → demand k.tasks t + (section_at k x).length ≤ t

-- a section that blocks is no longer than what blocks most
blocking_least :
    (ts : List TaskRecord) (t : ℕ) (d : SectionRecord) (ss : List SectionRecord) (x : ℕ) → x < length ss → blocks ts (get_or ss x d) t ≡ true
    → (get_or ss x d).length ≤ blocking ts ss t
blocking_least ts t d [] x h b = omega arith
blocking_least ts t d (s ∷ ss) zero h b = grind arith
blocking_least ts t d (s ∷ ss) (suc x) h b = omega (arith, blocking_least ts t d ss x (omega arith) b)

module _ (k : Table) (j : Judgeable k.tasks k.sections) where
  timed_at : (i : ℕ) → i < length k.tasks → Timed (task_at k i)
  timed_at i h = All-from_recursion Timed k.tasks j.timed i _ h

  owned_at : (x : ℕ) → x < length k.sections → Owned k.tasks (section_at k x)
  owned_at x h = All-from_recursion (Owned k.tasks) k.sections j.owned x _ h

  known_owner : (x : ℕ) → x < length k.sections → (section_at k x).task < length k.tasks
  known_owner x h = slice_get_within k.tasks (section_at k x).task _ (owned_at x h).found

-- the D of a task of the table, as levels have it
pub deadline_at_lem : (k : Table) (i : ℕ) → i < length k.tasks → deadline_of k.tasks i ≡ Some (relative k i)
deadline_at_lem k i h = ap (option_map (λ (t : TaskRecord). t.deadline)) (slice_get-get_or k.tasks i _ h)

pub fit_if_admitted : (k : Table) (idle : ℕ) → Admitted k.tasks k.sections idle → Fit k
fit_if_admitted k idle ad =
    let j = judgeable_if_sound k.tasks k.sections ad.rules in
    let ever = fits_ever k.tasks k.sections idle ad in
    record {
      c_pos = λ i h. (timed_at k j i h).works;
      c_d = λ i h. (timed_at k j i h).early;
      d_t = λ i h. (timed_at k j i h).cyclic;
      owned = known_owner k j;
      fits = λ t h. omega (arith, ever t h);
      fits_held = λ t x h lt low far.
          let dl = deadline_at_lem k (section_at k x).task (known_owner k j x lt) in
          let b : blocks k.tasks (section_at k x) t ≡ true = grind (arith, nat_tests) in
          omega (arith, ever t h, blocking_least k.tasks t _ k.sections x lt b);
    }

-- the demand of a table is the sum over its tasks, each released at 0
demand_from : (k : Table) (t n i : ℕ) → i + n ≡ length k.tasks → demand (drop i k.tasks) t ≡ tot (λ (a : Waiting). demand_of (task_at k a.task) t) (first_releases i n)
demand_from k t zero i h = ap (λ ts. demand ts t) (drop_all i k.tasks (omega arith))
demand_from k t (suc n) i h = demand_more k.tasks i t (omega arith) ∙ ap (λ m. demand_of (task_at k i) t + m) (demand_from k t n (i + 1) (omega arith))

pub demand_is : (k : Table) (t : ℕ) → demand k.tasks t ≡ tot (λ (a : Waiting). demand_of (task_at k a.task) t) (first_releases 0 (length k.tasks))
demand_is k t = demand_from k t (length k.tasks) 0 (omega arith)
