-- What the core's copies of the records give: how many they are, and times that are not too large.
use Rattle.std.proofs.Common.{◌≡◌, ℕ, zero, suc, ◌<◌, ◌≤◌, true, List, ◌∷◌, length, slice_index_or, take, inl, inr, add-one, arith}
use Rattle.std.proofs.lemmas.Bool.{cases_lt}
use Rattle.std.proofs.lemmas.Bool.Decides.{nat_tests}
use Rattle.std.proofs.ByRecursion.{All-get_or}
use Rattle.table.specs.declared.records.TaskRecord.{TaskRecord}
use Rattle.table.specs.Limits.{most_tasks}
use Rattle.admission.specs.Facts.{Timed, Judgeable}
use Rattle.admission.proofs.SoundFacts.{judgeable_if_sound}
use Rattle.machine.specs.State.{Table, Open, task_at}
use Rattle.scheduler.specs.declared.records.Records.{Records}
use Rattle.scheduler.specs.declared.stack.OpenSection.{OpenSection}
use Rattle.scheduler.specs.View.{table_of, open_of, opens_of}
use Rattle.scheduler.specs.Steady.{chained}
use Rattle.scheduler.proofs.Jobs.{opens_more}

module _ (k : Records) where
  pub judgeable : Judgeable (table_of k).tasks (table_of k).sections
  judgeable = judgeable_if_sound (table_of k).tasks (table_of k).sections k.copied

  pub few_tasks : length k.tasks.items ≤ most_tasks
  few_tasks = judgeable.few

  pub timed_at : (i : ℕ) → i < length k.tasks.items → Timed (task_at (table_of k) i)
  timed_at i h = All-get_or Timed (table_of k).tasks i _ h judgeable.timed

abbrev pub no_task : TaskRecord
no_task = record { name = record { first = 0; count = 0 }; deadline = 0; period = 0; cost = 0; sections = record { first = 0; count = 0 } }

-- the innermost of open sections is one of the table's, and the others lie in one another too
pub chained_parts : (k : Table) (o : Open) (os : List Open) → chained k (o ∷ os) ≡ true → (o.section < length k.sections) × (chained k os ≡ true)
chained_parts k o os c = grind (arith, nat_tests)

abbrev pub no_open : OpenSection
no_open = record { section = 0; serial = 0 }

pub open_within :
    (k : Table) (os : List OpenSection) (n i : ℕ) → chained k (opens_of (take n os)) ≡ true → i < n → n ≤ length os
    → (slice_index_or os i no_open).section < length k.sections
open_within k os zero i c lt le = absurd (omega arith)
open_within k os (suc n) i c lt le =
    let parts = chained_parts k (open_of (slice_index_or os n no_open)) (opens_of (take n os)) (rw (← add-one n, opens_more os n no_open (omega arith)) at c) in
    elim (cases_lt i n) [ inl less ↦ open_within k os n i parts.1 less (omega arith) | inr more ↦ (let same : n ≡ i = omega arith in rw (← same) parts.0) ]
