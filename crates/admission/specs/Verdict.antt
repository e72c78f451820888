-- The verdict on a pair of slices of records. Records that break a rule are refused. Otherwise instants are judged one by one, from 1 to
-- the idle instant, the least t ≥ 1 by which the tasks ask for just t ticks; but no further than the horizon. `judged` is that
-- walk; `Verdict` says what its answers mean, and of any records just one answer keeps that word.
use Rattle.std.specs.Prelude.{◌≡◌, ℕ, zero, suc, ◌+◌, ◌<◌, ◌≤◌, true, false, cond, List, Ok, Err, Result, ◌==◌, nat_lt}
use Rattle.table.specs.declared.records.TaskRecord.{TaskRecord}
use Rattle.table.specs.declared.records.SectionRecord.{SectionRecord}
use Rattle.admission.specs.declared.refusal.Refusal.{Refusal}
use Rattle.admission.specs.declared.refusal.Refusal.TheVariants.{Records, Demand, Undecided as NotDecided}
use Rattle.admission.specs.Demand.{demand, workload, blocking}
use Rattle.admission.specs.Sound.{sound}

-- the last instant that is judged
abbrev pub horizon : ℕ
horizon = 1048576

-- what is asked for by t: demand plus blocking, H(t) + B(t)
abbrev pub asked : List TaskRecord → List SectionRecord → ℕ → ℕ
asked tasks sections t = demand tasks t + blocking tasks sections t

-- the instants from t on, of which so many are left up to the horizon
abbrev pub judged_from : List TaskRecord → List SectionRecord → ℕ → ℕ → Result ℕ Refusal
judged_from tasks sections zero t = Err NotDecided
judged_from tasks sections (suc left) t =
    cond (nat_lt t (asked tasks sections t)) (Err (Demand t (asked tasks sections t)))
    (cond (workload tasks t == t) (Ok t) (judged_from tasks sections left (t + 1)))

-- the idle instant, or the refusal
unfoldable pub judged : List TaskRecord → List SectionRecord → Result ℕ Refusal
judged tasks sections = cond (sound tasks sections) (judged_from tasks sections horizon 1) (Err Records)

-- everything asked for by t fits
abbrev pub Fits : List TaskRecord → List SectionRecord → ℕ → Type 0
Fits tasks sections t = asked tasks sections t ≤ t

-- everything fits by every instant, however late
abbrev pub FitsEver : List TaskRecord → List SectionRecord → Type 0
FitsEver tasks sections = (t : ℕ) → 1 ≤ t → Fits tasks sections t

-- t is the idle instant
pub record Idle (tasks : List TaskRecord) (t : ℕ) : Type 0 where
  pub positive : 1 ≤ t
  pub idle : workload tasks t ≡ t
  pub least : (u : ℕ) → 1 ≤ u → workload tasks u ≡ u → t ≤ u

-- sound records that fit at every instant from 1 to the idle one
pub record Admitted (tasks : List TaskRecord) (sections : List SectionRecord) (idle : ℕ) : Type 0 where
  pub rules : sound tasks sections ≡ true
  pub until : Idle tasks idle
  pub within : idle ≤ horizon
  pub fits : (t : ℕ) → 1 ≤ t → t ≤ idle → Fits tasks sections t

-- sound records for which t is the least judged instant at which they do not fit
pub record Overload (tasks : List TaskRecord) (sections : List SectionRecord) (t all : ℕ) : Type 0 where
  pub rules : sound tasks sections ≡ true
  pub positive : 1 ≤ t
  pub within : t ≤ horizon
  pub value : all ≡ asked tasks sections t
  pub over : t < all
  pub before : (u : ℕ) → 1 ≤ u → u < t → Fits tasks sections u
  pub until : (idle : ℕ) → Idle tasks idle → t ≤ idle

-- sound records that fit at every instant up to the horizon, with no idle one among those
pub record Unsettled (tasks : List TaskRecord) (sections : List SectionRecord) : Type 0 where
  pub rules : sound tasks sections ≡ true
  pub fits : (t : ℕ) → 1 ≤ t → t ≤ horizon → Fits tasks sections t
  pub busy : (idle : ℕ) → Idle tasks idle → horizon < idle

-- what a refusal means
abbrev pub Refused : List TaskRecord → List SectionRecord → Refusal → Type 0
Refused tasks sections Records = sound tasks sections ≡ false
Refused tasks sections (Demand t all) = Overload tasks sections t all
Refused tasks sections NotDecided = Unsettled tasks sections

-- what an answer means
abbrev pub Verdict : List TaskRecord → List SectionRecord → Result ℕ Refusal → Type 0
Verdict tasks sections (Ok idle) = Admitted tasks sections idle
Verdict tasks sections (Err why) = Refused tasks sections why
