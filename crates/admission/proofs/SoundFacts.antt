-- What records that break no rule keep, taken out of the check.
use Rattle.std.proofs.Common.{◌≡◌, ℕ, ◌+◌, ◌<◌, ◌≤◌, true, false, ◌&&◌, eqb, List, [], ◌∷◌, length, get_or, take, drop, Some, None, Option, sym, refl, ap, ◌∙◌, subst, arith}
use Rattle.std.specs.List.{AllByRecursion, slice_get}
use Rattle.std.proofs.lemmas.Bool.{false≢true, and_parts, eqb-true, cond_both}
use Rattle.std.proofs.lemmas.Bool.Decides.{nat_tests}
use Rattle.std.proofs.lemmas.List.{drop_more, length-drop, take-append-drop}
use Rattle.std.proofs.ByRecursion.{All-append, All-weaker}
use Rattle.std.proofs.lemmas.Option.{slice_get-get_or}
use Rattle.table.specs.declared.records.TaskRecord.{TaskRecord}
use Rattle.table.specs.declared.records.SectionRecord.{SectionRecord}
use Rattle.table.specs.Level.{section_level}
use Rattle.admission.specs.declared.path.Opened.{Opened}
use Rattle.admission.specs.Sound.{unwound, longest, section_sound, opening, sections_sound, times_sound, task_sound, tasks_sound, same_level, level_sound, levels_sound, sound}
use Rattle.admission.specs.Facts.{Timed, Owned, LevelOf, Leveled, Judgeable}
use Rattle.admission.proofs.Dues.{due_section}
use Rattle.admission.proofs.Entered.{sound_parts}
use Rattle.admission.proofs.Runs.{sound_times, sound_sections}

-- the parts of the check
module _ (ts : List TaskRecord) (ss : List SectionRecord) (ok : sound ts ss ≡ true) where
  some_tasks : 1 ≤ length ts
  unfolding sound
  some_tasks = grind (arith, nat_tests)

  few_tasks : length ts ≤ 32
  unfolding sound
  few_tasks = grind (arith, nat_tests)

  pub few_sections : length ss ≤ 64
  unfolding sound
  few_sections = grind (arith, nat_tests)

  pub tasks_part : tasks_sound 0 0 ts ss ≡ true
  unfolding sound
  tasks_part = grind (arith, nat_tests)

  pub levels_part : levels_sound ts ss ss ≡ true
  unfolding sound
  levels_part = grind (arith, nat_tests)

-- a task's times
timed : (t : TaskRecord) → times_sound t ≡ true → Timed t
timed t ok = record { works = grind (arith, nat_tests); early = grind (arith, nat_tests); cyclic = grind (arith, nat_tests); near = grind (arith, nat_tests) }

all_timed : (k n : ℕ) (ts : List TaskRecord) (ss : List SectionRecord) → tasks_sound k n ts ss ≡ true → AllByRecursion Timed ts
all_timed k n [] ss ok = tt
all_timed k n (t ∷ ts) ss ok =
    let parts = and_parts (task_sound k n t ss) _ ok in
    (timed t (sound_times k n t ss parts.0), all_timed (k + 1) (n + t.sections.count) ts (drop t.sections.count ss) parts.1)

-- the sections of one task: no open section is longer than the task runs
abbrev Short : ℕ → Opened → Type 0
Short cost o = o.length ≤ cost

abbrev ShortIf : ℕ → Option (List Opened) → Type 0
ShortIf cost None = Unit {0}
ShortIf cost (Some path) = AllByRecursion (Short cost) path

abbrev Mine : ℕ → ℕ → SectionRecord → Type 0
Mine k cost s = (s.task ≡ k) × (s.length ≤ cost)

short_unwound : (cost : ℕ) (a : Option ℕ) (path : List Opened) → AllByRecursion (Short cost) path → ShortIf cost (unwound a path)
short_unwound cost None path all = tt
short_unwound cost (Some a) [] all = tt
short_unwound cost (Some a) (o ∷ path) all =
    cond_both (eqb o.number a) (Some (o ∷ path)) (unwound (Some a) path) (ShortIf cost) (λ _. all) (λ _. short_unwound cost (Some a) path all.1)

short_longest : (cost : ℕ) (path : List Opened) → AllByRecursion (Short cost) path → longest cost path ≤ cost
short_longest cost [] all = omega arith
short_longest cost (o ∷ path) all = all.0

mine : (k cost : ℕ) (path : List Opened) (s : SectionRecord) → AllByRecursion (Short cost) path → section_sound k cost path s ≡ true → Mine k cost s
mine k cost path s all ok =
    let own = sound_parts k cost path s ok in
    (own.owner, omega (arith, own.short, short_longest cost path all))

-- one section of a task, and those after it
module _
    (k cost n : ℕ) (s : SectionRecord) (ss : List SectionRecord)
    (rest : (path : List Opened) → AllByRecursion (Short cost) path → sections_sound k cost (n + 1) path ss ≡ true → AllByRecursion (Mine k cost) ss) where
  mine_more :
      (o : Option (List Opened)) → ShortIf cost o
      → elim o [ None ↦ false | Some inside ↦ section_sound k cost inside s && sections_sound k cost (n + 1) (opening n inside s ∷ inside) ss ] ≡ true
      → AllByRecursion (Mine k cost) (s ∷ ss)
  mine_more None all ok = absurd (false≢true ok)
  mine_more (Some inside) all ok =
      let parts = and_parts (section_sound k cost inside s) _ ok in
      let here = mine k cost inside s all parts.0 in
      (here, rest (opening n inside s ∷ inside) (here.1, all) parts.1)

all_mine : (k cost n : ℕ) (path : List Opened) (ss : List SectionRecord) → AllByRecursion (Short cost) path → sections_sound k cost n path ss ≡ true → AllByRecursion (Mine k cost) ss
all_mine k cost n path [] all ok = tt
all_mine k cost n path (s ∷ ss) all ok =
    mine_more k cost n s ss (λ next short good. all_mine k cost (n + 1) next ss short good) (unwound s.around path) (short_unwound cost s.around path all) ok

-- a task of the table, and the tasks after it
module _ (all : List TaskRecord) (k : ℕ) (t : TaskRecord) (ts : List TaskRecord) (at : drop k all ≡ t ∷ ts) where
  here_within : k < length all
  here_within = omega (arith, ap length at, length-drop k all)

  here_split : get_or all k t ∷ drop (k + 1) all ≡ t ∷ ts
  here_split = sym (drop_more all k t here_within) ∙ at

  here_is : slice_get all k ≡ Some t
  here_is = let split = here_split in let e : get_or all k t ≡ t = cc in slice_get-get_or all k t here_within ∙ ap Some e

  here_after : drop (k + 1) all ≡ ts
  here_after = let split = here_split in cc

  owned_here : (s : SectionRecord) → Mine k t.cost s → Owned all s
  owned_here s m = record { owner = t; found = ap (slice_get all) m.0 ∙ here_is; short = m.1 }

all_owned : (all : List TaskRecord) (k n : ℕ) (ts : List TaskRecord) (ss : List SectionRecord) → drop k all ≡ ts → tasks_sound k n ts ss ≡ true → AllByRecursion (Owned all) ss
all_owned all k n [] [] at ok = tt
all_owned all k n [] (s ∷ ss) at ok = absurd (false≢true ok)
all_owned all k n (t ∷ ts) ss at ok =
    let parts = and_parts (task_sound k n t ss) _ ok in
    let count = t.sections.count in
    let own = all_mine k t.cost n [] (take count ss) tt (sound_sections k n t ss parts.0) in
    let later = all_owned all (k + 1) (n + count) ts (drop count ss) (here_after all k t ts at) parts.1 in
    subst (AllByRecursion (Owned all)) (take-append-drop count ss)
    (All-append (Owned all) (take count ss) (drop count ss) (All-weaker (Mine k t.cost) (Owned all) (owned_here all k t ts at) (take count ss) own) later)

-- levels
pub same_level_lem : (a b : Option ℕ) → same_level a b ≡ true → a ≡ b
same_level_lem None None ok = refl
same_level_lem None (Some y) ok = absurd (false≢true ok)
same_level_lem (Some x) None ok = absurd (false≢true ok)
same_level_lem (Some x) (Some y) ok = ap Some (eqb-true x y ok)

level_of : (ts : List TaskRecord) (all : List SectionRecord) (s : SectionRecord) → level_sound ts all s ≡ true → Leveled ts s
level_of ts all s ok = subst (LevelOf ts) (sym (same_level_lem s.level (section_level ts all s) ok)) (due_section ts all s)

all_leveled : (ts : List TaskRecord) (all ss : List SectionRecord) → levels_sound ts all ss ≡ true → AllByRecursion (Leveled ts) ss
all_leveled ts all [] ok = tt
all_leveled ts all (s ∷ ss) ok =
    let parts = and_parts (level_sound ts all s) _ ok in
    (level_of ts all s parts.0, all_leveled ts all ss parts.1)

-- records that break no rule can be judged
pub judgeable_if_sound : (ts : List TaskRecord) (ss : List SectionRecord) → sound ts ss ≡ true → Judgeable ts ss
judgeable_if_sound ts ss ok = record {
  any = some_tasks ts ss ok;
  few = few_tasks ts ss ok;
  timed = all_timed 0 0 ts ss (tasks_part ts ss ok);
  owned = all_owned ts 0 0 ts ss refl (tasks_part ts ss ok);
  leveled = all_leveled ts ss ss (levels_part ts ss ok);
}
