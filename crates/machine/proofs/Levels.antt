-- A section's level is at most the D of every task that names one of its resources.
use Rattle.std.proofs.Common.{◌≡◌, ℕ, zero, suc, ◌+◌, ◌<◌, ◌≤◌, true, if◌then◌else◌, List, [], ◌∷◌, map, length, get_or, Some, None, Option, refl, ap, ◌∙◌, inl, inr, arith}
use Rattle.std.specs.List.{AllByRecursion, range_with_len}
use Rattle.std.proofs.lemmas.Bool.{and_parts, cases_lt}
use Rattle.std.proofs.lemmas.Bool.Decides.{nat_tests}
use Rattle.std.proofs.lemmas.List.Elements.{All-from_recursion}
use Rattle.table.specs.declared.records.TaskRecord.{TaskRecord}
use Rattle.table.specs.declared.records.SectionRecord.{SectionRecord}
use Rattle.table.specs.Level.{names, deadline_of, lesser, letter_level, letter_levels, least_level, section_level}
use Rattle.admission.specs.Demand.{reaches}
use Rattle.admission.specs.Sound.{sound, same_level, level_sound, levels_sound}
use Rattle.machine.specs.State.{Table, relative, section_at}
use Rattle.machine.proofs.Tables.{deadline_at_lem}

-- the lesser of two levels is at most each of them
lesser_left : (a b : Option ℕ) (n : ℕ) → reaches a n ≡ true → reaches (lesser a b) n ≡ true
lesser_left None b n e = grind arith
lesser_left (Some x) None n e = e
lesser_left (Some x) (Some y) n e = grind (arith, nat_tests)

lesser_right : (a b : Option ℕ) (n : ℕ) → reaches b n ≡ true → reaches (lesser a b) n ≡ true
lesser_right None b n e = e
lesser_right (Some x) None n e = grind arith
lesser_right (Some x) (Some y) n e = grind (arith, nat_tests)

-- a resource's level is at most the D of a task that names it
letter_low :
    (ts : List TaskRecord) (r n : ℕ) (d : SectionRecord) (ss : List SectionRecord) (y : ℕ) → y < length ss → names (get_or ss y d) r ≡ true
    → deadline_of ts (get_or ss y d).task ≡ Some n → reaches (letter_level ts ss r) n ≡ true
letter_low ts r n d [] y h na e = absurd (omega arith)
letter_low ts r n d (s ∷ ss) zero h na e =
    lesser_left (if names s r then deadline_of ts s.task else None) (letter_level ts ss r) n (grind (arith, nat_tests))
letter_low ts r n d (s ∷ ss) (suc y) h na e =
    lesser_right (if names s r then deadline_of ts s.task else None) (letter_level ts ss r) n (letter_low ts r n d ss y (omega arith) na e)

-- the least level of the resources that a section names is at most that of each of them
least_low :
    (f : ℕ → Option ℕ) (s : SectionRecord) (r n m a : ℕ) → a ≤ r → r < a + m → names s r ≡ true → reaches (f r) n ≡ true
    → reaches (least_level (map f (range_with_len a m)) a s) n ≡ true
least_low f s r n zero a h g na e = absurd (omega arith)
least_low f s r n (suc m) a h g na e =
    elim (cases_lt a r) [
      | inl lt ↦ lesser_right (if names s a then f a else None) (least_level (map f (range_with_len (a + 1) m)) (a + 1) s) n (least_low f s r n m (a + 1) (omega arith) (omega arith) na e)
      | inr ge ↦
          let same : r ≡ a = omega arith in
          let na' = rw same at na in
          let e' = rw same at e in
          lesser_left (if names s a then f a else None) (least_level (map f (range_with_len (a + 1) m)) (a + 1) s) n (grind arith)
    ]

section_low : (ts : List TaskRecord) (ss : List SectionRecord) (s : SectionRecord) (r n : ℕ) → r < 26 → names s r ≡ true → reaches (letter_level ts ss r) n ≡ true → reaches (section_level ts ss s) n ≡ true
unfolding letter_levels
section_low ts ss s r n h na e = least_low (letter_level ts ss) s r n 26 0 (omega arith) (omega arith) na e

-- each section of sound records holds its level
same_level_lem : (a b : Option ℕ) → same_level a b ≡ true → a ≡ b
same_level_lem None None e = refl
same_level_lem None (Some y) e = grind arith
same_level_lem (Some x) None e = grind arith
same_level_lem (Some x) (Some y) e = grind (arith, nat_tests)

all_levels : (ts : List TaskRecord) (all ss : List SectionRecord) → levels_sound ts all ss ≡ true → AllByRecursion (λ s. s.level ≡ section_level ts all s) ss
all_levels ts all [] e = tt
all_levels ts all (s ∷ ss) e =
    let p = and_parts (level_sound ts all s) _ e in
    (same_level_lem s.level (section_level ts all s) p.0, all_levels ts all ss p.1)

levels_of : (ts : List TaskRecord) (ss : List SectionRecord) → sound ts ss ≡ true → levels_sound ts ss ss ≡ true
unfolding sound
levels_of ts ss e = grind arith

-- the level of section x is at most the D of the task of section y, where both name a resource
pub level_low : (k : Table) → sound k.tasks k.sections ≡ true → (x y r : ℕ) → x < length k.sections → y < length k.sections
    → (section_at k y).task < length k.tasks → r < 26 → names (section_at k x) r ≡ true → names (section_at k y) r ≡ true
    → reaches (section_at k x).level (relative k (section_at k y).task) ≡ true
level_low k ok x y r hx hy own hr nx ny =
    let n = relative k (section_at k y).task in
    let is : (section_at k x).level ≡ section_level k.tasks k.sections (section_at k x) =
    All-from_recursion (λ s. s.level ≡ section_level k.tasks k.sections s) k.sections (all_levels k.tasks k.sections k.sections (levels_of k.tasks k.sections ok)) x _ hx in
    ap (λ o. reaches o n) is ∙ section_low k.tasks k.sections (section_at k x) r n hr nx
    (letter_low k.tasks r n _ k.sections y hy ny (deadline_at_lem k (section_at k y).task own))
