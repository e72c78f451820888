-- Nesting stays within its limit. Where records break no rule, sections each of which lies directly in the next, out to an outermost
-- one, are at most 8. The check walks through the sections with those that are open, and asks of each that it finds fewer than 8
-- around it; here each open section is shown to have no more sections around it than the walk still has open beneath it, so the count
-- that the check limits is the true one.
use Rattle.std.proofs.Common.{◌≡◌, ℕ, ◌+◌, ◌<◌, ◌≤◌, true, false, ◌&&◌, eqb, List, [], ◌∷◌, ◌++◌, length, get_or, take, drop, Some, None, Option, sym, refl, ap, ◌∙◌, subst, inl, inr, arith}
use Rattle.std.proofs.lemmas.Bool.{false≢true, and_parts, eqb-true, cond_both, cases_lt}
use Rattle.std.proofs.lemmas.List.{drop_more, drop-drop, length-drop, length-take-le, take-append-drop}
use Rattle.table.specs.declared.records.TaskRecord.{TaskRecord}
use Rattle.table.specs.declared.records.SectionRecord.{SectionRecord}
use Rattle.admission.specs.declared.path.Opened.{Opened}
use Rattle.admission.specs.Sound.{unwound, section_sound, opening, sections_sound, task_sound, tasks_sound, sound}
use Rattle.admission.proofs.Entered.{sound_parts}
use Rattle.admission.proofs.SoundFacts.{tasks_part}
use Rattle.admission.proofs.Runs.{sound_fits, sound_sections}

abbrev no_section : SectionRecord
no_section = record { task = 0; around = None; small = 0; capital = 0; length = 0; level = None }

-- the first of these numbers, if there is one
abbrev pub innermost_of : List ℕ → Option ℕ
innermost_of [] = None
innermost_of (x ∷ xs) = Some x

-- sections by number, innermost first: each is one of the table's and lies directly in the next, and the last is outermost
abbrev pub Inside : List SectionRecord → List ℕ → Type 0
Inside ss [] = Unit {0}
Inside ss (x ∷ xs) = (x < length ss) × ((get_or ss x no_section).around ≡ innermost_of xs) × Inside ss xs

-- the section x has at most so many sections around it
abbrev AtMost : List SectionRecord → ℕ → ℕ → Type 0
AtMost all x most = (xs : List ℕ) → Inside all (x ∷ xs) → length xs ≤ most

-- each open section has no more sections around it than are open beneath it
abbrev Deep : List SectionRecord → List Opened → Type 0
Deep all [] = Unit {0}
Deep all (o ∷ path) = AtMost all o.number (length path) × Deep all path

-- these are open around a section that lies directly in a, and no more sections are around it than these
record Placed (all : List SectionRecord) (a : Option ℕ) (inside : List Opened) : Type 0 where
  deep : Deep all inside
  around : (xs : List ℕ) → innermost_of xs ≡ a → Inside all xs → length xs ≤ length inside

abbrev PlacedIf : List SectionRecord → Option ℕ → Option (List Opened) → Type 0
PlacedIf all a None = Unit {0}
PlacedIf all a (Some inside) = Placed all a inside

around_none : (all : List SectionRecord) (xs : List ℕ) → innermost_of xs ≡ None → Inside all xs → length xs ≤ 0
around_none all [] e i = omega arith
around_none all (x ∷ xs) e i = let z : ◌≡◌ {A = ℕ} 0 1 = cc in omega arith

around_top :
    (all : List SectionRecord) (a : ℕ) (o : Opened) (path : List Opened) → AtMost all o.number (length path) → o.number ≡ a
    → (xs : List ℕ) → innermost_of xs ≡ Some a → Inside all xs → length xs ≤ length (o ∷ path)
around_top all a o path most is [] e i = let z : ◌≡◌ {A = ℕ} 0 1 = cc in omega arith
around_top all a o path most is (x ∷ xs) e i =
    let same : x ≡ o.number = cc in
    let fewer = most xs (subst (λ y. Inside all (y ∷ xs)) same i) in
    omega arith

placed_unwound : (all : List SectionRecord) (a : Option ℕ) (path : List Opened) → Deep all path → PlacedIf all a (unwound a path)
placed_unwound all None path deep = record { deep = tt; around = around_none all }
placed_unwound all (Some a) [] deep = tt
placed_unwound all (Some a) (o ∷ path) deep =
    cond_both (eqb o.number a) (Some (o ∷ path)) (unwound (Some a) path) (PlacedIf all (Some a))
    (λ e. record { deep = deep; around = around_top all a o path deep.0 (eqb-true _ _ e) }) (λ _. placed_unwound all (Some a) path deep.1)

-- a section of the table, and the sections after it
module _ (all : List SectionRecord) (n : ℕ) (s : SectionRecord) (ss : List SectionRecord) (at : drop n all ≡ s ∷ ss) where
  here_split : get_or all n no_section ∷ drop (n + 1) all ≡ s ∷ ss
  here_split = sym (drop_more all n no_section (omega (arith, ap length at, length-drop n all))) ∙ at

  here_is : get_or all n no_section ≡ s
  here_is = let split = here_split in cc

  here_after : drop (n + 1) all ≡ ss
  here_after = let split = here_split in cc

  here_most : (inside : List Opened) → Placed all s.around inside → AtMost all n (length inside)
  here_most inside placed xs i = placed.around xs (sym i.1 ∙ ap (λ r. r.around) here_is) i.2

-- so many sections from number n on have at most 7 around them
abbrev Low : List SectionRecord → ℕ → ℕ → Type 0
Low all n count = (x : ℕ) → n ≤ x → x < n + count → AtMost all x 7

low_none : (all : List SectionRecord) (n : ℕ) → Low all n 0
low_none all n x from to = absurd (omega arith)

low_one : (all : List SectionRecord) (n most : ℕ) → AtMost all n most → most < 8 → Low all n 1
low_one all n most here less x from to xs i =
    let same : x ≡ n = omega arith in
    let fewer = here xs (subst (λ y. Inside all (y ∷ xs)) same i) in
    omega arith

low_join : (all : List SectionRecord) (n a b c : ℕ) → a + b ≡ c → Low all n a → Low all (n + a) b → Low all n c
low_join all n a b c e first later x from to =
    elim (cases_lt x (n + a)) [ inl h ↦ first x from h | inr h ↦ later x h (omega arith) ]

-- one section of a task, and those after it
module _
    (all : List SectionRecord) (k cost n : ℕ) (s : SectionRecord) (ss after : List SectionRecord) (at : drop n all ≡ s ∷ (ss ++ after))
    (rest : (path : List Opened) → Deep all path → sections_sound k cost (n + 1) path ss ≡ true → Low all (n + 1) (length ss)) where
  low_more :
      (o : Option (List Opened)) → PlacedIf all s.around o
      → elim o [ None ↦ false | Some inside ↦ section_sound k cost inside s && sections_sound k cost (n + 1) (opening n inside s ∷ inside) ss ] ≡ true
      → Low all n (length (s ∷ ss))
  low_more None placed ok = absurd (false≢true ok)
  low_more (Some inside) placed ok =
      let parts = and_parts (section_sound k cost inside s) _ ok in
      let here = here_most all n s (ss ++ after) at inside placed in
      low_join all n 1 (length ss) (length (s ∷ ss)) (omega arith) (low_one all n (length inside) here (sound_parts k cost inside s parts.0).shallow)
      (rest (opening n inside s ∷ inside) (here, placed.deep) parts.1)

sections_low :
    (all : List SectionRecord) (k cost n : ℕ) (path : List Opened) (ss after : List SectionRecord) → drop n all ≡ ss ++ after → Deep all path
    → sections_sound k cost n path ss ≡ true → Low all n (length ss)
sections_low all k cost n path [] after at deep ok = low_none all n
sections_low all k cost n path (s ∷ ss) after at deep ok =
    low_more all k cost n s ss after at
    (λ next under good. sections_low all k cost (n + 1) next ss after (here_after all n s (ss ++ after) at) under good)
    (unwound s.around path) (placed_unwound all s.around path deep) ok

-- all tasks
tasks_low :
    (all : List SectionRecord) (k n : ℕ) (ts : List TaskRecord) (ss : List SectionRecord) → drop n all ≡ ss → tasks_sound k n ts ss ≡ true
    → Low all n (length ss)
tasks_low all k n [] [] at ok = low_none all n
tasks_low all k n [] (s ∷ ss) at ok = absurd (false≢true ok)
tasks_low all k n (t ∷ ts) ss at ok =
    let parts = and_parts (task_sound k n t ss) _ ok in
    let count = t.sections.count in
    let own = sections_low all k t.cost n [] (take count ss) (drop count ss) (at ∙ sym (take-append-drop count ss)) tt (sound_sections k n t ss parts.0) in
    let later = tasks_low all (k + 1) (n + count) ts (drop count ss) (sym (drop-drop count n all) ∙ ap (drop count) at) parts.1 in
    let fits = sound_fits k n t ss parts.0 in
    low_join all n count (length (drop count ss)) (length ss) (omega (arith, length-drop count ss)) (subst (Low all n) (length-take-le count ss fits) own) later

-- records that break no rule: at most 8 sections lie in one another
pub nesting_within : (ts : List TaskRecord) (ss : List SectionRecord) → sound ts ss ≡ true → (xs : List ℕ) → Inside ss xs → length xs ≤ 8
nesting_within ts ss ok [] i = omega arith
nesting_within ts ss ok (x ∷ xs) i =
    let fewer = tasks_low ss 0 0 ts ss refl (tasks_part ts ss ok) x (omega arith) (omega (arith, i.0)) xs i in
    omega arith
