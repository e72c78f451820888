-- The next section of a task: it is opened, or it breaks a rule.
use Rattle.std.proofs.Common.{◌≡◌, ℕ, ◌+◌, ◌^◌, ◌<◌, ◌≤◌, Bool, true, false, cond, ◌&&◌, List, ◌∷◌, length, Some, None, Option, refl, arith}
use lib.Bits.{bit_or}
use Rattle.std.proofs.lemmas.Bool.Decides.{nat_tests}
use Rattle.table.specs.declared.records.SectionRecord.{SectionRecord}
use Rattle.admission.specs.declared.path.Opened.{Opened}
use Rattle.admission.specs.Sound.{unwound, longest, taken, section_sound, opening, sections_sound}
use Rattle.admission.specs.Stack.{entered}
use Rattle.admission.proofs.Apart.{Apart}

-- what a section that keeps the rules keeps
pub record SoundSection (k cost : ℕ) (path : List Opened) (s : SectionRecord) : Type 0 where
  pub owner : s.task ≡ k
  pub small : s.small < 2 ^ 26
  pub capital : s.capital < 2 ^ 26
  pub pair : Apart s.small s.capital
  pub free : Apart (bit_or s.small s.capital) (taken path)
  pub some : 1 ≤ s.length
  pub short : s.length ≤ longest cost path
  pub shallow : length path < 8

pub sound_parts : (k cost : ℕ) (path : List Opened) (s : SectionRecord) → section_sound k cost path s ≡ true → SoundSection k cost path s
sound_parts k cost path s ok = record {
  owner = grind (arith, nat_tests);
  small = grind (arith, nat_tests);
  capital = grind (arith, nat_tests);
  pair = grind (arith, nat_tests);
  free = grind (arith, nat_tests);
  some = grind (arith, nat_tests);
  short = grind (arith, nat_tests);
  shallow = grind (arith, nat_tests);
}

-- what is left open, if the next section stands inside something open
abbrev after : ℕ → ℕ → ℕ → SectionRecord → Option (List Opened) → Option (List Opened)
after k cost n s o = elim o [ None ↦ None | Some inside ↦ cond (section_sound k cost inside s) (Some (opening n inside s ∷ inside)) None ]

-- the sections that follow, where these are open, if the one before them broke no rule
abbrev pub goes : ℕ → ℕ → ℕ → List SectionRecord → Option (List Opened) → Bool
goes k cost n ss o = elim o [ None ↦ false | Some path ↦ sections_sound k cost n path ss ]

module _ (k cost n : ℕ) (s : SectionRecord) (ss : List SectionRecord) where
  goes_cond : (b : Bool) (path : List Opened) → (b && sections_sound k cost (n + 1) path ss) ≡ goes k cost (n + 1) ss (cond b (Some path) None)
  goes_cond true path = refl
  goes_cond false path = refl

  goes_after : (o : Option (List Opened)) → elim o [ None ↦ false | Some inside ↦ section_sound k cost inside s && sections_sound k cost (n + 1) (opening n inside s ∷ inside) ss ] ≡ goes k cost (n + 1) ss (after k cost n s o)
  goes_after None = refl
  goes_after (Some inside) = goes_cond (section_sound k cost inside s) (opening n inside s ∷ inside)

  pub sections_more : (path : List Opened) → sections_sound k cost n path (s ∷ ss) ≡ goes k cost (n + 1) ss (entered k cost n path s)
  sections_more path = goes_after (unwound s.around path)
