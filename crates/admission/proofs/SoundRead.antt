-- Records that break no rule are read from the text that is written from them.
use Rattle.std.proofs.Common.{◌≡◌, ℕ, zero, suc, ◌≤◌, true, cond, List, [], ◌∷◌, map, length, None, Ok, sym, refl, ap, ◌∙◌}
use Rattle.std.specs.List.{range_with_len}
use Rattle.std.proofs.lemmas.Bool.{and_parts}
use Rattle.table.specs.declared.records.TaskRecord.{TaskRecord}
use Rattle.table.specs.declared.records.SectionRecord.{SectionRecord}
use Rattle.table.specs.Level.{names, deadline_of, lesser, letter_level, letter_levels, least_level}
use Rattle.table.specs.Judged.{judged}
use Rattle.table.specs.Record.{leveled, text_tasks, bare_sections, text_sections}
use Rattle.admission.specs.Sound.{level_sound, levels_sound, tasks_sound, sound}
use Rattle.admission.specs.Facts.{Judgeable}
use Rattle.admission.specs.Origin.{nameless, Alike, counted}
use Rattle.admission.proofs.SoundFacts.{judgeable_if_sound, few_sections, tasks_part, levels_part, same_level_lem}
use Rattle.admission.proofs.Itemed.{strip}
use Rattle.admission.proofs.ReadSound.{letters_same, least_same}
use Rattle.admission.proofs.Texts.{text_for, text_judged, text_tasks_lem, text_sections_lem}

-- levels do not depend on names
deadline_same : (ts : List TaskRecord) (i : ℕ) → deadline_of (map nameless ts) i ≡ deadline_of ts i
deadline_same [] i = refl
deadline_same (t ∷ ts) zero = refl
deadline_same (t ∷ ts) (suc i) = deadline_same ts i

module _ (ts us : List TaskRecord) (alike : Alike ts us) where
  deadlines_alike : (i : ℕ) → deadline_of ts i ≡ deadline_of us i
  deadlines_alike i = sym (deadline_same ts i) ∙ ap (λ l. deadline_of l i) alike ∙ deadline_same us i

  letter_alike : (ss : List SectionRecord) (r : ℕ) → letter_level ts ss r ≡ letter_level us ss r
  letter_alike [] r = refl
  letter_alike (s ∷ ss) r =
      ap (λ x. lesser (cond (names s r) x None) (letter_level ts ss r)) (deadlines_alike s.task)
      ∙ ap (lesser (cond (names s r) (deadline_of us s.task) None)) (letter_alike ss r)

  letters_alike : (ss : List SectionRecord) → letter_levels ts ss ≡ letter_levels us ss
  unfolding letter_levels
  letters_alike ss = ap (λ f. map f (range_with_len 0 26)) (λ i r. letter_alike ss r i)

-- sections get their levels back
levels_back : (ts : List TaskRecord) (all ss : List SectionRecord) → levels_sound ts all ss ≡ true → map (leveled (letter_levels ts all)) (map strip ss) ≡ ss
levels_back ts all [] ok = refl
levels_back ts all (s ∷ ss) ok =
    let levels = letter_levels ts all in
    let parts = and_parts (level_sound ts all s) _ ok in
    let level : least_level levels 0 (strip s) ≡ s.level = least_same levels [] 0 s ∙ sym (same_level_lem s.level (least_level levels 0 s) parts.0) in
    ap (λ x. record s { level = x } ∷ map (leveled levels) (map strip ss)) level ∙ ap (λ x. s ∷ x) (levels_back ts all ss parts.1)

-- the parts of the check
module _ (ts : List TaskRecord) (ss : List SectionRecord) (ok : sound ts ss ≡ true) where
  short : length ss ≤ 64
  short = few_sections ts ss ok

  rules : tasks_sound 0 0 ts ss ≡ true
  rules = tasks_part ts ss ok

  known : Judgeable ts ss
  known = judgeable_if_sound ts ss ok

  abbrev text : List ℕ
  text = text_for ts ss

  text_is_read : judged text (length ts) (length ss) ≡ Ok (counted ts ss)
  text_is_read = text_judged ts ss known.any known.few short known.timed rules

  alike : Alike ts (text_tasks text)
  alike = sym (text_tasks_lem ts ss known.any known.few short known.timed rules)

  bare : bare_sections text ≡ map strip ss
  bare = text_sections_lem ts ss known.any known.few short known.timed rules

  levels_same : letter_levels (text_tasks text) (bare_sections text) ≡ letter_levels ts ss
  levels_same = ap (letter_levels (text_tasks text)) bare ∙ letters_same (text_tasks text) [] ss ∙ sym (letters_alike ts (text_tasks text) alike ss)

  same_sections : text_sections text ≡ ss
  same_sections =
      ap (λ l. map (leveled l) (bare_sections text)) levels_same ∙ ap (map (leveled (letter_levels ts ss))) bare ∙ levels_back ts ss ss (levels_part ts ss ok)

pub sound_read :
    (ts : List TaskRecord) (ss : List SectionRecord) → sound ts ss ≡ true
    → (text : List ℕ) × (judged text (length ts) (length ss) ≡ Ok (counted ts ss)) × Alike ts (text_tasks text) × (text_sections text ≡ ss)
sound_read ts ss ok = (text_for ts ss, text_is_read ts ss ok, alike ts ss ok, same_sections ts ss ok)
