-- The worked examples from text to verdict: each is computed. The walk over the instants has fuel for a million of them, so it is not
-- computed as it stands: it is taken over the instants at which it does not stop, which a small test tells, to the one at which it does.
use Rattle.std.proofs.Common.{◌≡◌, ℕ, zero, suc, ◌+◌, Bool, true, false, not, ◌&&◌, List, Ok, Err, Result, refl, ap, ◌∙◌, arith, ◌==◌, nat_lt}
use Rattle.std.proofs.lemmas.Bool.{cond-true, and_parts}
use Rattle.table.specs.declared.records.TaskRecord.{TaskRecord}
use Rattle.table.specs.declared.records.SectionRecord.{SectionRecord}
use Rattle.table.specs.Judged.{judged as read}
use Rattle.table.specs.Level.{letter_levels}
use Rattle.table.specs.Record.{text_tasks, text_sections}
use Rattle.admission.specs.declared.refusal.Refusal.{Refusal}
use Rattle.admission.specs.declared.refusal.Refusal.TheVariants.{Records, Demand}
use Rattle.admission.specs.Sound.{sound}
use Rattle.admission.specs.Demand.{workload}
use Rattle.admission.specs.Verdict.{judged, judged_from, asked, horizon}
use Rattle.machine.specs.Worked.{Verdicts, flash, flash20, flash21, plain4, plain5, whole, twice, pair}

-- n more than a number, from without and from within
abbrev above : ℕ → ℕ → ℕ
above zero left = left
above (suc n) left = suc (above n left)

abbrev onward : ℕ → ℕ → ℕ
onward zero t = t
onward (suc n) t = onward n (t + 1)

module _ (tasks : List TaskRecord) (sections : List SectionRecord) where
  -- the walk does not stop at this instant, nor at so many from one on
  abbrev passes : ℕ → Bool
  passes t = not (nat_lt t (asked tasks sections t)) && not (workload tasks t == t)

  abbrev quiet : ℕ → ℕ → Bool
  quiet zero t = true
  quiet (suc n) t = passes t && quiet n (t + 1)

  one : (left t : ℕ) → passes t ≡ true → judged_from tasks sections (suc left) t ≡ judged_from tasks sections left (t + 1)
  one left t e = grind arith

  many : (n left t : ℕ) → quiet n t ≡ true → judged_from tasks sections (above n left) t ≡ judged_from tasks sections left (onward n t)
  many zero left t e = refl
  many (suc n) left t e =
      let p = and_parts (passes t) (quiet n (t + 1)) e in
      one (above n left) t p.0 ∙ many n left (t + 1) p.1

  -- the walk, to where it stops
  stops_at : (n left t : ℕ) (r : Result ℕ Refusal) → horizon ≡ above n (suc left) → onward n 1 ≡ t → sound tasks sections ≡ true → quiet n 1 ≡ true
      → judged_from tasks sections (suc left) t ≡ r → judged tasks sections ≡ r
  unfolding judged
  stops_at n left t r e at is q last =
      cond-true (sound tasks sections) (judged_from tasks sections horizon 1) (Err Records) is
      ∙ ap (λ m. judged_from tasks sections m 1) e ∙ many n (suc left) 1 q ∙ ap (judged_from tasks sections (suc left)) at ∙ last

  idle_at : (n left t : ℕ) → horizon ≡ above n (suc left) → onward n 1 ≡ t → sound tasks sections ≡ true → quiet n 1 ≡ true → nat_lt t (asked tasks sections t) ≡ false → (workload tasks t == t) ≡ true → judged tasks sections ≡ Ok t
  idle_at n left t e at is q fits idle = stops_at n left t (Ok t) e at is q (grind arith)

  over_at : (n left t all : ℕ) → horizon ≡ above n (suc left) → onward n 1 ≡ t → sound tasks sections ≡ true → quiet n 1 ≡ true → nat_lt t (asked tasks sections t) ≡ true → asked tasks sections t ≡ all → judged tasks sections ≡ Err (Demand t all)
  over_at n left t all e at is q more so = stops_at n left t (Err (Demand t all)) e at is q (grind arith)

pub verdicts : Verdicts
unfolding read letter_levels sound
verdicts = record {
  flash_reads = refl;
  flash_levels = refl;
  flash_idle = idle_at (text_tasks flash) (text_sections flash) 79 1048496 80 refl refl refl refl refl refl;
  flash20_reads = refl;
  flash20_idle = idle_at (text_tasks flash20) (text_sections flash20) 79 1048496 80 refl refl refl refl refl refl;
  flash21_reads = refl;
  flash21_over = over_at (text_tasks flash21) (text_sections flash21) 59 1048516 60 61 refl refl refl refl refl refl;
  plain4_reads = refl;
  plain4_idle = idle_at (text_tasks plain4) (text_sections plain4) 13 1048562 14 refl refl refl refl refl refl;
  plain5_reads = refl;
  plain5_over = over_at (text_tasks plain5) (text_sections plain5) 8 1048567 9 10 refl refl refl refl refl refl;
  whole_reads = refl;
  whole_idle = idle_at (text_tasks whole) (text_sections whole) 0 1048575 1 refl refl refl refl refl refl;
  twice_reads = refl;
  twice_over = over_at (text_tasks twice) (text_sections twice) 0 1048575 1 2 refl refl refl refl refl refl;
  upside_refused = refl;
  pair_reads = refl;
  pair_idle = idle_at (text_tasks pair) (text_sections pair) 9 1048566 10 refl refl refl refl refl refl;
}
