-- How long the text of records is.
use Rattle.std.proofs.Common.{◌≡◌, ℕ, suc, ◌+◌, ◌*◌, ◌≤◌, cond, eqb, ltb, List, [], ◌∷◌, length, arith}
use Rattle.std.proofs.lemmas.Bool.{cond_both}
use Rattle.table.specs.declared.records.TaskRecord.{TaskRecord}
use Rattle.table.specs.declared.records.SectionRecord.{SectionRecord}
use Rattle.table.specs.Grammar.{Letter, Byte, Numeral, Sections, none, section, numeral, sections_text, render}
use Rattle.table.specs.Breach.{width, count}
use Rattle.table.proofs.Parsed.{length-bytes}
use Rattle.table.proofs.Spotted.{length-sections, inside_is, after_is, end_is}
use Rattle.admission.proofs.Digits.{numeral_of, numeral_short}
use Rattle.admission.proofs.Spelling.{spell_short}
use Rattle.admission.proofs.Itemed.{letters_for}
use Rattle.admission.proofs.Forest.{Node, nodes, forest}
use Rattle.admission.proofs.Rendering.{line_for}

-- at most 63 bytes for each section
abbrev Slim : Sections → Type 0
Slim f = length (sections_text f []) ≤ 63 * count f

width_is : (n : Numeral) → width n ≡ suc (length n.more)
width_is n = omega (arith, length-bytes n.more [])

slim_section : (n : Numeral) (ls : List (Byte Letter)) (f g : Sections) → length n.more ≤ 6 → length ls ≤ 26 → Slim f → Slim g → Slim (section n ls f g)
slim_section n ls f g short few in_f in_g = omega (arith, end_is 0 n ls f g, after_is 0 n ls f, inside_is 0 n ls, width_is n)

slim_forest : (xs : List Node) (e : ℕ) → Slim (forest xs e)
slim_forest [] e = omega arith
slim_forest (x ∷ xs) e =
    let n = numeral_of x.own.length in
    let ls = letters_for x.own in
    cond_both (eqb e x.depth) (section n ls (forest xs (suc e)) (forest xs e)) (cond (ltb e x.depth) (forest xs e) none) Slim
    (λ _. slim_section n ls (forest xs (suc e)) (forest xs e) (numeral_short x.own.length) (spell_short x.own.small x.own.capital 0 26) (slim_forest xs (suc e)) (slim_forest xs e))
    (λ _. cond_both (ltb e x.depth) (forest xs e) none Slim (λ _. slim_forest xs e) (λ _. omega arith))

-- a number before a text
numeral_long : (v : ℕ) (t : List ℕ) → length (numeral (numeral_of v) t) ≤ 7 + length t
numeral_long v t = omega (arith, length-bytes (numeral_of v).more t, numeral_short v)

pub line_long : (n : ℕ) (t : TaskRecord) (own : List SectionRecord) → length (render (line_for n t own)) ≤ 33 + 63 * count (line_for n t own).sections
line_long n t own =
    let f = forest (nodes n [] own) 0 in
    let end = sections_text f (10 ∷ []) in
    let third = numeral (numeral_of t.cost) end in
    let second = numeral (numeral_of t.period) (32 ∷ 67 ∷ 61 ∷ third) in
    omega (
      arith,
      slim_forest (nodes n [] own) 0,
      length-sections f (10 ∷ []),
      numeral_long t.cost end,
      numeral_long t.period (32 ∷ 67 ∷ 61 ∷ third),
      numeral_long t.deadline (32 ∷ 84 ∷ 61 ∷ second),
    )
