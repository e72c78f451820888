-- The head of a written line, found in its text.
use Rattle.std.proofs.Common.{◌≡◌, ℕ, suc, ◌+◌, ◌*◌, Bool, true, false, eqb, ◌⊎◌, List, [], ◌∷◌, length, drop, Some, None, Option, sym, refl, ap, ◌∙◌, inl, inr, ⊎_elim, one-add, arith}
use Rattle.std.proofs.lemmas.List.{drop-drop}
use Rattle.std.proofs.lemmas.Bool.{cond-true, cond-false, cases_Bool, and_parts, ltb-true, leb-true}
use Rattle.std.proofs.lemmas.Bool.Decides.{nat_tests}
use Rattle.table.specs.declared.line.Numeral.{Numeral as Read}
use Rattle.table.specs.Limits.{largest}
use Rattle.table.specs.Byte.{is_digit}
use Rattle.table.specs.Number.{digit_run, allowed, value_of, numeral_at, behind, ticks_of}
use Rattle.table.specs.Head.{name_length, deadline_at, period_at, cost_at, body_at, head_of}
use Rattle.table.specs.Grammar.{Digit, Small, Letter, Byte, Numeral, Sections, none, section, Line, bytes, numeral, letters, sections_text, render}
use Rattle.table.specs.Breach.{width, value, Fair, deadline_place, period_place, cost_place, sections_place}

-- the length of what is written, part by part
pub length-bytes : {K : ℕ → Type 0} (bs : List (Byte K)) (t : List ℕ) → length (bytes bs t) ≡ length bs + length t
length-bytes [] t = omega arith
length-bytes (b ∷ bs) t = omega (arith, length-bytes bs t)

pub length-letters : (ls : List (Byte Letter)) (t : List ℕ) → length (letters ls t) ≡ 2 * length ls + length t
length-letters [] t = omega arith
length-letters (l ∷ ls) t = omega (arith, length-letters ls t)

pub drop-bytes : {K : ℕ → Type 0} (bs : List (Byte K)) (k : ℕ) (t : List ℕ) → drop (length bs + k) (bytes bs t) ≡ drop k t
drop-bytes [] k t = ap (λ x. drop x t) (let e : 0 + k ≡ k = omega arith in e)
drop-bytes (b ∷ bs) k t = ap (λ x. drop x (b.byte ∷ bytes bs t)) (let e : suc (length bs) + k ≡ suc (length bs + k) = omega arith in e) ∙ drop-bytes bs k t

drop-numeral : (n : Numeral) (k : ℕ) (t : List ℕ) → drop (width n + k) (numeral n t) ≡ drop k t
drop-numeral n k t =
    let ds = n.first ∷ n.more in
    ap (λ x. drop (x + k) (numeral n t)) (let e : width n ≡ length ds = omega (arith, length-bytes ds []) in e) ∙ drop-bytes ds k t

-- the digits that a written number begins with
pub run_bytes : (ds : List (Byte Digit)) (b : ℕ) (t : List ℕ) → is_digit b ≡ false → digit_run (bytes ds (b ∷ t)) ≡ bytes ds []
run_bytes [] b t h = cond-false (is_digit b) _ _ h
run_bytes (d ∷ ds) b t h =
    cond-true (is_digit d.byte) _ _ (let is : Digit d.byte = d.is in grind (arith, nat_tests)) ∙ ap (λ x. d.byte ∷ x) (run_bytes ds b t h)

pub run_numeral : (n : Numeral) (b : ℕ) (t : List ℕ) → is_digit b ≡ false → digit_run (numeral n (b ∷ t)) ≡ numeral n []
run_numeral n b t h = run_bytes (n.first ∷ n.more) b t h

-- behind C comes a section or the line's end
run_cost : (n : Numeral) (f : Sections) → digit_run (numeral n (sections_text f (10 ∷ []))) ≡ numeral n []
run_cost n none = run_numeral n 10 [] refl
run_cost n (section m ls f g) = run_numeral n 32 _ refl

-- a number as the code reads it
abbrev pub read : ℕ → Numeral → Read
read p n = record { place = p; value = value_of (numeral n []) }

fair_allowed : (n : Numeral) → Fair n → allowed (numeral n []) ≡ true
fair_allowed n (lead, high) = let is : Digit n.first.byte = n.first.is in grind (arith, nat_tests)

allowed_fair : (n : Numeral) → allowed (numeral n []) ≡ true → Fair n
allowed_fair n e =
    let p = and_parts _ _ e in
    let low = ltb-true 48 n.first.byte p.0 in
    (λ z. omega arith, leb-true (value n) largest p.1)

pub cases_fair : (n : Numeral) → (Fair n × (value_of (numeral n []) ≡ Some (value n))) ⊎ ((Fair n → ⊥) × (value_of (numeral n []) ≡ None))
cases_fair n =
    ⊎_elim (λ e. inl (allowed_fair n e, cond-true (allowed (numeral n [])) _ _ e))
    (λ e. inr (λ f. no_both (allowed (numeral n [])) e (fair_allowed n f), cond-false (allowed (numeral n [])) _ _ e)) (cases_Bool (allowed (numeral n [])))
  where
    no_both : (b : Bool) → b ≡ false → b ≡ true → ⊥
    no_both b e f = let z : ◌≡◌ {A = Bool} true false = sym f ∙ e in let k : ◌≡◌ {A = ℕ} 0 1 = cc in omega arith

pub fair_ticks : (p : ℕ) (n : Numeral) → Fair n → ticks_of (read p n) ≡ value n
fair_ticks p n h = ⊎_elim (λ k. ap (λ (v : Option ℕ). ticks_of (record { place = p; value = v })) k.1) (λ k. absurd (k.0 h)) (cases_fair n)

name_is : (ls : List (Byte Small)) (t : List ℕ) → name_length (bytes ls (58 ∷ t)) ≡ length ls
name_is [] t = refl
name_is (l ∷ ls) t =
    cond-false (eqb l.byte 58) _ _ (let is : Small l.byte = l.is in grind (arith, nat_tests)) ∙ ap (λ k. 1 + k) (name_is ls t) ∙ one-add (length ls)

numeral_at_lem : (p q : ℕ) (line : List ℕ) (n : Numeral) → p ≡ q → digit_run (drop q line) ≡ numeral n [] → numeral_at p line ≡ read q n
numeral_at_lem p q line n e r = ap (λ x. numeral_at x line) e ∙ ap (λ ds. record { place = q; value = value_of ds }) r

behind_is : (p q : ℕ) (line : List ℕ) (n : Numeral) → p ≡ q → digit_run (drop q line) ≡ numeral n [] → behind p line ≡ q + width n
behind_is p q line n e r = ap (λ x. behind x line) e ∙ ap (λ ds. q + length ds) r

-- what stands behind a number and three bytes
next_number : (p : ℕ) (line : List ℕ) (n : Numeral) (a b c : ℕ) (t : List ℕ) → drop p line ≡ numeral n (a ∷ b ∷ c ∷ t) → drop (p + width n + 3) line ≡ t
next_number p line n a b c t e =
    ap (λ k. drop k line) (let s : p + width n + 3 ≡ p + (width n + 3) = omega arith in s) ∙ sym (drop-drop (width n + 3) p line)
    ∙ ap (drop (width n + 3)) e ∙ drop-numeral n 3 (a ∷ b ∷ c ∷ t)

module _ (l : Line) where
  pub name_length_lem : name_length (render l) ≡ length l.name
  name_length_lem = name_is l.name _

  at_deadline : drop (deadline_place l) (render l) ≡ numeral l.deadline (32 ∷ 84 ∷ 61 ∷ numeral l.period (32 ∷ 67 ∷ 61 ∷ numeral l.cost (sections_text l.sections (10 ∷ []))))
  at_deadline = drop-bytes l.name 4 _

  at_period : drop (period_place l) (render l) ≡ numeral l.period (32 ∷ 67 ∷ 61 ∷ numeral l.cost (sections_text l.sections (10 ∷ [])))
  at_period = next_number (deadline_place l) (render l) l.deadline 32 84 61 _ at_deadline

  at_cost : drop (cost_place l) (render l) ≡ numeral l.cost (sections_text l.sections (10 ∷ []))
  at_cost = next_number (period_place l) (render l) l.period 32 67 61 _ at_period

  pub at_sections : drop (sections_place l) (render l) ≡ sections_text l.sections (10 ∷ [])
  at_sections =
      sym (drop-drop (width l.cost) (cost_place l) (render l)) ∙ ap (drop (width l.cost)) at_cost
      ∙ ap (λ k. drop k (numeral l.cost (sections_text l.sections (10 ∷ [])))) (let s : width l.cost ≡ width l.cost + 0 = omega arith in s)
      ∙ drop-numeral l.cost 0 (sections_text l.sections (10 ∷ []))

  d_run : digit_run (drop (deadline_place l) (render l)) ≡ numeral l.deadline []
  d_run = ap digit_run at_deadline ∙ run_numeral l.deadline 32 _ refl

  t_run : digit_run (drop (period_place l) (render l)) ≡ numeral l.period []
  t_run = ap digit_run at_period ∙ run_numeral l.period 32 _ refl

  c_run : digit_run (drop (cost_place l) (render l)) ≡ numeral l.cost []
  c_run = ap digit_run at_cost ∙ run_cost l.cost l.sections

  d_at : deadline_at (render l) ≡ deadline_place l
  d_at = ap (λ k. k + 4) name_length_lem

  t_at : period_at (render l) ≡ period_place l
  t_at = ap (λ k. k + 3) (behind_is (deadline_at (render l)) (deadline_place l) (render l) l.deadline d_at d_run)

  c_at : cost_at (render l) ≡ cost_place l
  c_at = ap (λ k. k + 3) (behind_is (period_at (render l)) (period_place l) (render l) l.period t_at t_run)

  pub body_at_lem : body_at (render l) ≡ sections_place l
  body_at_lem = behind_is (cost_at (render l)) (cost_place l) (render l) l.cost c_at c_run

  pub head_deadline : (head_of (render l)).deadline ≡ read (deadline_place l) l.deadline
  head_deadline = numeral_at_lem (deadline_at (render l)) (deadline_place l) (render l) l.deadline d_at d_run

  pub head_period : (head_of (render l)).period ≡ read (period_place l) l.period
  head_period = numeral_at_lem (period_at (render l)) (period_place l) (render l) l.period t_at t_run

  pub head_cost : (head_of (render l)).cost ≡ read (cost_place l) l.cost
  head_cost = numeral_at_lem (cost_at (render l)) (cost_place l) (render l) l.cost c_at c_run
