-- A text, line by line.
use Rattle.std.proofs.Common.{◌≡◌, ℕ, zero, suc, ◌+◌, ◌<◌, ◌≤◌, min, Bool, eqb, List, [], ◌∷◌, ◌++◌, length, get_or, take, drop, Some, None, Option, MatchOption, Bor, sym, refl, ap, ◌∙◌, subst, ⊎_elim, one-add, zero-add, arith}
use Rattle.std.specs.Fn.{Mut, CalledAt, ComputesKey}
use Rattle.std.specs.List.{IsFirstMatchOrLen, enumerate_from}
use Rattle.std.specs.Slice.Iter.{split_inclusive_rest, split_inclusive_callee}
use Rattle.std.specs.declared.slice.SplitInclusive.{SplitInclusive}
use Rattle.std.proofs.lemmas.Bool.{cond-true, cond-false, cond_both, cases_Bool}
use Rattle.std.proofs.lemmas.List.{take_at, drop_at, drop_more, drop_all, nil_from_length}
use Rattle.std.proofs.lemmas.List.FromFn.{get_or-enumerate_from, length-enumerate_from}
use Rattle.std.proofs.lemmas.Fn.{always_returns_same}
use Rattle.std.specs.Iterator.{Yields}
use Rattle.std.specs.Iterator.Adapters.{enumerate_source, enumerate_count, enumerate_steps}
use Rattle.std.specs.declared.iter.Enumerate.{Enumerate}
use Rattle.std.proofs.lemmas.Iterator.{YieldsList}
use Rattle.std.proofs.lemmas.Iterator.Consumers.{YieldsList-at, YieldsList-from_enumerate, YieldsList-turn, YieldsList-end}
use Rattle.std.proofs.lemmas.Iterator.Splits.{YieldsList-from_shown_while}
use Rattle.table.specs.Lines.{start_line, lines_of, line_length}

-- the first line and the others, where the byte before them begins the first
first_line : (b : ℕ) (t : List ℕ) → start_line b (lines_of t) ≡ (b ∷ take (line_length t) t) ∷ lines_of (drop (line_length t) t) → lines_of (b ∷ t) ≡ take (line_length (b ∷ t)) (b ∷ t) ∷ lines_of (drop (line_length (b ∷ t)) (b ∷ t))
first_line b t longer =
    ⊎_elim
    (λ e. cond-true (eqb b 10) _ _ e ∙ sym (ap (λ n. take n (b ∷ t) ∷ lines_of (drop n (b ∷ t))) (cond-true (eqb b 10) 1 (1 + line_length t) e)))
    (λ e. cond-false (eqb b 10) _ _ e ∙ longer
    ∙ sym (ap (λ n. take n (b ∷ t) ∷ lines_of (drop n (b ∷ t))) (cond-false (eqb b 10) 1 (1 + line_length t) e ∙ one-add (line_length t))))
    (cases_Bool (eqb b 10))

pub at_front : (t : List ℕ) → 0 < length t → lines_of t ≡ take (line_length t) t ∷ lines_of (drop (line_length t) t)
at_front [] h = absurd (omega arith)
at_front (b ∷ []) h = first_line b [] refl
at_front (b ∷ (x ∷ t)) h = first_line b (x ∷ t) (ap (start_line b) (at_front (x ∷ t) (omega arith)))

-- the first line ends behind its byte 10, or with the text
cut_at : (xs : List ℕ) (i : ℕ) → IsFirstMatchOrLen (λ b. eqb b 10) xs i → line_length xs ≡ min (i + 1) (length xs)
cut_at [] i h = omega arith
cut_at (b ∷ t) zero h = cond-true (eqb b 10) 1 (1 + line_length t) (h.1 (omega arith) 0) ∙ omega arith
cut_at (b ∷ t) (suc i) h =
    cond-false (eqb b 10) 1 (1 + line_length t) (h.0 0 0 (omega arith) (omega arith))
    ∙ omega (arith, cut_at t i ((λ k d l m. h.0 (suc k) d (omega arith) (omega arith)), λ l d. h.1 (omega arith) d))

lines_cut : (xs x rest : List ℕ) (i : ℕ) → xs ≡ x ++ rest → length x ≡ min (i + 1) (length xs) → IsFirstMatchOrLen (λ b. eqb b 10) xs i → 0 < length xs → lines_of xs ≡ x ∷ lines_of rest
lines_cut xs x rest i e long h some =
    let n : line_length xs ≡ length x = cut_at xs i h ∙ sym long in
    at_front xs some ∙ ap (λ k. take k xs ∷ lines_of (drop k xs)) n ∙ ap (λ l. take (length x) l ∷ lines_of (drop (length x) l)) e
    ∙ ap (λ l. l ∷ lines_of (drop (length x) (x ++ rest))) (take_at x rest (length x) refl) ∙ ap (λ l. x ∷ lines_of l) (drop_at x rest (length x) refl)

module _ {F : Type 0} (g : Mut F (Bor ℕ × Unit {0}) Bool) where
  abbrev pub cuts : SplitInclusive ℕ F → Option (Bor (List ℕ)) → SplitInclusive ℕ F → Type 0
  cuts s r t =
      MatchOption r ((length (split_inclusive_rest s) ≡ 0) × (t ≡ s))
      (λ x. (split_inclusive_rest s ≡ x.now ++ split_inclusive_rest t) × ((i : ℕ) × (length x.now ≡ min (i + 1) (length (split_inclusive_rest s))) × ((p : ℕ → Bool) → ComputesKey g p (split_inclusive_callee s) → ComputesKey g p (split_inclusive_callee t) × IsFirstMatchOrLen p (split_inclusive_rest s) i)) × (0 < length (split_inclusive_rest s)))

  -- a text that is cut behind each byte 10
  pub gives_lines : {s : SplitInclusive ℕ F} {f : F} (xs : List ℕ) → split_inclusive_rest s ≡ xs → split_inclusive_callee s ≡ f → ((x : ℕ) (b : Bool) (q : F) → CalledAt g f x b q → (q ≡ f) × (b ≡ eqb x 10)) → YieldsList cuts (λ x. x.now) s (lines_of xs)
  gives_lines {s} {f} xs rest closure tests =
      subst (λ l. YieldsList cuts (λ x. x.now) s (lines_of l)) rest
      (YieldsList-from_shown_while cuts (λ x. x.now) (λ t. lines_of (split_inclusive_rest t)) (λ t. ComputesKey g (λ b. eqb b 10) (split_inclusive_callee t))
      (λ t u h k. ap (λ l. length (lines_of l)) (nil_from_length (split_inclusive_rest t) k.0))
      (λ t x u h k. let m = k.1.2 (λ b. eqb b 10) h in (m.0, lines_cut (split_inclusive_rest t) x.now (split_inclusive_rest u) k.1.0 k.0 k.1.1 m.1 k.2))
      s (subst (ComputesKey g (λ b. eqb b 10)) (sym closure) (always_returns_same g (λ a r. r ≡ eqb a.0.now 10) f (λ a r q k. let m = tests a.0.now r q (record { shown = a.0; shows = refl; called = k }) in (m.1, m.0)))))

-- the lines are as long as the text
abbrev pub total : List (List ℕ) → ℕ
total [] = 0
total (l ∷ ls) = length l + total ls

start_long : (b : ℕ) (ls : List (List ℕ)) → total (start_line b ls) ≡ 1 + total ls
start_long b [] = refl
start_long b (l ∷ ls) = omega arith

pub lines_long : (t : List ℕ) → total (lines_of t) ≡ length t
lines_long [] = refl
lines_long (b ∷ t) = cond_both (eqb b 10) _ _ (λ ls. total ls ≡ suc (length t)) (λ _. omega (arith, lines_long t)) (λ _. omega (arith, start_long b (lines_of t), lines_long t))

total_drop : (n : ℕ) (ls : List (List ℕ)) → total (drop n ls) ≤ total ls
total_drop zero ls = omega arith
total_drop (suc n) [] = omega arith
total_drop (suc n) (l ∷ ls) = omega (arith, total_drop n ls)

start_few : (b : ℕ) (ls : List (List ℕ)) → length (start_line b ls) ≤ 1 + length ls
start_few b [] = omega arith
start_few b (l ∷ ls) = omega arith

lines_few : (t : List ℕ) → length (lines_of t) ≤ length t
lines_few [] = omega arith
lines_few (b ∷ t) = cond_both (eqb b 10) _ _ (λ ls. length ls ≤ suc (length t)) (λ _. omega (arith, lines_few t)) (λ _. omega (arith, start_few b (lines_of t), lines_few t))

-- the line with the number n, from 0
pub record Turn (text : List ℕ) (n : ℕ) (line : List ℕ) : Type 0 where
  pub more : drop n (lines_of text) ≡ line ∷ drop (n + 1) (lines_of text)
  pub within : n < length text
  pub short : length line ≤ length text

turn_is : (text : List ℕ) (n : ℕ) (line : List ℕ) → n < length (lines_of text) → line ≡ get_or (lines_of text) n line → Turn text n line
turn_is text n line within is =
    let more = drop_more (lines_of text) n line within ∙ ap (λ l. l ∷ drop (n + 1) (lines_of text)) (sym is) in
    record {
      more = more;
      within = omega (arith, lines_few text);
      short = omega (arith, lines_long text, total_drop n (lines_of text), ap total more);
    }

-- a `for` over the lines of a text, which has yielded xs: the next line, and the end
module _ {F : Type 0} {g : Mut F (Bor ℕ × Unit {0}) Bool} {f : F} {text : List ℕ} (s' s t : SplitInclusive ℕ F) (xs : List (Bor (List ℕ))) (y : Yields (cuts g) s xs t) (is_s : s ≡ s') (rest : split_inclusive_rest s' ≡ text) (closure : split_inclusive_callee s' ≡ f) (tests : (x : ℕ) (b : Bool) (q : F) → CalledAt g f x b q → (q ≡ f) × (b ≡ eqb x 10)) (r : Option (Bor (List ℕ))) (u : SplitInclusive ℕ F) where
  pub line_turn : (x : Bor (List ℕ)) → r ≡ Some x → cuts g t r u → Turn text (length xs) x.now
  line_turn x is p =
      let turn = YieldsList-turn (YieldsList-at is_s (gives_lines g text rest closure tests)) xs t y r u x is p in
      turn_is text (length xs) x.now turn.0 turn.1

  pub line_end : r ≡ None → cuts g t r u → drop (length xs) (lines_of text) ≡ []
  line_end is p =
      let all = YieldsList-end (YieldsList-at is_s (gives_lines g text rest closure tests)) xs t y r u is p in
      drop_all (length xs) (lines_of text) (omega (arith, all.1))

-- the same, where the lines are numbered
module _ {F : Type 0} {g : Mut F (Bor ℕ × Unit {0}) Bool} {f : F} {text : List ℕ} (cut : SplitInclusive ℕ F) (s' s t : Enumerate (SplitInclusive ℕ F)) (xs : List (ℕ × Bor (List ℕ))) (y : Yields (enumerate_steps (cuts g)) s xs t) (is_s : s ≡ s') (source : enumerate_source s' ≡ cut) (first : enumerate_count s' ≡ 0) (rest : split_inclusive_rest cut ≡ text) (closure : split_inclusive_callee cut ≡ f) (tests : (x : ℕ) (b : Bool) (q : F) → CalledAt g f x b q → (q ≡ f) × (b ≡ eqb x 10)) (r : Option (ℕ × Bor (List ℕ))) (u : Enumerate (SplitInclusive ℕ F)) where
  numbered : YieldsList {B = ℕ × List ℕ} (enumerate_steps (cuts g)) (λ p. (p.0, p.1.now)) s (enumerate_from 0 (lines_of text))
  numbered = YieldsList-at is_s (YieldsList-from_enumerate (YieldsList-at source (gives_lines g text rest closure tests)) first)

  pub numbered_turn : (p : ℕ × Bor (List ℕ)) → r ≡ Some p → enumerate_steps (cuts g) t r u → (p.0 ≡ length xs) × Turn text (length xs) p.1.now
  numbered_turn p is step =
      let turn = YieldsList-turn numbered xs t y r u p is step in
      let within : length xs < length (lines_of text) = omega (arith, turn.0, length-enumerate_from 0 (lines_of text)) in
      let same = turn.1 ∙ get_or-enumerate_from 0 (lines_of text) (length xs) (p.0, p.1.now) within in
      (ap (λ (q : ℕ × List ℕ). q.0) same ∙ zero-add (length xs), turn_is text (length xs) p.1.now within (ap (λ (q : ℕ × List ℕ). q.1) same))

  pub numbered_end : r ≡ None → enumerate_steps (cuts g) t r u → drop (length xs) (lines_of text) ≡ []
  numbered_end is step =
      let all = YieldsList-end numbered xs t y r u is step in
      drop_all (length xs) (lines_of text) (omega (arith, all.1, length-enumerate_from 0 (lines_of text)))
