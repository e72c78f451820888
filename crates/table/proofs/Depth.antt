-- A step goes one deeper at most.
use Rattle.std.proofs.Common.{◌≡◌, ℕ, ◌+◌, ◌-◌, ◌<◌, ◌≤◌, Bool, cond, ◌&&◌, eqb, ltb, List, length, get_or, drop, Some, None, Option, sym, ap, ◌∙◌, subst, arith}
use Rattle.std.proofs.lemmas.Bool.{cond_both}
use Rattle.std.proofs.lemmas.List.{drop_more}
use Rattle.table.specs.declared.form.Field.{Field}
use Rattle.table.specs.declared.form.Field.TheVariants.{Deadline, Period, Cost}
use Rattle.table.specs.declared.form.State.{State}
use Rattle.table.specs.declared.form.State.TheVariants.{Name, Colon, Key, Equals, Start, Digits, Closed, Inner, Length, Body, Member}
use Rattle.table.specs.declared.form.Move.{Move}
use Rattle.table.specs.declared.form.Move.TheVariants.{Refuse, Finish, Go}
use Rattle.table.specs.Byte.{is_small, is_digit, is_letter}
use Rattle.table.specs.Form.{stepped, depth_of, broken_at, after_digits, key}

-- no deeper than n
abbrev pub Within : ℕ → Move → Type 0
Within n Refuse = Unit {0}
Within n Finish = Unit {0}
Within n (Go s) = depth_of s ≤ n

-- a test that goes on to s, or else to y
or_else : (n : ℕ) (c : Bool) (s : State) (y : Move) → depth_of s ≤ n → Within n y → Within n (cond c (Go s) y)
or_else n c s y p q = cond_both c (Go s) y (Within n) (λ _. p) (λ _. q)

ends : (n : ℕ) (c : Bool) → Within n (cond c Finish Refuse)
ends n c = cond_both c Finish Refuse (Within n) (λ _. tt) (λ _. tt)

after : (n : ℕ) (f : Field) (b : ℕ) → Within n (after_digits f b)
after n Deadline b = or_else n (eqb b 32) (Key Period) Refuse (omega arith) tt
after n Period b = or_else n (eqb b 32) (Key Cost) Refuse (omega arith) tt
after n Cost b = or_else n (eqb b 32) (Inner 0) (cond (eqb b 10) Finish Refuse) (omega arith) (ends n (eqb b 10))

pub deeper : (s : State) (b : ℕ) → Within (depth_of s + 1) (stepped s b)
deeper (Name n) b = or_else 1 (is_small b && ltb n 8) (Name (n + 1)) (cond (eqb b 58 && ltb 0 n) (Go Colon) Refuse) (omega arith) (or_else 1 (eqb b 58 && ltb 0 n) Colon Refuse (omega arith) tt)
deeper Colon b = or_else 1 (eqb b 32) (Key Deadline) Refuse (omega arith) tt
deeper (Key f) b = or_else 1 (eqb b (key f)) (Equals f) Refuse (omega arith) tt
deeper (Equals f) b = or_else 1 (eqb b 61) (Start f) Refuse (omega arith) tt
deeper (Start f) b = or_else 1 (is_digit b) (Digits f) Refuse (omega arith) tt
deeper (Digits f) b = or_else 1 (is_digit b) (Digits f) (after_digits f b) (omega arith) (after 1 f b)
deeper (Closed d) b = or_else (d + 1) (eqb b 32) (Inner d) (cond (eqb b 10 && eqb d 0) Finish Refuse) (omega arith) (ends (d + 1) (eqb b 10 && eqb d 0))
deeper (Inner d) b = or_else (d + 1) (is_digit b) (Length d) (cond (eqb b 125 && ltb 0 d) (Go (Closed (d - 1))) Refuse) (omega arith) (or_else (d + 1) (eqb b 125 && ltb 0 d) (Closed (d - 1)) Refuse (omega arith) tt)
deeper (Length d) b = or_else (d + 1) (is_digit b) (Length d) (cond (eqb b 123) (Go (Body d)) Refuse) (omega arith) (or_else (d + 1) (eqb b 123) (Body d) Refuse (omega arith) tt)
deeper (Body d) b = or_else (d + 1) (eqb b 32) (Member d) Refuse (omega arith) tt
deeper (Member d) b =
    or_else (d + 1) (is_letter b) (Body d) (cond (is_digit b) (Go (Length (d + 1))) (cond (eqb b 125) (Go (Closed d)) Refuse)) (omega arith)
    (or_else (d + 1) (is_digit b) (Length (d + 1)) (cond (eqb b 125) (Go (Closed d)) Refuse) (omega arith)
    (or_else (d + 1) (eqb b 125) (Closed d) Refuse (omega arith) tt))

abbrev pub go_on : Move → ℕ → List ℕ → Option ℕ
go_on m i t = elim m [ Refuse ↦ Some i | Finish ↦ None | Go s ↦ broken_at s (i + 1) t ]

-- one turn: the scan of what is left, by the step's answer
pub turn : (s : State) (i : ℕ) (xs : List ℕ) (m : Move) → i < length xs → m ≡ stepped s (get_or xs i 0) → broken_at s i (drop i xs) ≡ go_on m i (drop (i + 1) xs)
turn s i xs m lt is = ap (broken_at s i) (drop_more xs i 0 lt) ∙ ap (λ x. go_on x i (drop (i + 1) xs)) (sym is)

pub kept : (s s' : State) (b : ℕ) → Go s' ≡ stepped s b → depth_of s' ≤ depth_of s + 1
kept s s' b is = subst (Within (depth_of s + 1)) (sym is) (deeper s b)
