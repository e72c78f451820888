-- A written line is one line of its text; and the form of a text's first line is that of the text.
use Rattle.std.proofs.Common.{◌≡◌, ℕ, ◌+◌, ◌<◌, eqb, List, [], ◌∷◌, ◌++◌, take, Some, None, Option, sym, refl, ap, ◌∙◌, subst, inl, inr, ⊎_elim, one-add, arith}
use Rattle.std.proofs.lemmas.Bool.{cond-true, cond-false, cond_both, cases_Bool, eqb-true, ne_eqb}
use Rattle.table.specs.declared.form.Field.TheVariants.{Deadline, Period, Cost}
use Rattle.table.specs.declared.form.State.{State}
use Rattle.table.specs.declared.form.State.TheVariants.{Name, Colon, Key, Equals, Start, Digits, Closed, Inner, Length, Body, Member}
use Rattle.table.specs.declared.form.Move.{Move}
use Rattle.table.specs.declared.form.Move.TheVariants.{Refuse, Finish, Go}
use Rattle.table.specs.Form.{stepped, broken_at}
use Rattle.table.specs.Lines.{start_line, lines_of, line_length}
use Rattle.table.specs.Grammar.{Digit, Small, Letter, Byte, Numeral, Sections, none, section, Line, bytes, numeral, letters, sections_text, render}

-- a text that is one whole line before any other
abbrev pub OneLine : List ℕ → Type 0
OneLine x = (t : List ℕ) → lines_of (x ++ t) ≡ x ∷ lines_of t

longer : (b : ℕ) (x : List ℕ) → (b ≡ 10 → ⊥) → OneLine x → OneLine (b ∷ x)
longer b x ne h t = cond-false (eqb b 10) _ _ (ne_eqb b 10 ne) ∙ ap (start_line b) (h t)

-- a kind of bytes without the line's end
abbrev Inline : (ℕ → Type 0) → Type 0
Inline K = (b : ℕ) → K b → b ≡ 10 → ⊥

bytes_line : (K : ℕ → Type 0) (bs : List (Byte K)) (x : List ℕ) → Inline K → OneLine x → OneLine (bytes bs x)
bytes_line K [] x ne h = h
bytes_line K (b ∷ bs) x ne h = longer b.byte (bytes bs x) (ne b.byte b.is) (bytes_line K bs x ne h)

digit_inline : Inline Digit
digit_inline b k e = omega arith

letter_inline : Inline Letter
letter_inline b (inl k) e = omega arith
letter_inline b (inr k) e = omega arith

numeral_line : (n : Numeral) (x : List ℕ) → OneLine x → OneLine (numeral n x)
numeral_line n x h = bytes_line Digit (n.first ∷ n.more) x digit_inline h

letters_line : (ls : List (Byte Letter)) (x : List ℕ) → OneLine x → OneLine (letters ls x)
letters_line [] x h = h
letters_line (l ∷ ls) x h =
    longer 32 _ (λ e. omega arith) (longer l.byte _ (letter_inline l.byte l.is) (letters_line ls x h))

sections_line : (f : Sections) (x : List ℕ) → OneLine x → OneLine (sections_text f x)
sections_line none x h = h
sections_line (section n ls f g) x h =
    longer 32 _ (λ e. omega arith) (numeral_line n _ (longer 123 _ (λ e. omega arith) (letters_line ls _
    (sections_line f _ (longer 32 _ (λ e. omega arith) (longer 125 _ (λ e. omega arith) (sections_line g x h)))))))

lit : (b : ℕ) (x : List ℕ) → 10 < b → OneLine x → OneLine (b ∷ x)
lit b x h k = longer b x (λ e. omega arith) k

pub one_line : (l : Line) → OneLine (render l)
one_line l =
    bytes_line Small l.name _ (λ b k e. omega arith)
    (lit 58 _ (omega arith) (lit 32 _ (omega arith) (lit 68 _ (omega arith) (lit 61 _ (omega arith) (numeral_line l.deadline _
    (lit 32 _ (omega arith) (lit 84 _ (omega arith) (lit 61 _ (omega arith) (numeral_line l.period _
    (lit 32 _ (omega arith) (lit 67 _ (omega arith) (lit 61 _ (omega arith) (numeral_line l.cost _
    (sections_line l.sections _ (λ t. refl)))))))))))))))

-- no state goes on at the line's end
abbrev Stays : Move → Type 0
Stays Refuse = Unit {0}
Stays Finish = Unit {0}
Stays (Go s) = ⊥

stays : (s : State) → Stays (stepped s 10)
stays (Name n) = tt
stays Colon = tt
stays (Key Deadline) = tt
stays (Key Period) = tt
stays (Key Cost) = tt
stays (Equals f) = tt
stays (Start f) = tt
stays (Digits Deadline) = tt
stays (Digits Period) = tt
stays (Digits Cost) = tt
stays (Closed d) = cond_both (eqb d 0) Finish Refuse Stays (λ _. tt) (λ _. tt)
stays (Inner d) = tt
stays (Length d) = tt
stays (Body d) = tt
stays (Member d) = tt

abbrev go_on : Move → ℕ → List ℕ → Option ℕ
go_on m i t = elim m [ Refuse ↦ Some i | Finish ↦ None | Go s ↦ broken_at s (i + 1) t ]

ended : (m : Move) (i : ℕ) (t u : List ℕ) → Stays m → go_on m i t ≡ go_on m i u
ended Refuse i t u h = refl
ended Finish i t u h = refl
ended (Go s) i t u h = absurd h

same_next : (m : Move) (i : ℕ) (t u : List ℕ) → ((s : State) → broken_at s (i + 1) t ≡ broken_at s (i + 1) u) → go_on m i t ≡ go_on m i u
same_next Refuse i t u h = refl
same_next Finish i t u h = refl
same_next (Go s) i t u h = h s

pub first_formed : (s : State) (i : ℕ) (t : List ℕ) → broken_at s i (take (line_length t) t) ≡ broken_at s i t
first_formed s i [] = refl
first_formed s i (b ∷ t) =
    ⊎_elim
    (λ e. let one = cond-true (eqb b 10) 1 (1 + line_length t) e in
    ap (λ k. broken_at s i (take k (b ∷ t))) one ∙ ended (stepped s b) i [] t (subst (λ x. Stays (stepped s x)) (sym (eqb-true b 10 e)) (stays s)))
    (λ e. let more = cond-false (eqb b 10) 1 (1 + line_length t) e ∙ one-add (line_length t) in
    ap (λ k. broken_at s i (take k (b ∷ t))) more ∙ same_next (stepped s b) i (take (line_length t) t) t (λ s'. first_formed s' (i + 1) t))
    (cases_Bool (eqb b 10))
