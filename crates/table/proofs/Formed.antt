-- The automaton's answer is the grammar's.
use Rattle.std.proofs.Common.{◌≡◌, ℕ, zero, suc, ◌+◌, ◌<◌, ◌≤◌, List, [], ◌∷◌, ◌++◌, length, take, drop, Some, None, Option, sym, refl, ap, ◌∙◌, subst, append-nil, add-one, arith, take-append-drop}
use Rattle.table.specs.Grammar.{Digit, Letter, Byte, Numeral, Sections, none, section, Line, bytes, letters, sections_text, render}
use Rattle.table.specs.Broken.{BrokenAt}
use Rattle.table.specs.declared.form.Field.{Field}
use Rattle.table.specs.declared.form.Field.TheVariants.{Deadline, Period, Cost}
use Rattle.table.specs.declared.form.State.{State}
use Rattle.table.specs.declared.form.State.TheVariants.{Name, Colon, Key, Equals, Start, Digits, Closed, Inner, Length, Body, Member}
use Rattle.table.specs.declared.form.Move.{Move}
use Rattle.table.specs.declared.form.Move.TheVariants.{Refuse, Finish, Go}
use Rattle.table.specs.Form.{key, stepped, broken_at, form_fault}
use Rattle.table.proofs.Steps.{Lit, Numbered, Stack, tail, AfterClosed, AfterBody, AfterField, Rest, Live, Back, back, Fore, fore}

one : Byte Digit
one = record { byte = 49; is = (omega arith, omega arith) }

stack : (d : ℕ) → Stack d
stack zero = tt
stack (suc d) = (none, stack d)

unit : Numeral
unit = record { first = one; more = [] }

some_closed : (d : ℕ) → (t : List ℕ) × AfterClosed d t
some_closed d = (_, (none, stack d, refl))

numbered : {K : List ℕ → Type 0} → (t : List ℕ) × K t → (t : List ℕ) × Numbered K t
numbered (t, k) = (_, (unit, t, refl, k))

lit : {K : List ℕ → Type 0} (b : ℕ) → (t : List ℕ) × K t → (t : List ℕ) × Lit b K t
lit b (t, k) = (_, (t, refl, k))

some_ended : (f : Field) → (t : List ℕ) × AfterField f t
some_ended Cost = some_closed zero
some_ended Period = lit 32 (lit 67 (lit 61 (numbered (some_closed zero))))
some_ended Deadline = lit 32 (lit 84 (lit 61 (numbered (lit 32 (lit 67 (lit 61 (numbered (some_closed zero))))))))

some_colon : (t : List ℕ) × Rest Colon t
some_colon = lit 32 (lit 68 (lit 61 (numbered (some_ended Deadline))))

some_body : (d : ℕ) → (t : List ℕ) × AfterBody d t
some_body d = (_, ([], none, none, stack d, refl))

-- each state has a way to the line's end
some : (s : State) → Live s → (t : List ℕ) × Rest s t
some (Name zero) l = (_, (record { byte = 97; is = (omega arith, omega arith) } ∷ [], some_colon.0, omega arith, omega arith, refl, some_colon.1))
some (Name (suc n)) l = (_, ([], some_colon.0, omega arith, omega arith, refl, some_colon.1))
some Colon l = some_colon
some (Key f) l = lit (key f) (lit 61 (numbered (some_ended f)))
some (Equals f) l = lit 61 (numbered (some_ended f))
some (Start f) l = numbered (some_ended f)
some (Digits f) l = (_, ([], (some_ended f).0, refl, (some_ended f).1))
some (Closed d) l = some_closed d
some (Inner d) l = (_, (section unit [] none none, stack d, refl))
some (Length d) l = (_, ([], (some_body d).0, refl, (some_body d).1))
some (Body d) l = some_body d
some (Member d) l = (_, ([], none, none, stack d, refl))

-- and none is at its end yet
more_than : (b : ℕ) (t : List ℕ) → [] ≡ b ∷ t → ⊥
more_than b t e = let z : ◌≡◌ {A = ℕ} 0 1 = cc in omega arith

stops_closed : (d : ℕ) (f : Sections) (st : Stack d) → [] ≡ sections_text f (tail d st) → ⊥
stops_closed zero none st e = more_than _ _ e
stops_closed (suc d) none st e = more_than _ _ e
stops_closed d (section n ls f g) st e = more_than _ _ e

stops_ended : (f : Field) → AfterField f [] → ⊥
stops_ended Cost (f, st, e) = stops_closed zero f st e
stops_ended Period (u, e, r) = more_than _ _ e
stops_ended Deadline (u, e, r) = more_than _ _ e

stops_digits : (f : Field) (ds : List (Byte Digit)) (u : List ℕ) → [] ≡ bytes ds u → AfterField f u → ⊥
stops_digits f [] u e r = stops_ended f (subst (AfterField f) (sym e) r)
stops_digits f (d ∷ ds) u e r = more_than _ _ e

stops_bytes : {K : ℕ → Type 0} (bs : List (Byte K)) (k : ℕ) (u : List ℕ) → [] ≡ bytes bs (k ∷ u) → ⊥
stops_bytes [] k u e = more_than _ _ e
stops_bytes (b ∷ bs) k u e = more_than _ _ e

stops_body : (d : ℕ) (ls : List (Byte Letter)) (f g : Sections) (st : Stack d) → [] ≡ letters ls (sections_text f (32 ∷ 125 ∷ sections_text g (tail d st))) → ⊥
stops_body d [] none g st e = more_than _ _ e
stops_body d [] (section n ls f h) g st e = more_than _ _ e
stops_body d (l ∷ ls) f g st e = more_than _ _ e

short : (a b c : ℕ) (t : List ℕ) → a ∷ [] ≡ b ∷ c ∷ t → ⊥
short a b c t e = more_than c t (cc)

stops_inner : (d : ℕ) (f : Sections) (st : Stack d) → ◌≡◌ {A = List ℕ} (32 ∷ []) (sections_text f (tail d st)) → ⊥
stops_inner zero none st e = let z : ◌≡◌ {A = ℕ} 32 10 = cc in omega arith
stops_inner (suc d) none st e = short _ _ _ _ e
stops_inner d (section n ls f g) st e = short _ _ _ _ e

stops_member : (d : ℕ) (ls : List (Byte Letter)) (f g : Sections) (st : Stack d) → ◌≡◌ {A = List ℕ} (32 ∷ []) (letters ls (sections_text f (32 ∷ 125 ∷ sections_text g (tail d st)))) → ⊥
stops_member d [] none g st e = short _ _ _ _ e
stops_member d [] (section n ls f h) g st e = short _ _ _ _ e
stops_member d (l ∷ ls) f g st e = short _ _ _ _ e

stops : (s : State) → Rest s [] → ⊥
stops (Name n) (ls, u, low, high, e, r) = stops_bytes ls 58 u e
stops Colon (u, e, r) = more_than _ _ e
stops (Key f) (u, e, r) = more_than _ _ e
stops (Equals f) (u, e, r) = more_than _ _ e
stops (Start f) (n, u, e, r) = more_than _ _ e
stops (Digits f) (ds, u, e, r) = stops_digits f ds u e r
stops (Closed d) (f, st, e) = stops_closed d f st e
stops (Inner d) (f, st, e) = stops_inner d f st e
stops (Length d) (ds, u, e, r) = stops_bytes ds 123 u e
stops (Body d) (ls, f, g, st, e) = stops_body d ls f g st e
stops (Member d) (ls, f, g, st, e) = stops_member d ls f g st e

-- what an answer says of the text t, whose first byte stands at i
abbrev Says : State → ℕ → List ℕ → Option ℕ → Type 0
Says s i t (Some j) = (k : ℕ) × (j ≡ i + k) × (k ≤ length t) × ((u : List ℕ) × Rest s (take k t ++ u)) × ((u : List ℕ) → k < length t → Rest s (take (suc k) t ++ u) → ⊥) × ((u v : List ℕ) → Rest s u → t ≡ u ++ v → ⊥)
Says s i t None = (k : ℕ) × (k ≤ length t) × Rest s (take k t)

-- no line is a front of a text whose first byte is refused
no_front : (s : State) (b : ℕ) (t u v : List ℕ) → ((w : List ℕ) → Rest s (b ∷ w) → ⊥) → Rest s u → b ∷ t ≡ u ++ v → ⊥
no_front s b t [] v no_more r e = stops s r
no_front s b t (x ∷ u) v no_more r e = no_more u (subst (λ y. Rest s (y ∷ u)) (let k : x ≡ b = cc in k) r)

later_front : (s s' : State) (b : ℕ) (t u v : List ℕ) → ((w : List ℕ) → Rest s (b ∷ w) → Rest s' w) → ((u v : List ℕ) → Rest s' u → t ≡ u ++ v → ⊥) → Rest s u → b ∷ t ≡ u ++ v → ⊥
later_front s s' b t [] v on no_more r e = stops s r
later_front s s' b t (x ∷ u) v on no_more r e = no_more u v (on u (subst (λ y. Rest s (y ∷ u)) (let k : x ≡ b = cc in k) r)) (cc)

lift : (s s' : State) (i b : ℕ) (t : List ℕ) (found : Option ℕ) → ((w : List ℕ) → Rest s' w → Rest s (b ∷ w)) → ((w : List ℕ) → Rest s (b ∷ w) → Rest s' w) → Says s' (i + 1) t found → Says s i (b ∷ t) found
lift s s' i b t (Some j) from on (k, at, within, (u, r), not_here, not_whole) =
    (suc k, omega arith, omega arith, (u, from _ r), (λ w lt h. not_here w (omega arith) (on _ h)), λ w v h e. later_front s s' b t w v on not_whole h e)
lift s s' i b t None from on (k, within, r) = (suc k, omega arith, from _ r)

turn : (s : State) (i b : ℕ) (t : List ℕ) (m : Move) → Live s → Back s b m → ((w : List ℕ) → Rest s (b ∷ w) → Fore w m) → ((s' : State) → Live s' → Says s' (i + 1) t (broken_at s' (i + 1) t)) → Says s i (b ∷ t) (elim m [ Refuse ↦ Some i | Finish ↦ None | Go s' ↦ broken_at s' (i + 1) t ])
turn s i b t Refuse l from on next = (zero, omega arith, omega arith, some s l, (λ w lt h. on _ h), λ u v r e. no_front s b t u v on r e)
turn s i b t Finish l from on next = (1, omega arith, from)
turn s i b t (Go s') l from on next = lift s s' i b t (broken_at s' (i + 1) t) from.1 on (next s' from.0)

no_empty : (s : State) (u v : List ℕ) → Rest s u → [] ≡ u ++ v → ⊥
no_empty s [] v r e = stops s r
no_empty s (b ∷ u) v r e = more_than _ _ e

right : (s : State) (i : ℕ) (t : List ℕ) → Live s → Says s i t (broken_at s i t)
right s i [] l = (zero, omega arith, omega arith, some s l, (λ u lt. absurd (omega arith)), λ u v r e. no_empty s u v r e)
right s i (b ∷ t) l = turn s i b t (stepped s b) l (back s b l) (fore s b) (λ s' l'. right s' (i + 1) t l')

line_rest : (l : Line) → Rest (Name 0) (render l)
line_rest l = (
  l.name,
  _,
  omega (arith, l.named),
  omega (arith, l.short),
  refl,
  (
    _,
    refl,
    (
      _,
      refl,
      (
        _,
        refl,
        (
          l.deadline,
          _,
          refl,
          (_, refl, (_, refl, (_, refl, (l.period, _, refl, (_, refl, (_, refl, (_, refl, (l.cost, _, refl, (l.sections, tt, refl))))))))),
        ),
      ),
    ),
  ),
)

rest_line : (t : List ℕ) → Rest (Name 0) t → (l : Line) × (render l ≡ t)
rest_line t (ls, u, low, high, e, (u1, e1, (u2, e2, (u3, e3, (n, u4, e4, (u5, e5, (u6, e6, (u7, e7, (m, u8, e8, (u9, e9, (v1, f1, (v2, f2, (k, v3, f3, (g, st, f4)))))))))))))) =
    (record { name = ls; named = omega arith; short = omega arith; deadline = n; period = m; cost = k; sections = g }, (cc))

-- what the automaton's answer says of a text that should begin with a line
abbrev pub Formed : List ℕ → Option ℕ → Type 0
Formed t (Some k) = BrokenAt t k
Formed t None = (l : Line) × (more : List ℕ) × (t ≡ render l ++ more)

answer : (t : List ℕ) (found : Option ℕ) → Says (Name 0) 0 t found → Formed t found
answer t (Some j) (k, at, within, (u, r), not_here, not_whole) =
    let same : k ≡ j = omega arith in
    let (l, is) = rest_line _ r in
    subst (BrokenAt t) same (record {
      within = within;
      before = (l, u, is);
      not_here = λ ne (l, more, e). not_here more (omega arith) (subst (Rest (Name 0)) (rw add-one at e) (line_rest l));
      not_whole = λ l more e. not_whole _ _ (line_rest l) e;
    })
answer t None (k, within, r) =
    let (l, is) = rest_line _ r in
    (l, drop k t, sym (ap (λ x. x ++ drop k t) is ∙ take-append-drop k t))

pub formed : (t : List ℕ) → Formed t (form_fault t)
formed t = answer t (form_fault t) (right (Name 0) 0 t (omega arith))

-- a line is well formed
pub line_formed : (l : Line) → form_fault (render l) ≡ None
line_formed l = by_answer (form_fault (render l)) (formed (render l))
  where
    by_answer : (o : Option ℕ) → Formed (render l) o → o ≡ None
    by_answer None h = refl
    by_answer (Some k) h = absurd (h.not_whole l [] (sym (append-nil (render l))))
