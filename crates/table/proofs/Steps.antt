-- What may follow in each state, and that each step of the automaton keeps to it.
use Rattle.std.proofs.Common.{◌≡◌, ℕ, zero, suc, ◌+◌, ◌-◌, ◌<◌, ◌≤◌, Bool, true, false, cond, ◌&&◌, eqb, ltb, List, [], ◌∷◌, length, sym, refl, ap, ◌∙◌, subst, add-one, arith}
use Rattle.std.proofs.lemmas.Bool.{cond_both, eqb-true, leb-true, ltb-true, lt-ltb, and_parts}
use Rattle.std.proofs.lemmas.Bool.Decides.{nat_tests}
use Rattle.table.specs.Grammar.{Digit, Small, Letter, Byte, Numeral, Sections, none, section, bytes, numeral, letters, sections_text}
use Rattle.table.specs.declared.form.Field.{Field}
use Rattle.table.specs.declared.form.Field.TheVariants.{Deadline, Period, Cost}
use Rattle.table.specs.declared.form.State.{State}
use Rattle.table.specs.declared.form.State.TheVariants.{Name, Colon, Key, Equals, Start, Digits, Closed, Inner, Length, Body, Member}
use Rattle.table.specs.declared.form.Move.{Move}
use Rattle.table.specs.declared.form.Move.TheVariants.{Refuse, Finish, Go}
use Rattle.table.specs.Byte.{is_digit, is_small, is_letter}
use Rattle.table.specs.Form.{key, after_digits, stepped}

abbrev pub Lit : ℕ → (List ℕ → Type 0) → List ℕ → Type 0
Lit b K t = (u : List ℕ) × (t ≡ b ∷ u) × K u

abbrev pub Numbered : (List ℕ → Type 0) → List ℕ → Type 0
Numbered K t = (n : Numeral) × (u : List ℕ) × (t ≡ numeral n u) × K u

-- what follows each open section, the innermost first
abbrev pub Stack : ℕ → Type 0
Stack zero = Unit {0}
Stack (suc d) = Sections × Stack d

abbrev pub tail : (d : ℕ) → Stack d → List ℕ
tail zero st = 10 ∷ []
tail (suc d) st = 32 ∷ 125 ∷ sections_text st.0 (tail d st.1)

abbrev pub AfterClosed : ℕ → List ℕ → Type 0
AfterClosed d t = (f : Sections) × (st : Stack d) × (t ≡ sections_text f (tail d st))

abbrev pub AfterBody : ℕ → List ℕ → Type 0
AfterBody d t = (ls : List (Byte Letter)) × (f g : Sections) × (st : Stack d) × (t ≡ letters ls (sections_text f (32 ∷ 125 ∷ sections_text g (tail d st))))

abbrev pub AfterField : Field → List ℕ → Type 0
AfterField Cost t = AfterClosed zero t
AfterField Period t = Lit 32 (Lit 67 (Lit 61 (Numbered (AfterClosed zero)))) t
AfterField Deadline t = Lit 32 (Lit 84 (Lit 61 (Numbered (Lit 32 (Lit 67 (Lit 61 (Numbered (AfterClosed zero)))))))) t

abbrev pub AtKey : Field → List ℕ → Type 0
AtKey f t = Lit (key f) (Lit 61 (Numbered (AfterField f))) t

-- the texts that may follow in a state, to the line's end
abbrev pub Rest : State → List ℕ → Type 0
Rest (Name n) t = (ls : List (Byte Small)) × (u : List ℕ) × (1 ≤ n + length ls) × (n + length ls ≤ 8) × (t ≡ bytes ls (58 ∷ u)) × Lit 32 (AtKey Deadline) u
Rest Colon t = Lit 32 (AtKey Deadline) t
Rest (Key f) t = AtKey f t
Rest (Equals f) t = Lit 61 (Numbered (AfterField f)) t
Rest (Start f) t = Numbered (AfterField f) t
Rest (Digits f) t = (ds : List (Byte Digit)) × (u : List ℕ) × (t ≡ bytes ds u) × AfterField f u
Rest (Closed d) t = AfterClosed d t
Rest (Inner d) t = AfterClosed d (32 ∷ t)
Rest (Length d) t = (ds : List (Byte Digit)) × (u : List ℕ) × (t ≡ bytes ds (123 ∷ u)) × AfterBody d u
Rest (Body d) t = AfterBody d t
Rest (Member d) t = AfterBody d (32 ∷ t)

digit_from : (b : ℕ) → is_digit b ≡ true → Digit b
digit_from b e = let p = and_parts _ _ e in (leb-true 48 b p.0, leb-true b 57 p.1)

digit_is : (b : ℕ) → Digit b → is_digit b ≡ true
digit_is b h = grind (arith, nat_tests)

letter_is : (b : ℕ) → Letter b → is_letter b ≡ true
letter_is b h = grind (arith, nat_tests)

letter_from : (b : ℕ) → is_letter b ≡ true → Letter b
letter_from b e = grind (arith, nat_tests)

digit_no_letter : (b : ℕ) → Digit b → is_letter b ≡ false
digit_no_letter b h = grind (arith, nat_tests)

-- a state that a line comes to
abbrev pub Live : State → Type 0
Live (Name n) = n ≤ 8
Live Colon = Unit {0}
Live (Key f) = Unit {0}
Live (Equals f) = Unit {0}
Live (Start f) = Unit {0}
Live (Digits f) = Unit {0}
Live (Closed d) = Unit {0}
Live (Inner d) = Unit {0}
Live (Length d) = Unit {0}
Live (Body d) = Unit {0}
Live (Member d) = Unit {0}

-- a step back: what may follow after the step may follow the byte before it
abbrev pub Back : State → ℕ → Move → Type 0
Back s b Refuse = Unit {0}
Back s b Finish = Rest s (b ∷ [])
Back s b (Go s') = Live s' × ((t : List ℕ) → Rest s' t → Rest s (b ∷ t))

lit_back : (s s' : State) (b k : ℕ) → Live s' → ((t : List ℕ) → Rest s' t → Rest s (k ∷ t)) → Back s b (cond (eqb b k) (Go s') Refuse)
lit_back s s' b k l h =
    cond_both (eqb b k) (Go s') Refuse (Back s b)
    (λ e. (l, λ t r. subst (λ x. Rest s (x ∷ t)) (sym (eqb-true b k e)) (h t r))) (λ _. tt)

back_end : (d b : ℕ) → b ≡ 10 → d ≡ 0 → Rest (Closed d) (b ∷ [])
back_end d b e none_open_lem = subst (λ k. AfterClosed k (b ∷ [])) (sym none_open_lem) (none, tt, ap (λ x. x ∷ []) e)

back_leave : (d b : ℕ) → Back (Closed d) b (cond (eqb b 10 && eqb d 0) Finish Refuse)
back_leave d b =
    cond_both (eqb b 10 && eqb d 0) Finish Refuse (Back (Closed d) b)
    (λ e. let p = and_parts _ _ e in back_end d b (eqb-true b 10 p.0) (eqb-true d 0 p.1)) (λ _. tt)

back_out : (d b : ℕ) → b ≡ 125 → 0 < d → (t : List ℕ) → Rest (Closed (d - 1)) t → Rest (Inner d) (b ∷ t)
back_out zero b e some t r = absurd (omega arith)
back_out (suc d) b e some t r =
    let less : suc d - 1 ≡ d = omega arith in
    let q : AfterClosed d t = subst (λ k. AfterClosed k t) less r in
    (none, (q.0, q.1), ap (λ x. 32 ∷ x ∷ t) e ∙ ap (λ x. 32 ∷ 125 ∷ x) q.2)

back_close : (d b : ℕ) → Back (Inner d) b (cond (eqb b 125 && ltb 0 d) (Go (Closed (d - 1))) Refuse)
back_close d b =
    cond_both (eqb b 125 && ltb 0 d) (Go (Closed (d - 1))) Refuse (Back (Inner d) b)
    (λ e. let p = and_parts _ _ e in (tt, back_out d b (eqb-true b 125 p.0) (ltb-true 0 d p.1))) (λ _. tt)

-- the byte with its kind
abbrev of : {K : ℕ → Type 0} → (b : ℕ) → K b → Byte K
of b k = record { byte = b; is = k }

back_length : (d b : ℕ) → Digit b → (t : List ℕ) → Rest (Length d) t → Rest (Inner d) (b ∷ t)
back_length d b k t (ds, u, is, (ls, f, g, st, text)) =
    (section (record { first = of b k; more = ds }) ls f g, st, ap (λ x. 32 ∷ b ∷ x) (is ∙ ap (λ x. bytes ds (123 ∷ x)) text))

back_deeper : (d b : ℕ) → Digit b → (t : List ℕ) → Rest (Length (suc d)) t → Rest (Member d) (b ∷ t)
back_deeper d b k t (ds, u, is, (ls, f, g, st, text)) =
    ([], section (record { first = of b k; more = ds }) ls f g, st.0, st.1, ap (λ x. 32 ∷ b ∷ x) (is ∙ ap (λ x. bytes ds (123 ∷ x)) text))

back_ended : (f : Field) (b : ℕ) → Back (Digits f) b (after_digits f b)
back_ended Deadline b = lit_back (Digits Deadline) (Key Period) b 32 tt (λ t r. ([], 32 ∷ t, refl, (t, refl, r)))
back_ended Period b = lit_back (Digits Period) (Key Cost) b 32 tt (λ t r. ([], 32 ∷ t, refl, (t, refl, r)))
back_ended Cost b =
    cond_both (eqb b 32) (Go (Inner 0)) (cond (eqb b 10) Finish Refuse) (Back (Digits Cost) b)
    (λ e. (tt, λ t r. ([], b ∷ t, refl, subst (λ x. AfterClosed zero (x ∷ t)) (sym (eqb-true b 32 e)) r)))
    (λ _. cond_both (eqb b 10) Finish Refuse (Back (Digits Cost) b) (λ e. ([], b ∷ [], refl, (none, tt, ap (λ x. x ∷ []) (eqb-true b 10 e)))) (λ _. tt))

pub back : (s : State) (b : ℕ) → Live s → Back s b (stepped s b)
back (Name n) b l =
    cond_both (is_small b && ltb n 8) _ _ (Back (Name n) b)
    (λ e. let k : Small b = grind (arith, nat_tests) in (grind (arith, nat_tests), λ t r. (of b k ∷ r.0, r.1, omega arith, omega arith, ap (λ x. b ∷ x) r.4, r.5)))
    (λ _. cond_both (eqb b 58 && ltb 0 n) (Go Colon) Refuse (Back (Name n) b)
    (λ e. let k : b ≡ 58 = grind (arith, nat_tests) in let some : 0 < n = grind (arith, nat_tests) in (tt, λ t r. ([], t, omega arith, omega arith, ap (λ x. x ∷ t) k, r))) (λ _. tt))
back Colon b l = lit_back Colon (Key Deadline) b 32 tt (λ t r. (t, refl, r))
back (Key f) b l = lit_back (Key f) (Equals f) b (key f) tt (λ t r. (t, refl, r))
back (Equals f) b l = lit_back (Equals f) (Start f) b 61 tt (λ t r. (t, refl, r))
back (Start f) b l =
    cond_both (is_digit b) (Go (Digits f)) Refuse (Back (Start f) b)
    (λ e. (tt, λ t r. (record { first = of b (digit_from b e); more = r.0 }, r.1, ap (λ x. b ∷ x) r.2, r.3))) (λ _. tt)
back (Digits f) b l =
    cond_both (is_digit b) (Go (Digits f)) (after_digits f b) (Back (Digits f) b)
    (λ e. (tt, λ t r. (of b (digit_from b e) ∷ r.0, r.1, ap (λ x. b ∷ x) r.2, r.3))) (λ _. back_ended f b)
back (Closed d) b l =
    cond_both (eqb b 32) (Go (Inner d)) (cond (eqb b 10 && eqb d 0) Finish Refuse) (Back (Closed d) b)
    (λ e. (tt, λ t r. subst (λ x. AfterClosed d (x ∷ t)) (sym (eqb-true b 32 e)) r)) (λ _. back_leave d b)
back (Inner d) b l =
    cond_both (is_digit b) (Go (Length d)) (cond (eqb b 125 && ltb 0 d) (Go (Closed (d - 1))) Refuse) (Back (Inner d) b) (λ e. (tt, back_length d b (digit_from b e))) (λ _. back_close d b)
back (Length d) b l =
    cond_both (is_digit b) (Go (Length d)) (cond (eqb b 123) (Go (Body d)) Refuse) (Back (Length d) b)
    (λ e. (tt, λ t r. (of b (digit_from b e) ∷ r.0, r.1, ap (λ x. b ∷ x) r.2, r.3)))
    (λ _. lit_back (Length d) (Body d) b 123 tt (λ t r. ([], t, refl, r)))
back (Body d) b l = lit_back (Body d) (Member d) b 32 tt (λ t r. r)
back (Member d) b l =
    cond_both (is_letter b) (Go (Body d)) _ (Back (Member d) b)
    (λ e. (tt, λ t r. (of b (letter_from b e) ∷ r.0, r.1, r.2, r.3, ap (λ x. 32 ∷ b ∷ x) r.4)))
    (λ _. cond_both (is_digit b) (Go (Length (d + 1))) _ (Back (Member d) b) (λ e. (tt, λ t r. back_deeper d b (digit_from b e) t (subst (λ k. Rest (Length k) t) (add-one d) r)))
    (λ _. lit_back (Member d) (Closed d) b 125 tt (λ t r. ([], none, r.0, r.1, ap (λ x. 32 ∷ 125 ∷ x) r.2))))

-- a step on: what may follow begins with a byte that the state takes
abbrev pub Fore : List ℕ → Move → Type 0
Fore t Refuse = ⊥
Fore t Finish = t ≡ []
Fore t (Go s) = Rest s t

yes : (t : List ℕ) (c : Bool) (x y : Move) → c ≡ true → Fore t x → Fore t (cond c x y)
yes t c x y e h = subst (λ d. Fore t (cond d x y)) (sym e) h

nay : (t : List ℕ) (c : Bool) (x y : Move) → c ≡ false → Fore t y → Fore t (cond c x y)
nay t c x y e h = subst (λ d. Fore t (cond d x y)) (sym e) h

-- at a byte that is known, the step computes
at : (s : State) (t : List ℕ) (b k : ℕ) → b ≡ k → Fore t (stepped s k) → Fore t (stepped s b)
at s t b k e h = subst (λ x. Fore t (stepped s x)) (sym e) h

fore_naming : (n b : ℕ) (t : List ℕ) (ls : List (Byte Small)) (u : List ℕ) → 1 ≤ n + length ls → n + length ls ≤ 8 → b ∷ t ≡ bytes ls (58 ∷ u) → Rest Colon u → Fore t (stepped (Name n) b)
fore_naming n b t [] u low high e r =
    let k : b ≡ 58 = cc in
    let same : t ≡ u = cc in
    nay t (is_small b && ltb n 8) _ _ (grind (arith, nat_tests))
    (yes t (eqb b 58 && ltb 0 n) _ _ (grind (arith, nat_tests)) (subst (Rest Colon) (sym same) r))
fore_naming n b t (l ∷ ls) u low high e r =
    let k : b ≡ l.byte = cc in
    let same : t ≡ bytes ls (58 ∷ u) = cc in
    yes t (is_small b && ltb n 8) _ _ (grind (arith, nat_tests)) (ls, u, omega arith, omega arith, same, r)

fore_lit : (s s' : State) (t : List ℕ) (b k : ℕ) (u : List ℕ) → b ∷ t ≡ k ∷ u → Rest s' u → Fore t (cond (eqb b k) (Go s') Refuse)
fore_lit s s' t b k u e r =
    let same : b ≡ k = cc in
    let also : t ≡ u = cc in
    yes t (eqb b k) (Go s') Refuse (grind (arith, nat_tests)) (subst (Rest s') (sym also) r)

fore_ended : (f : Field) (b : ℕ) (t : List ℕ) → AfterField f (b ∷ t) → Fore t (stepped (Digits f) b)
fore_ended Deadline b t (u, e, r) = at (Digits Deadline) t b 32 (cc) (subst (Rest (Key Period)) (let s : u ≡ t = cc in s) r)
fore_ended Period b t (u, e, r) = at (Digits Period) t b 32 (cc) (subst (Rest (Key Cost)) (let s : u ≡ t = cc in s) r)
fore_ended Cost b t (none, st, e) = at (Digits Cost) t b 10 (cc) (cc)
fore_ended Cost b t (section n ls f g, st, e) =
    at (Digits Cost) t b 32 (cc) (section n ls f g, st, ap (λ x. 32 ∷ x) (let s : t ≡ numeral n (123 ∷ letters ls (sections_text f (32 ∷ 125 ∷ sections_text g (10 ∷ [])))) = cc in s))

fore_digits : (f : Field) (b : ℕ) (t : List ℕ) (ds : List (Byte Digit)) (u : List ℕ) → b ∷ t ≡ bytes ds u → AfterField f u → Fore t (stepped (Digits f) b)
fore_digits f b t [] u e r = fore_ended f b t (subst (AfterField f) (sym e) r)
fore_digits f b t (x ∷ ds) u e r =
    let k : b ≡ x.byte = cc in
    let same : t ≡ bytes ds u = cc in
    yes t (is_digit b) _ _ (ap is_digit k ∙ digit_is _ x.is) (ds, u, same, r)

fore_first : (f : Field) (b : ℕ) (t : List ℕ) (n : Numeral) (u : List ℕ) → b ∷ t ≡ numeral n u → AfterField f u → Fore t (stepped (Start f) b)
fore_first f b t n u e r =
    let k : b ≡ n.first.byte = cc in
    let same : t ≡ bytes n.more u = cc in
    yes t (is_digit b) _ _ (ap is_digit k ∙ digit_is _ n.first.is) (n.more, u, same, r)

fore_length : (d b : ℕ) (t : List ℕ) (ds : List (Byte Digit)) (u : List ℕ) → b ∷ t ≡ bytes ds (123 ∷ u) → AfterBody d u → Fore t (stepped (Length d) b)
fore_length d b t [] u e r = at (Length d) t b 123 (cc) (subst (AfterBody d) (let s : u ≡ t = cc in s) r)
fore_length d b t (x ∷ ds) u e r =
    let k : b ≡ x.byte = cc in
    let same : t ≡ bytes ds (123 ∷ u) = cc in
    yes t (is_digit b) _ _ (ap is_digit k ∙ digit_is _ x.is) (ds, u, same, r)

fore_closed : (d b : ℕ) (t : List ℕ) (f : Sections) (st : Stack d) → b ∷ t ≡ sections_text f (tail d st) → Fore t (stepped (Closed d) b)
fore_closed zero b t none st e = at (Closed zero) t b 10 (cc) (cc)
fore_closed (suc d) b t none st e = at (Closed (suc d)) t b 32 (cc) (none, st, (cc))
fore_closed d b t (section n ls f g) st e = at (Closed d) t b 32 (cc) (section n ls f g, st, (cc))

-- two texts that begin with unlike bytes
unlike : (a b : ℕ) (s t : List ℕ) → a ∷ s ≡ b ∷ t → (a ≡ b → ⊥) → ⊥
unlike a b s t e h = h (cc)

-- what follows the first digit of a section's number
opened : (d : ℕ) (t : List ℕ) (n : Numeral) (ls : List (Byte Letter)) (f g : Sections) (st : Stack d) → t ≡ bytes n.more (123 ∷ letters ls (sections_text f (32 ∷ 125 ∷ sections_text g (tail d st)))) → Rest (Length d) t
opened d t n ls f g st e = (n.more, _, e, (ls, f, g, st, refl))

fore_inner : (d b : ℕ) (t : List ℕ) (f : Sections) (st : Stack d) → ◌≡◌ {A = List ℕ} (32 ∷ b ∷ t) (sections_text f (tail d st)) → Fore t (stepped (Inner d) b)
fore_inner zero b t none st e = absurd (unlike 32 10 _ _ e (λ h. omega arith))
fore_inner (suc d) b t none st e =
    let less : d ≡ suc d - 1 = omega arith in
    at (Inner (suc d)) t b 125 (cc) (yes t (ltb 0 (suc d)) _ _ (lt-ltb 0 (suc d) (omega arith)) (subst (λ k. AfterClosed k t) less (st.0, st.1, (cc))))
fore_inner d b t (section n ls f g) st e =
    let k : b ≡ n.first.byte = cc in
    yes t (is_digit b) _ _ (ap is_digit k ∙ digit_is _ n.first.is) (opened d t n ls f g st (cc))

fore_body : (d b : ℕ) (t : List ℕ) (ls : List (Byte Letter)) (f g : Sections) (st : Stack d) → b ∷ t ≡ letters ls (sections_text f (32 ∷ 125 ∷ sections_text g (tail d st))) → Fore t (stepped (Body d) b)
fore_body d b t [] none g st e = at (Body d) t b 32 (cc) ([], none, g, st, (cc))
fore_body d b t [] (section n ls f h) g st e = at (Body d) t b 32 (cc) ([], section n ls f h, g, st, (cc))
fore_body d b t (l ∷ ls) f g st e = at (Body d) t b 32 (cc) (l ∷ ls, f, g, st, (cc))

fore_member : (d b : ℕ) (t : List ℕ) (ls : List (Byte Letter)) (f g : Sections) (st : Stack d) → ◌≡◌ {A = List ℕ} (32 ∷ b ∷ t) (letters ls (sections_text f (32 ∷ 125 ∷ sections_text g (tail d st)))) → Fore t (stepped (Member d) b)
fore_member d b t [] none g st e = at (Member d) t b 125 (cc) (g, st, (cc))
fore_member d b t [] (section n ls f h) g st e =
    let k : b ≡ n.first.byte = cc in
    nay t (is_letter b) _ _ (ap is_letter k ∙ digit_no_letter _ n.first.is)
    (yes t (is_digit b) _ _ (ap is_digit k ∙ digit_is _ n.first.is) (subst (λ k. Rest (Length k) t) (sym (add-one d)) (opened (suc d) t n ls f h (g, st) (cc))))
fore_member d b t (l ∷ ls) f g st e =
    let k : b ≡ l.byte = cc in
    yes t (is_letter b) _ _ (ap is_letter k ∙ letter_is _ l.is) (ls, f, g, st, (cc))

pub fore : (s : State) (b : ℕ) (t : List ℕ) → Rest s (b ∷ t) → Fore t (stepped s b)
fore (Name n) b t (ls, u, low, high, e, r) = fore_naming n b t ls u low high e r
fore Colon b t (u, e, r) = fore_lit Colon (Key Deadline) t b 32 u e r
fore (Key f) b t (u, e, r) = fore_lit (Key f) (Equals f) t b (key f) u e r
fore (Equals f) b t (u, e, r) = fore_lit (Equals f) (Start f) t b 61 u e r
fore (Start f) b t (n, u, e, r) = fore_first f b t n u e r
fore (Digits f) b t (ds, u, e, r) = fore_digits f b t ds u e r
fore (Closed d) b t (f, st, e) = fore_closed d b t f st e
fore (Inner d) b t (f, st, e) = fore_inner d b t f st e
fore (Length d) b t (ds, u, e, r) = fore_length d b t ds u e r
fore (Body d) b t (ls, f, g, st, e) = fore_body d b t ls f g st e
fore (Member d) b t (ls, f, g, st, e) = fore_member d b t ls f g st e
