-- The sections of a line, one inside another, from their records.
use Rattle.std.proofs.Common.{◌≡◌, ℕ, suc, ◌+◌, ◌<◌, ◌≤◌, Bool, true, false, cond, ◌&&◌, eqb, ltb, ◌⊎◌, List, [], ◌∷◌, length, Some, None, Option, sym, refl, ap, ◌∙◌, subst, inl, inr, arith}
use Rattle.std.specs.List.{AllByRecursion}
use Rattle.std.proofs.lemmas.Bool.{and_parts, cond-true, cond-false, eq-eqb, ne_eqb, eqb-true, lt-ltb, le-ltb, false≢true}
use Rattle.table.specs.declared.line.Item.{Item}
use Rattle.table.specs.declared.line.Item.TheVariants.{Open, Close}
use Rattle.table.specs.declared.records.SectionRecord.{SectionRecord}
use Rattle.table.specs.Limits.{largest}
use Rattle.table.specs.Nest.{top}
use Rattle.table.specs.Grammar.{Sections, none, section}
use Rattle.table.proofs.Parsed.{read}
use Rattle.table.proofs.Spotted.{letter_items, letters_at, inside_at, after_at, forest_items}
use Rattle.admission.specs.declared.path.Opened.{Opened}
use Rattle.admission.specs.Sound.{unwound, longest, section_sound, opening, sections_sound}
use Rattle.admission.proofs.Nested.{numbers}
use Rattle.admission.proofs.Digits.{numeral_of}
use Rattle.admission.proofs.Entered.{sound_parts}
use Rattle.admission.proofs.Itemed.{letters_for, Says, ends, closes, opens}

-- a section, with how many stand around it
pub record Node : Type 0 where
  pub depth : ℕ
  pub own : SectionRecord

abbrev pub node : ℕ → SectionRecord → Node
node d s = record { depth = d; own = s }

-- the sections while these are open, each with its depth
abbrev pub nodes : ℕ → List Opened → List SectionRecord → List Node
nodes n path [] = []
nodes n path (s ∷ ss) =
    elim (unwound s.around path) [ None ↦ [] | Some inside ↦ node (length inside) s ∷ nodes (n + 1) (opening n inside s ∷ inside) ss ]

-- the sections at a depth, with those inside them, up to the first section that stands less deep
abbrev pub forest : List Node → ℕ → Sections
forest [] e = none
forest (x ∷ xs) e =
    cond (eqb e x.depth) (section (numeral_of x.own.length) (letters_for x.own) (forest xs (suc e)) (forest xs e))
    (cond (ltb e x.depth) (forest xs e) none)

forest_here : (x : Node) (xs : List Node) (e : ℕ) → x.depth ≡ e → forest (x ∷ xs) e ≡ section (numeral_of x.own.length) (letters_for x.own) (forest xs (suc e)) (forest xs e)
forest_here x xs e h = cond-true (eqb e x.depth) _ _ (eq-eqb e x.depth (sym h))

forest_outer : (x : Node) (xs : List Node) (e : ℕ) → e < x.depth → forest (x ∷ xs) e ≡ forest xs e
forest_outer x xs e h = cond-false (eqb e x.depth) _ _ (ne_eqb e x.depth (λ z. omega arith)) ∙ cond-true (ltb e x.depth) _ _ (lt-ltb e x.depth h)

forest_inner : (x : Node) (xs : List Node) (e : ℕ) → x.depth < e → forest (x ∷ xs) e ≡ none
forest_inner x xs e h = cond-false (eqb e x.depth) _ _ (ne_eqb e x.depth (λ z. omega arith)) ∙ cond-false (ltb e x.depth) _ _ (le-ltb e x.depth (omega arith))

-- the items from p on where one section is open for each other place, which is where the sections after it begin
abbrev pub left : List Node → ℕ → List ℕ → List Item
left xs p [] = forest_items p (forest xs 0) []
left xs p (q ∷ ps) = forest_items p (forest xs (suc (length ps))) (Close ∷ left xs q ps)

left_outer : (x : Node) (xs : List Node) (p : ℕ) (ps : List ℕ) → length ps < x.depth → left (x ∷ xs) p ps ≡ left xs p ps
left_outer x xs p [] h = ap (λ f. forest_items p f []) (forest_outer x xs 0 h)
left_outer x xs p (q ∷ ps) h =
    ap (λ f. forest_items p f (Close ∷ left (x ∷ xs) q ps)) (forest_outer x xs (suc (length ps)) h)
    ∙ ap (λ l. forest_items p (forest xs (suc (length ps))) (Close ∷ l)) (left_outer x xs q ps (omega arith))

-- where a section opens
abbrev opened : Node → List Node → ℕ → List ℕ → List Item
opened x xs p ps =
    Open (read (p + 1) (numeral_of x.own.length))
    ∷ letter_items (letters_at p (numeral_of x.own.length)) (letters_for x.own)
    (left xs (inside_at p (numeral_of x.own.length) (letters_for x.own))
    (after_at p (numeral_of x.own.length) (letters_for x.own) (forest xs (suc (length ps))) ∷ ps))

left_opens : (x : Node) (xs : List Node) (p : ℕ) (ps : List ℕ) → x.depth ≡ length ps → left (x ∷ xs) p ps ≡ opened x xs p ps
left_opens x xs p [] h = ap (λ f. forest_items p f []) (forest_here x xs 0 h)
left_opens x xs p (q ∷ ps) h =
    ap (λ f. forest_items p f (Close ∷ left (x ∷ xs) q ps)) (forest_here x xs (suc (length ps)) h)
    ∙ ap (λ l. forest_items p (section (numeral_of x.own.length) (letters_for x.own) (forest xs (suc (suc (length ps)))) (forest xs (suc (length ps)))) (Close ∷ l))
    (left_outer x xs q ps (omega arith))

-- a path that is left once some of these are closed
abbrev Inside : List Opened → List Opened → Type 0
Inside inside [] = inside ≡ []
Inside inside (o ∷ path) = (inside ≡ o ∷ path) ⊎ Inside inside path

inside_none : (path : List Opened) → Inside [] path
inside_none [] = refl
inside_none (o ∷ path) = inr (inside_none path)

same_path : (a b : List Opened) → ◌≡◌ {A = Option (List Opened)} (Some a) (Some b) → a ≡ b
same_path a b e = cc

-- what unwinding a path leaves: an outer part of it, with the section named on top
unwound_inside : (around : Option ℕ) (path inside : List Opened) → unwound around path ≡ Some inside → Inside inside path × (around ≡ top (numbers inside))
unwound_inside None path inside e =
    let nil : inside ≡ [] = sym (same_path [] inside e) in
    (subst (λ l. Inside l path) (sym nil) (inside_none path), ap (λ l. top (numbers l)) (sym nil))
unwound_inside (Some a) [] inside e = let z : ◌≡◌ {A = ℕ} 0 1 = cc in absurd (omega arith)
unwound_inside (Some a) (o ∷ path) inside e =
    let on = unwound_inside (Some a) path inside in
    by_number (eqb o.number a) refl e on
  where
    by_number :
        (b : Bool) → eqb o.number a ≡ b → cond b (Some (o ∷ path)) (unwound (Some a) path) ≡ Some inside
        → (unwound (Some a) path ≡ Some inside → Inside inside path × (Some a ≡ top (numbers inside))) → Inside inside (o ∷ path) × (Some a ≡ top (numbers inside))
    by_number true t h on =
        let here : inside ≡ o ∷ path = sym (same_path (o ∷ path) inside h) in
        (inl here, ap Some (sym (eqb-true o.number a t)) ∙ ap (λ l. top (numbers l)) (sym here))
    by_number false t h on = (inr (on h).0, (on h).1)

inside_short : (inside path : List Opened) → Inside inside path → length inside ≤ length path
inside_short inside [] h = omega (arith, ap length h)
inside_short inside (o ∷ path) (inl e) = omega (arith, ap length e)
inside_short inside (o ∷ path) (inr h) = omega (arith, inside_short inside path h)

abbrev Small : List Opened → Type 0
Small path = AllByRecursion (λ (o : Opened). o.length ≤ largest) path

inside_small : (inside path : List Opened) → Inside inside path → Small path → Small inside
inside_small inside [] h small = subst Small (sym h) tt
inside_small inside (o ∷ path) (inl e) small = subst Small (sym e) small
inside_small inside (o ∷ path) (inr h) (here, small) = inside_small inside path h small

longest_small : (cost : ℕ) (path : List Opened) → cost ≤ largest → Small path → longest cost path ≤ largest
longest_small cost [] low small = low
longest_small cost (o ∷ path) low (here, small) = here

module _ (k cost : ℕ) where
  all_close : (n p : ℕ) (path : List Opened) (ps : List ℕ) → length ps ≡ length path → Says k cost path n [] (left [] p ps)
  all_close n p [] [] e = ends
  all_close n p [] (q ∷ ps) e = absurd (omega arith)
  all_close n p (o ∷ path) [] e = absurd (omega arith)
  all_close n p (o ∷ path) (q ∷ ps) e = closes o (all_close n q path ps (omega arith))

  -- sections close until the next one opens
  close_until :
      (n : ℕ) (s : SectionRecord) (ss : List SectionRecord) (inside : List Opened) (x : Node) (xs : List Node) → x.depth ≡ length inside
      → ((p : ℕ) (ps : List ℕ) → length ps ≡ length inside → Says k cost inside n (s ∷ ss) (left (x ∷ xs) p ps))
      → (p : ℕ) (path : List Opened) (ps : List ℕ) → length ps ≡ length path → Inside inside path → Says k cost path n (s ∷ ss) (left (x ∷ xs) p ps)
  close_until n s ss inside x xs d open' p [] ps e h = subst (λ l. Says k cost l n (s ∷ ss) (left (x ∷ xs) p ps)) h (open' p ps (e ∙ sym (ap length h)))
  close_until n s ss inside x xs d open' p (o ∷ path) [] e h = absurd (omega arith)
  close_until n s ss inside x xs d open' p (o ∷ path) (q ∷ ps) e (inl h) =
      subst (λ l. Says k cost l n (s ∷ ss) (left (x ∷ xs) p (q ∷ ps))) h (open' p (q ∷ ps) (e ∙ sym (ap length h)))
  close_until n s ss inside x xs d open' p (o ∷ path) (q ∷ ps) e (inr h) =
      subst (Says k cost (o ∷ path) n (s ∷ ss)) (sym (ap (λ f. forest_items p f (Close ∷ left (x ∷ xs) q ps)) (forest_inner x xs (suc (length ps)) (omega (arith, inside_short inside path h)))))
      (closes o (close_until n s ss inside x xs d open' q path ps (omega arith) h))

  by_path :
      (n p : ℕ) (path : List Opened) (ps : List ℕ) (s : SectionRecord) (ss : List SectionRecord) → cost ≤ largest → Small path → length ps ≡ length path
      → ((p : ℕ) (inside : List Opened) (ps : List ℕ) → Small inside → length ps ≡ length inside → sections_sound k cost (n + 1) inside ss ≡ true
      → Says k cost inside (n + 1) ss (left (nodes (n + 1) inside ss) p ps))
      → (o : Option (List Opened)) → unwound s.around path ≡ o
      → elim o [ None ↦ false | Some inside ↦ section_sound k cost inside s && sections_sound k cost (n + 1) (opening n inside s ∷ inside) ss ] ≡ true
      → Says k cost path n (s ∷ ss) (left (elim o [ None ↦ [] | Some inside ↦ node (length inside) s ∷ nodes (n + 1) (opening n inside s ∷ inside) ss ]) p ps)
  by_path n p path ps s ss low small e rest None is ok = absurd (false≢true ok)
  by_path n p path ps s ss low small e rest (Some inside) is ok =
      let parts = and_parts (section_sound k cost inside s) _ ok in
      let found = unwound_inside s.around path inside is in
      let good = sound_parts k cost inside s parts.0 in
      let small' = inside_small inside path found.0 small in
      let high : s.length ≤ largest = omega (arith, good.short, longest_small cost inside low small') in
      let x = node (length inside) s in
      let next = opening n inside s ∷ inside in
      let xs = nodes (n + 1) next ss in
      close_until n s ss inside x xs refl
      (λ p ps same. subst (Says k cost inside n (s ∷ ss)) (sym (left_opens x xs p ps (sym same)))
      (opens s (p + 1) (letters_at p (numeral_of s.length)) found.1 high good
      (rest _ next (_ ∷ ps) (high, small') (ap suc same) parts.1)))
      p path ps e found.0

  pub left_says : (n p : ℕ) (path : List Opened) (ps : List ℕ) (ss : List SectionRecord) → cost ≤ largest → Small path → length ps ≡ length path → sections_sound k cost n path ss ≡ true → Says k cost path n ss (left (nodes n path ss) p ps)
  left_says n p path ps [] low small e ok = all_close n p path ps e
  left_says n p path ps (s ∷ ss) low small e ok =
      by_path n p path ps s ss low small e (λ p inside ps small e ok. left_says (n + 1) p inside ps ss low small e ok) (unwound s.around path) refl ok
