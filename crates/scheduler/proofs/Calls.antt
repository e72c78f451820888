-- What the calls do over the core's own fields is the machine's step.
use Rattle.std.proofs.Common.{◌≡◌, ℕ, ◌-◌, ◌<◌, ◌≤◌, true, nat_lt, List, [], ◌∷◌, map, length, Some, None, Option, refl, ◌∙◌, arith}
use Rattle.std.proofs.lemmas.Bool.{and_parts}
use Rattle.std.proofs.lemmas.Bool.Decides.{nat_tests}
use Rattle.std.proofs.lemmas.List.{length-map}
use Rattle.table.specs.Limits.{deepest}
use Rattle.queue.specs.declared.waiting.Waiting.{Waiting}
use Rattle.queue.specs.declared.released.Released.{Released}
use Rattle.queue.specs.Order.{insert_sorted}
use Rattle.queue.specs.Entries.{waiting_before}
use Rattle.admission.proofs.Nesting.{Inside, nesting_within}
use Rattle.admission.proofs.Nesting.{innermost_of as innermost_section}
use Rattle.machine.specs.declared.call.Call.TheVariants.{Advance, Enter, Finish}
use Rattle.machine.specs.declared.call.Answer.TheVariants.{Granted}
use Rattle.machine.specs.declared.call.Refusal.{Refusal}
use Rattle.machine.specs.State.{Table, Open, State, section_at}
use Rattle.machine.specs.Step.{Outcome, refused, step, most_entries, not_advanced, top_expired, lapsed, released_at, clock_at, advanced, advanced_answer, same_place, innermost, enterable, ticket, selected}
use Rattle.machine.proofs.Cases.{chosen}
use Rattle.scheduler.specs.declared.records.Records.{Records}
use Rattle.scheduler.specs.declared.stack.Inner.{Inner}
use Rattle.scheduler.specs.View.{table_of, job_of, state_of}
use Rattle.scheduler.specs.Steady.{job_at, chained, Steady}
use Rattle.scheduler.specs.Moves.{top_of, no_open, innermost_of, enterable_at, enter_refusal, finish_refusal, again_of, with_open}
use Rattle.scheduler.specs.Moves.{entered_by, finished_by}
use Rattle.scheduler.proofs.Jobs.{jobs_none, jobs_top, jobs_set, opens_none, opens_top, opens_push}
use Rattle.scheduler.proofs.Ghosts.{high}
use Rattle.scheduler.proofs.Events.{top_count}

-- what a call comes to, by whether it is refused
abbrev pub by_refusal : Option Refusal → State → Outcome → Outcome
by_refusal None s o = o
by_refusal (Some r) s o = refused s r

-- what an advance, an entry and a finish come to where they are not refused
abbrev pub passed : Table → ℕ → State → Outcome
passed k t s = record { state = advanced k t s; answer = advanced_answer s (advanced k t s) }

module _ (k : Records) (i : Inner) (ws : List Waiting) (rs : List Released) where
  abbrev pub granted : ℕ → Outcome
  granted x = record { state = state_of (entered_by i x) ws rs; answer = Granted (ticket (job_of (top_of i)) x i.counts.entries) }

  abbrev pub done : Outcome
  done = chosen (table_of k) (state_of (finished_by i) (insert_sorted waiting_before (again_of (table_of k) i) ws) rs)

-- open sections that lie in one another do so by number
abbrev numbers : List Open → List ℕ
numbers os = map (λ (o : Open). o.section) os

same_place_lem : (a b : Option ℕ) → same_place a b ≡ true → a ≡ b
same_place_lem None None e = refl
same_place_lem None (Some y) e = grind arith
same_place_lem (Some x) None e = grind arith
same_place_lem (Some x) (Some y) e = grind (arith, nat_tests)

innermost_number : (os : List Open) → innermost os ≡ innermost_section (numbers os)
innermost_number [] = refl
innermost_number (o ∷ os) = refl

chain_inside : (k : Table) (os : List Open) → chained k os ≡ true → Inside k.sections (numbers os)
chain_inside k [] c = tt
chain_inside k (o ∷ os) c =
    let a = and_parts (nat_lt o.section (length k.sections)) _ c in
    let b = and_parts (same_place (section_at k o.section).around (innermost os)) (chained k os) a.1 in
    (grind (arith, nat_tests), same_place_lem _ _ b.0 ∙ innermost_number os, chain_inside k os b.1)

chain_short : (k : Records) (os : List Open) → chained (table_of k) os ≡ true → length os ≤ deepest
chain_short k os c =
    omega (arith, length-map os (λ (o : Open). o.section), nesting_within (table_of k).tasks (table_of k).sections k.copied (numbers os) (chain_inside (table_of k) os c))

module _ {k : Records} {i : Inner} (gh : Steady k i) where
  -- the innermost open section
  innermost_over : (p : ℕ) → p < i.depth → innermost_of (job_at i p) ≡ innermost (job_of (job_at i p)).opened
  innermost_over p h =
      let r = job_at i p in
      let none = opens_none r.opened.items in
      let top = λ (some : 0 < length r.opened.items). opens_top r.opened.items no_open some in
      grind (arith, nat_tests)

  -- whether a section is open to entry
  enterable_over : (x p : ℕ) → p < i.depth → enterable_at k x (job_at i p) ≡ enterable (table_of k) x (job_of (job_at i p))
  enterable_over x p h =
      let last = innermost_over p h in
      grind (arith, nat_tests)

  -- what an entry that is not refused finds: the section lies directly in the innermost open one, and there is room for it
  pub record Enterable (x : ℕ) : Type 0 where
    pub some : 0 < i.depth
    pub counted : i.counts.entries < most_entries
    pub nested : chained (table_of k) (record { section = x; serial = i.counts.entries } ∷ (job_of (top_of i)).opened) ≡ true
    pub room : length (top_of i).opened.items < deepest
    pub in_table : x < length k.sections.items

  pub enter_some : (x : ℕ) → enter_refusal k i x ≡ None → Enterable x
  enter_some x e =
      let some : 0 < i.depth = grind (arith, nat_tests) in
      let may : enterable_at k x (top_of i) ≡ true = grind (arith, nat_tests) in
      let nest = gh.nested (i.depth - 1) (omega arith) in
      let over = enterable_over x (i.depth - 1) (omega arith) in
      let nested : chained (table_of k) (record { section = x; serial = i.counts.entries } ∷ (job_of (top_of i)).opened) ≡ true = grind (arith, nat_tests) in
      record {
        some = some;
        counted = grind (arith, nat_tests);
        nested = nested;
        room = omega (arith, chain_short k (record { section = x; serial = i.counts.entries } ∷ (job_of (top_of i)).opened) nested, top_count gh);
        in_table = grind (arith, nat_tests, may);
      }

  module _ (ws : List Waiting) (rs : List Released) where
    pub enter_is : {o : Option Refusal} (x : ℕ) → enter_refusal k i x ≡ o → step (table_of k) (Enter x) (state_of i ws rs) ≡ by_refusal o (state_of i ws rs) (granted k i ws rs x)
    unfolding step
    enter_is {o} x why =
        let empty = jobs_none i.stack in
        let top = λ (some : 0 < i.depth). jobs_top i.stack i.depth some (high gh) in
        let may = λ (some : 0 < i.depth). enterable_over x (i.depth - 1) (omega arith) in
        let new = λ (some : 0 < i.depth). jobs_set i.stack i.depth (with_open x i.counts.entries (top_of i)) some (high gh) in
        let fits = opens_push (top_of i).opened.items (record { section = x; serial = i.counts.entries }) in
        grind (arith, nat_tests)

    pub finish_is : {o : Option Refusal} → finish_refusal i ≡ o → step (table_of k) Finish (state_of i ws rs) ≡ by_refusal o (state_of i ws rs) (done k i ws rs)
    unfolding step
    finish_is {o} why =
        let r = top_of i in
        let empty = jobs_none i.stack in
        let top = λ (some : 0 < i.depth). jobs_top i.stack i.depth some (high gh) in
        let none = opens_none r.opened.items in
        let more = λ (some : 0 < i.depth) (more : 0 < length r.opened.items). opens_top r.opened.items no_open more in
        grind (arith, nat_tests)

pub finish_some : (i : Inner) → finish_refusal i ≡ None → (0 < i.depth) × (length (top_of i).opened.items ≡ 0)
finish_some i e = grind (arith, nat_tests)

module _ (k : Table) (t : ℕ) (s : State) where
  pub advance_is : {o : Option Refusal} → not_advanced t s ≡ o → step k (Advance t) s ≡ by_refusal o s (passed k t s)
  unfolding step
  advance_is why = grind arith

  -- the parts of an advance, one after the other
  pub advance_parts :
      (a b c d : State) → a ≡ top_expired k t (clock_at t s) s.stack → b ≡ lapsed k t a a.released → c ≡ released_at k t b b.waiting → d ≡ selected k c → d ≡ advanced k t s
  unfolding advanced
  advance_parts a b c d ea eb ec ed = cc
