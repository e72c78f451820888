-- The order of the stack, and who owns what, of every state that a run reaches.
use Rattle.std.proofs.Common.{◌≡◌, ℕ, zero, suc, ◌<◌, ◌≤◌, true, List, [], ◌∷◌, length, get_or, Some, None, Option, inl, inr, arith}
use Rattle.std.specs.List.{AllByRecursion}
use Rattle.std.proofs.lemmas.Bool.Decides.{nat_tests}
use Rattle.table.specs.declared.records.TaskRecord.{TaskRecord}
use Rattle.table.specs.Level.{names}
use Rattle.queue.specs.declared.waiting.Waiting.{Waiting}
use Rattle.queue.specs.declared.released.Released.{Released}
use Rattle.admission.specs.Demand.{reaches}
use Rattle.admission.specs.Verdict.{Admitted}
use Rattle.machine.specs.declared.call.Call.{Call}
use Rattle.machine.specs.State.{Table, Open, Job, State, relative, section_at, or_lower, lowered, inherited}
use Rattle.machine.specs.Run.{reached}
use Rattle.machine.specs.Promise.{Stacked, HasOpen, OneOwner, among, different, deadlines, Held, Order}
use Rattle.machine.proofs.Lists.{Rising, all_map, all_map2}
use Rattle.machine.proofs.Tables.{Fit, fit_if_admitted}
use Rattle.machine.proofs.Levels.{level_low}
use Rattle.machine.proofs.Different.{rising_among}
use Rattle.machine.proofs.Shape.{Shape, Settled, Nested, JobOk, lowered_le, or_lower_le, held_back, known}
use Rattle.machine.proofs.Shaped.{Shaped, reached_shaped}

abbrev Mine : Table → ℕ → Open → Type 0
Mine k i o = (o.section < length k.sections) × ((section_at k o.section).task ≡ i)

-- a level that is at most n lowers what is inherited to at most n
lower_reach : (m n : ℕ) (o : Option ℕ) → reaches o n ≡ true → or_lower m o ≤ n
lower_reach m n None e = grind arith
lower_reach m n (Some l) e = grind (arith, nat_tests)

module _ (k : Table) where
  stacked_from : (s : List Job) → Rising (λ q. q.deadline) s → Nested k s → Stacked k s
  stacked_from [] ri ne = tt
  stacked_from (j ∷ []) ri ne = tt
  stacked_from (j ∷ (l ∷ ls)) ri ne = (ri.0.0, ne.0.0, stacked_from (l ∷ ls) ri.1 ne.1)

  -- a section that is open and names the resource
  record Names (r i : ℕ) : Type 0 where
    place : ℕ
    within : place < length k.sections
    owner : (section_at k place).task ≡ i
    named : names (section_at k place) r ≡ true

  open_names : (r i : ℕ) (os : List Open) → HasOpen k r os → AllByRecursion (Mine k i) os → Names r i
  open_names r i [] h a = absurd h
  open_names r i (o ∷ os) (inl e) a = record { place = o.section; within = a.0.0; owner = a.0.1; named = e }
  open_names r i (o ∷ os) (inr h) a = open_names r i os h a.1

  open_lowers : (r i d n : ℕ) (os : List Open) → ((x : ℕ) → x < length k.sections → names (section_at k x) r ≡ true → reaches (section_at k x).level n ≡ true)
      → HasOpen k r os → AllByRecursion (Mine k i) os → lowered k d os ≤ n
  open_lowers r i d n [] f h a = absurd h
  open_lowers r i d n (o ∷ os) f (inl e) a = lower_reach (lowered k d os) n (section_at k o.section).level (f o.section a.0.0 e)
  open_lowers r i d n (o ∷ os) f (inr h) a = omega (arith, open_lowers r i d n os f h a.1, or_lower_le (lowered k d os) (section_at k o.section).level)

  deadlines_among : (ts : List TaskRecord) (i : ℕ) (t : TaskRecord) → i < length ts → among (get_or ts i t).deadline (deadlines ts) ≡ true
  deadlines_among [] i t h = absurd (omega arith)
  deadlines_among (t ∷ ts) zero d h = grind (arith, nat_tests)
  deadlines_among (t ∷ ts) (suc i) d h = let ih = deadlines_among ts i d (omega arith) in grind arith

  -- the D's of the stack rise
  nested_rising : (s : List Job) → Nested k s → Rising (λ q. relative k q.task) s
  nested_rising [] ne = tt
  nested_rising (q ∷ qs) ne = (
    all_map (λ l. relative k q.task < inherited k l) (λ l. relative k q.task < relative k l.task) (λ l lt. omega (arith, lt, lowered_le k (relative k l.task) l.opened)) qs ne.0,
    nested_rising qs ne.1,
  )

  shallow_from : (s : List Job) → AllByRecursion (λ q. q.task < length k.tasks) s → Nested k s → length s ≤ different (deadlines k.tasks)
  shallow_from s kn ne =
      rising_among (λ (q : Job). relative k q.task) (deadlines k.tasks) s (nested_rising s ne)
      (all_map (λ q. q.task < length k.tasks) (λ q. among (relative k q.task) (deadlines k.tasks) ≡ true) (λ q lt. deadlines_among k.tasks q.task _ lt) s kn)

  held_from : (c : ℕ) (w : List Waiting) (r : List Released) (s : List Job) → Shape k c w r s → Settled k r s → Held k r s
  held_from c w [] s i st = tt
  held_from c w (e ∷ es) [] i st = tt
  held_from c w (e ∷ es) (j ∷ js) i st = λ lt.
      let own = i.readies.0.own in
      let no' = held_back k e j js st lt in
      let in' : relative k e.task < relative k j.task = i.inward.0.0 lt in
      (omega arith, all_map (λ l. relative k j.task < inherited k l) (λ l. relative k e.task < inherited k l) (λ l h. omega arith) js i.nested.0)

  module _ (idle : ℕ) (ad : Admitted k.tasks k.sections idle) where
    ok : Fit k
    ok = fit_if_admitted k idle ad

    one_owner_from : (c : ℕ) (s : List Job) → AllByRecursion (JobOk k c) s → Nested k s → OneOwner k s
    one_owner_from c [] js ne = tt
    one_owner_from c (j ∷ ls) js ne = (
      (λ r lt has.
          let n = open_names r j.task j.opened has js.0.held in
          all_map2 (JobOk k c) (λ l. relative k j.task < inherited k l) (λ l. HasOpen k r l.opened → ⊥)
          (λ l ok' above has'.
          let le = open_lowers r l.task (relative k l.task) (relative k j.task) l.opened
          (λ x wi na. rw n.owner at (level_low k ad.rules x n.place r wi n.within (ok.owned n.place n.within) lt na n.named)) has' ok'.held in
          omega arith) ls js.1 ne.0),
      one_owner_from c ls js.1 ne.1,
    )

    order_from : (s : State) → Shaped k s → Order k s
    order_from s h =
        let i = h.shape in
        record {
          stacked = stacked_from s.stack i.rising i.nested;
          one_owner = one_owner_from s.clock s.stack i.jobs i.nested;
          shallow = shallow_from s.stack (known k s.clock s.waiting s.released s.stack i).2 i.nested;
          held = held_from s.clock s.waiting s.released s.stack i h.settled;
        }

    pub order_reached : (cs : List Call) → Order k (reached k cs)
    order_reached cs = order_from (reached k cs) (reached_shaped k ok cs)
