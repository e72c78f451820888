-- What each call adds to the counts is what its event tells.
use Rattle.std.proofs.Common.{◌≡◌, ℕ, ◌+◌, true, ◌⊎◌, ◌∷◌, length, refl, arith}
use Rattle.std.proofs.lemmas.Bool.{or_right}
use Rattle.std.proofs.lemmas.Bool.Decides.{nat_tests}
use Rattle.machine.specs.declared.call.Call.{Call}
use Rattle.machine.specs.declared.call.Call.TheVariants.{Advance, Enter, Leave, Finish}
use Rattle.machine.specs.declared.call.Refusal.{Refusal}
use Rattle.machine.specs.State.{Table, State}
use Rattle.machine.specs.Step.{selected, put_back, leaving, finishing, Outcome, refused, step}
use Rattle.machine.specs.Run.{Event, is_open, gives}
use Rattle.machine.specs.Promise.{open_count, releases_of, expiries_of, finishes_of, entries_of, leaves_of, taken_of}
use Rattle.machine.proofs.Moves.{with_open}
use Rattle.machine.proofs.Parts.{made, selected_keeps}
use Rattle.machine.proofs.Cases.{Cases, by_case}
use Rattle.machine.proofs.Flow.{flow_selected, flow_advanced}

-- a call's event
abbrev pub event_of : State → Call → Outcome → Event
event_of s c o = record { before = s; call = c; answer = o.answer; after = o.state }

pub record Told (e : Event) : Type 0 where
  pub releases : e.after.counts.releases ≡ e.before.counts.releases + releases_of e
  pub expiries : e.after.counts.expiries ≡ e.before.counts.expiries + expiries_of e
  pub finishes : e.after.counts.finishes ≡ e.before.counts.finishes + finishes_of e
  pub entries : e.after.counts.entries ≡ e.before.counts.entries + entries_of e
  pub leaves : e.after.counts.leaves ≡ e.before.counts.leaves + leaves_of e
  pub taken : e.after.counts.taken ≡ e.before.counts.taken + taken_of e
  pub jobs : e.after.counts.releases + (e.before.counts.finishes + e.before.counts.expiries + length e.before.released + length e.before.stack)
      ≡ e.before.counts.releases + (e.after.counts.finishes + e.after.counts.expiries + length e.after.released + length e.after.stack)
  pub sections : e.after.counts.entries + (e.before.counts.leaves + e.before.counts.taken + open_count e.before.stack)
      ≡ e.before.counts.entries + (e.after.counts.leaves + e.after.counts.taken + open_count e.after.stack)
  pub serials : (n : ℕ) → (n ≡ e.before.counts.entries → gives n e.answer ≡ entries_of e) × ((n ≡ e.before.counts.entries → ⊥) → gives n e.answer ≡ 0)
  pub opens : (n : ℕ) → is_open n e.after.stack ≡ true
      → (is_open n e.before.stack ≡ true) ⊎ ((n ≡ e.before.counts.entries) × (e.after.counts.entries ≡ e.before.counts.entries + 1))

told_refused : (s : State) (c : Call) (r : Refusal) → Told (event_of s c (refused s r))
told_refused s (Advance t) r = search arith
told_refused s (Enter x) r = search arith
told_refused s (Leave g) r = search arith
told_refused s Finish r = search arith

module _ (k : Table) where
  -- selection counts nothing
  selected_counts : (s : State) → (selected k s).counts ≡ s.counts
  selected_counts s = selected_keeps k (λ x. x.counts ≡ s.counts) (λ c w e es js n i _. i) s refl

  told_cases : Cases k (λ s c o. Told (event_of s c o))
  told_cases = record {
    refuse = told_refused;
    advance = λ s t _. search (arith, flow_advanced k s t);
    enter = λ c w r q qs n x _ _. search (arith, nat_tests);
    leave = λ c w r q o os qs n g.
        let s : State = made c w r (with_open q os ∷ qs) (leaving n) in search (arith, or_right, flow_selected k s, selected_counts s);
    finish = λ c w r q qs n.
        let s : State = made c (put_back k q.task q.deadline w) r qs (finishing n) in search (arith, or_right, flow_selected k s, selected_counts s);
  }

  pub told : (c : Call) (s : State) → Told (event_of s c (step k c s))
  told c s = by_case k (λ s c o. Told (event_of s c o)) told_cases c s
