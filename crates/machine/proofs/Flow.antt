-- What an advance does to the counts: jobs and open sections go from one place to another, and none is lost.
use Rattle.std.proofs.Common.{◌≡◌, ℕ, suc, ◌+◌, ◌≤◌, Bool, true, List, [], ◌∷◌, length, refl, arith}
use Rattle.std.proofs.lemmas.Bool.{or_right}
use Rattle.queue.specs.Order.{insert_sorted}
use Rattle.queue.specs.Entries.{released_before}
use Rattle.machine.specs.State.{Table, State}
use Rattle.machine.specs.Step.{selected, release_of, advanced}
use Rattle.machine.specs.Run.{is_open}
use Rattle.machine.specs.Promise.{open_count}
use Rattle.machine.proofs.Parts.{Picks, Parts, selected_keeps, advanced_keeps}

-- from one state to another with no call of a task in between
pub record Flow (s s' : State) : Type 0 where
  pub finishes : s'.counts.finishes ≡ s.counts.finishes
  pub entries : s'.counts.entries ≡ s.counts.entries
  pub leaves : s'.counts.leaves ≡ s.counts.leaves
  pub releases : s.counts.releases ≤ s'.counts.releases
  pub expiries : s.counts.expiries ≤ s'.counts.expiries
  pub taken : s.counts.taken ≤ s'.counts.taken
  pub sections : s'.counts.taken + open_count s'.stack ≡ s.counts.taken + open_count s.stack
  pub jobs : s'.counts.releases + (s.counts.expiries + length s.released + length s.stack) ≡ s.counts.releases + (s'.counts.expiries + length s'.released + length s'.stack)
  pub opens : (n : ℕ) → is_open n s'.stack ≡ true → is_open n s.stack ≡ true

pub length-insert : {X : Type 0} (b : X → X → Bool) (x : X) (xs : List X) → length (insert_sorted b x xs) ≡ suc (length xs)
length-insert b x [] = refl
length-insert b x (y ∷ ys) =
    let ih = length-insert b x ys in grind arith

module _ (k : Table) (s : State) where
  flow_picks : Picks k (Flow s)
  flow_picks c w e es js n f g = search arith

  flow_parts : (t : ℕ) → Parts k t (Flow s)
  flow_parts t = record {
    pop = λ c w r q qs n f e. search (arith, or_right);
    lapse = λ c w e es js n f d. search arith;
    release = λ c a w r js n f e. search (arith, length-insert released_before (release_of k a) r);
  }

  pub flow_selected : Flow s (selected k s)
  flow_selected = selected_keeps k (Flow s) flow_picks s (search arith)

  pub flow_advanced : (t : ℕ) → Flow s (advanced k t s)
  flow_advanced t = advanced_keeps k (Flow s) flow_picks t (flow_parts t) s (search arith)
