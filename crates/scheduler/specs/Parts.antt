-- What a core is seen as. A core that runs is its records, what it keeps of its own, and its two queues (`Parts`); any core is that, and whether it
-- runs (`Whole`). A shut core has nothing of its own but what a new core has. A core's own fields and its queues' lists together are the state of the
-- machine (`view`).
use Rattle.std.specs.Prelude.{Bool}
use Rattle.queue.specs.declared.Queue.{Ghosts as Meaning}
use Rattle.queue.specs.declared.waiting.Waiting.{Waiting}
use Rattle.queue.specs.declared.released.Released.{Released}
use Rattle.machine.specs.State.{State}
use Rattle.scheduler.specs.declared.records.Records.{Records}
use Rattle.scheduler.specs.declared.stack.Inner.{Inner}
use Rattle.scheduler.specs.View.{state_of}

pub record Parts (W R : Type 0) : Type 0 where
  pub records : Records
  pub inner : Inner
  pub waiting : W
  pub released : R

pub record Whole (W R : Type 0) : Type 0 where
  pub records : Records
  pub inner : Inner
  pub waiting : W
  pub released : R
  pub live : Bool

-- a core with these parts, that runs or is shut
abbrev pub whole : {W R : Type 0} → Bool → Parts W R → Whole W R
whole live p = record { records = p.records; inner = p.inner; waiting = p.waiting; released = p.released; live = live }

-- the state of a core: its own fields, and what its two queues hold
module _ {W R : Type 0} (w : Meaning W Waiting) (r : Meaning R Released) where
  abbrev pub state_in : Parts W R → State
  state_in p = state_of p.inner (w.list p.waiting) (r.list p.released)

  abbrev pub view : Whole W R → State
  view c = state_of c.inner (w.list c.waiting) (r.list c.released)
