-- What an ordered list over lent entries means: its entries as they stand.
use Rattle.std.specs.Prelude.{ℕ, ◌≤◌, min, List, length, take}
use Rattle.queue.specs.Order.{Order}
use Rattle.queue.specs.Meaning.{limit, Sound}
use Rattle.queue.specs.declared.list_queue.ListQueue.{ListQueue}

-- the entries in use
abbrev pub list_of : {E : Type 0} → ListQueue E → List E
list_of q = take q.len q.entries.now

-- as many as were lent, and at most 32
abbrev pub list_room : {E : Type 0} → ListQueue E → ℕ
list_room q = min (length q.entries.now) limit

-- no more are in use than there is room, and they are a sound list
abbrev pub ListOrdered : {E : Type 0} → Order E → ListQueue E → Type 0
ListOrdered o q = (q.len ≤ list_room q) × Sound o (list_room q) (list_of q)

-- an ordered list is a sound queue
pub list_sound : {E : Type 0} (o : Order E) (q : ListQueue E) → ListOrdered o q → Sound o (list_room q) (list_of q)
list_sound o q h = h.1
