-- What a binary heap over lent entries means: the places below p are 2 p + 1 and 2 p + 2, no entry comes before the one above it, and the list is the entries sorted.
use Rattle.std.specs.Prelude.{◌≡◌, ℕ, ◌+◌, ◌*◌, ◌<◌, ◌≤◌, min, Bool, false, List, length, take, ◌≢◌, slice_index_or}
use Rattle.queue.specs.Order.{Order, sorted}
use Rattle.queue.specs.Meaning.{limit, Sound}
use Rattle.queue.specs.declared.heap_queue.HeapQueue.{HeapQueue}

-- c is one of the two places below p
abbrev pub Child : ℕ → ℕ → Type 0
Child p c = (2 * p < c) × (c ≤ 2 * p + 2)

-- none of the first n entries comes before the one above it
abbrev pub Heap : {E : Type 0} → (E → E → Bool) → List E → ℕ → Type 0
Heap {E} before s n = (p c : ℕ) (d : E) → Child p c → c < n → before (slice_index_or s c d) (slice_index_or s p d) ≡ false

-- a heap but for what stands at i, which may come before its parent
abbrev pub Above : {E : Type 0} → (E → E → Bool) → List E → ℕ → ℕ → Type 0
Above {E} before s n i = (p c : ℕ) (d : E) → Child p c → c < n → (c ≢ i) → before (slice_index_or s c d) (slice_index_or s p d) ≡ false

-- a heap but for what stands at i, which its children may come before
abbrev pub Beneath : {E : Type 0} → (E → E → Bool) → List E → ℕ → ℕ → Type 0
Beneath {E} before s n i = (p c : ℕ) (d : E) → Child p c → c < n → (p ≢ i) → before (slice_index_or s c d) (slice_index_or s p d) ≡ false

-- no child of i comes before the parent of i
abbrev pub Across : {E : Type 0} → (E → E → Bool) → List E → ℕ → ℕ → Type 0
Across {E} before s n i = (p c : ℕ) (d : E) → Child p i → Child i c → c < n → before (slice_index_or s c d) (slice_index_or s p d) ≡ false

-- r is a child of i that no child of i comes before
abbrev pub Least : {E : Type 0} → (E → E → Bool) → List E → ℕ → ℕ → ℕ → Type 0
Least {E} before s n i r = Child i r × (r < n) × ((c : ℕ) (d : E) → Child i c → c < n → before (slice_index_or s c d) (slice_index_or s r d) ≡ false)

-- the entries in use, sorted
abbrev pub heap_list : {E : Type 0} → Order E → HeapQueue E → List E
heap_list o q = sorted o.before (take q.len q.entries.now)

-- as many as were lent, and at most 32
abbrev pub heap_room : {E : Type 0} → HeapQueue E → ℕ
heap_room q = min (length q.entries.now) limit

-- no more are in use than there is room, they are a heap, and sorted by `own` they are a sound list
abbrev pub HeapOrdered : {E : Type 0} → Order E → Order E → HeapQueue E → Type 0
HeapOrdered own o q =
    (q.len ≤ heap_room q) × Heap o.before q.entries.now q.len × Sound o (heap_room q) (heap_list own q)

-- an ordered heap is a sound queue
pub heap_sound : {E : Type 0} (own o : Order E) (q : HeapQueue E) → HeapOrdered own o q → Sound o (heap_room q) (heap_list own q)
heap_sound own o q h = h.2
