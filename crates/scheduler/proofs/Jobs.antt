-- Lists that grow at their end, read with the last first: jobs on the stack, and open sections of a job.
use Rattle.std.proofs.Common.{◌≡◌, ℕ, ◌+◌, ◌-◌, ◌<◌, ◌≤◌, Bool, List, [], ◌∷◌, ◌++◌, map, reverse, length, slice_index_or, take, slice_set, sym, refl, ap, ◌∙◌, arith}
use Rattle.std.proofs.lemmas.List.{take_all, take_more, take_more_set, reverse-append, length-reverse, length-map, length-take-le}
use Rattle.std.proofs.lemmas.List.Sorted.{list_any-IsPermutation, IsPermutation-reverse}
use Rattle.std.specs.List.{list_any}
use Rattle.machine.specs.declared.call.Ticket.{Ticket}
use Rattle.machine.specs.Step.{opens_for, among_open}
use Rattle.scheduler.specs.declared.stack.OpenSection.{OpenSection}
use Rattle.scheduler.specs.declared.stack.StackRecord.{StackRecord}
use Rattle.scheduler.specs.View.{open_of, opens_of, job_of, jobs_of}
use Rattle.scheduler.specs.Steady.{no_record}

-- the first n of an array, the last first
module _ {X : Type 0} where
  put_last : (xs : List X) (n : ℕ) (x : X) → n < length xs → reverse (take (n + 1) (slice_set xs n x)) ≡ x ∷ reverse (take n xs)
  put_last xs n x h = ap reverse (take_more_set xs n x h) ∙ reverse-append (take n xs) (x ∷ [])

  last_more : (xs : List X) (n : ℕ) (d : X) → n < length xs → reverse (take (n + 1) xs) ≡ slice_index_or xs n d ∷ reverse (take n xs)
  last_more xs n d h = ap reverse (take_more xs n d h) ∙ reverse-append (take n xs) (slice_index_or xs n d ∷ [])

  last_first : (xs : List X) (n : ℕ) (d : X) → 0 < n → n ≤ length xs → reverse (take n xs) ≡ slice_index_or xs (n - 1) d ∷ reverse (take (n - 1) xs)
  last_first xs n d p h = let e : (n - 1) + 1 ≡ n = omega arith in rw e at (last_more xs (n - 1) d (omega arith))

  set_last : (xs : List X) (n : ℕ) (x : X) → 0 < n → n ≤ length xs → reverse (take n (slice_set xs (n - 1) x)) ≡ x ∷ reverse (take (n - 1) xs)
  set_last xs n x p h = let e : (n - 1) + 1 ≡ n = omega arith in rw e at (put_last xs (n - 1) x (omega arith))

-- jobs
pub jobs_none : (rs : List StackRecord) → jobs_of rs 0 ≡ []
unfolding jobs_of
jobs_none rs = refl

pub jobs_push : (rs : List StackRecord) (n : ℕ) (r : StackRecord) → n < length rs → jobs_of (slice_set rs n r) (n + 1) ≡ job_of r ∷ jobs_of rs n
unfolding jobs_of
jobs_push rs n r h = ap (map job_of) (put_last rs n r h)

pub jobs_top : (rs : List StackRecord) (n : ℕ) → 0 < n → n ≤ length rs → jobs_of rs n ≡ job_of (slice_index_or rs (n - 1) no_record) ∷ jobs_of rs (n - 1)
unfolding jobs_of
jobs_top rs n p h = ap (map job_of) (last_first rs n no_record p h)

pub jobs_more : (rs : List StackRecord) (n : ℕ) → n < length rs → jobs_of rs (n + 1) ≡ job_of (slice_index_or rs n no_record) ∷ jobs_of rs n
unfolding jobs_of
jobs_more rs n h = ap (map job_of) (last_more rs n no_record h)

pub jobs_set : (rs : List StackRecord) (n : ℕ) (r : StackRecord) → 0 < n → n ≤ length rs → jobs_of (slice_set rs (n - 1) r) n ≡ job_of r ∷ jobs_of rs (n - 1)
unfolding jobs_of
jobs_set rs n r p h = ap (map job_of) (set_last rs n r p h)

pub jobs_length : (rs : List StackRecord) (n : ℕ) → n ≤ length rs → length (jobs_of rs n) ≡ n
unfolding jobs_of
jobs_length rs n h = length-map (reverse (take n rs)) job_of ∙ length-reverse (take n rs) ∙ length-take-le n rs h

-- open sections
pub opens_none : (os : List OpenSection) → length os ≡ 0 → opens_of os ≡ []
unfolding opens_of
opens_none [] e = refl
opens_none (o ∷ os) e = absurd (omega arith)

pub opens_push : (os : List OpenSection) (o : OpenSection) → opens_of (os ++ o ∷ []) ≡ open_of o ∷ opens_of os
unfolding opens_of
opens_push os o = ap (map open_of) (reverse-append os (o ∷ []))

pub opens_more : (os : List OpenSection) (n : ℕ) (d : OpenSection) → n < length os → opens_of (take (n + 1) os) ≡ open_of (slice_index_or os n d) ∷ opens_of (take n os)
unfolding opens_of
opens_more os n d h = ap (map open_of) (last_more os n d h)

pub opens_top : (os : List OpenSection) (d : OpenSection) → 0 < length os → opens_of os ≡ open_of (slice_index_or os (length os - 1) d) ∷ opens_of (take (length os - 1) os)
opens_top os d p =
    ap opens_of (sym (take_all ((length os - 1) + 1) os (omega arith))) ∙ opens_more os (length os - 1) d (omega arith)

pub opens_length : (os : List OpenSection) → length (opens_of os) ≡ length os
unfolding opens_of
opens_length os = length-map (reverse os) open_of ∙ length-reverse os

-- whether a section is among the open ones, in either order
module _ (g : Ticket) where
  abbrev pub for_grant : OpenSection → Bool
  for_grant o = opens_for g (open_of o)

  among_map : (os : List OpenSection) → list_any for_grant os ≡ among_open g (map open_of os)
  among_map [] = refl
  among_map (o ∷ os) = let ih = among_map os in grind arith

  pub among_any : (os : List OpenSection) → list_any for_grant os ≡ among_open g (opens_of os)
  unfolding opens_of
  among_any os = list_any-IsPermutation for_grant os (reverse os) (IsPermutation-reverse os) ∙ among_map (reverse os)
