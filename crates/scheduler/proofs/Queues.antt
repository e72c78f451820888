-- Lists of entries: when an entry is put in, what it leaves of sums and of what holds of each entry, and which tasks are not among them.
use Rattle.std.proofs.Common.{◌≡◌, ℕ, zero, suc, ◌+◌, ◌*◌, ◌<◌, ◌≤◌, Bool, false, ◌≢◌, List, [], ◌∷◌, length, slice_index_or, Some, None, refl, subst, suc-mul, add-one, arith}
use Rattle.std.specs.List.{AllByRecursion}
use Rattle.std.proofs.lemmas.Bool.Decides.{nat_tests}
use Rattle.queue.specs.Order.{Order, insert_sorted}
use Rattle.queue.specs.Meaning.{limit, first_of, rest_of, queued, Distinct, Sound}
use Rattle.queue.specs.Answer.{inserted}
use Rattle.machine.specs.State.{Job}
use Rattle.scheduler.specs.declared.stack.StackRecord.{StackRecord}
use Rattle.scheduler.specs.View.{job_of, jobs_of}
use Rattle.scheduler.specs.Steady.{no_record}
use Rattle.scheduler.specs.Fitted.{sum_of}
use Rattle.scheduler.proofs.Jobs.{jobs_none, jobs_more}

module _ {E : Type 0} where
  -- an entry of a task that is not there finds room
  pub put_in :
      (o : Order E) (room : ℕ) (e : E) (xs : List E) → o.task_of e < limit → queued o.task_of (o.task_of e) xs ≡ false → length xs < room
      → inserted o room e xs ≡ insert_sorted o.before e xs
  put_in o room e xs small absent free = grind (arith, nat_tests)

  -- a task that no entry is of, and the other way round
  pub none_of : (task : E → ℕ) (t : ℕ) (xs : List E) → AllByRecursion (λ x. task x ≢ t) xs → queued task t xs ≡ false
  none_of task t [] a = refl
  none_of task t (x ∷ xs) a = let ih = none_of task t xs a.1 in grind (arith, nat_tests)

  pub not_of : (task : E → ℕ) (t : ℕ) (xs : List E) → queued task t xs ≡ false → AllByRecursion (λ x. task x ≢ t) xs
  not_of task t [] q = tt
  not_of task t (x ∷ xs) q = (grind (arith, nat_tests), not_of task t xs (grind (arith, nat_tests)))

  -- a list with a first entry
  pub first_is : (xs : List E) (e : E) → Some e ≡ first_of xs → xs ≡ e ∷ rest_of xs
  first_is [] e q = grind arith
  first_is (x ∷ xs) e q = grind arith

  pub none_first : (xs : List E) → None ≡ first_of xs → xs ≡ []
  none_first [] q = refl
  none_first (x ∷ xs) q = grind arith

  -- whose task no other entry is of
  pub first_single : (o : Order E) (room : ℕ) (xs : List E) (e : E) → Some e ≡ first_of xs → Sound o room xs → queued o.task_of (o.task_of e) (rest_of xs) ≡ false
  first_single o room xs e q ok = (subst (Distinct o.task_of) (first_is xs e q) ok.distinct).0

  -- sums
  pub sum-insert : (f : E → ℕ) (b : E → E → Bool) (x : E) (xs : List E) → sum_of f (insert_sorted b x xs) ≡ f x + sum_of f xs
  sum-insert f b x [] = refl
  sum-insert f b x (y ∷ ys) = let ih = sum-insert f b x ys in grind arith

  pub sum-most : (f : E → ℕ) (m : ℕ) (xs : List E) → AllByRecursion (λ x. f x ≤ m) xs → sum_of f xs ≤ length xs * m
  sum-most f m [] a = omega arith
  sum-most f m (x ∷ xs) a = let ih = sum-most f m xs a.1 in omega (arith, suc-mul (length xs) m, a.0)

-- what holds of each job of the stack
pub jobs_each : (P : Job → Type 0) (rs : List StackRecord) (n : ℕ) → n ≤ length rs → ((p : ℕ) → p < n → P (job_of (slice_index_or rs p no_record))) → AllByRecursion P (jobs_of rs n)
jobs_each P rs zero le each = rw (jobs_none rs) tt
jobs_each P rs (suc n) le each = rw (← add-one n, jobs_more rs n (omega arith)) (each n (omega arith), jobs_each P rs n (omega arith) (λ p h. each p (omega arith)))
