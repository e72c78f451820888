use Rattle.std.proofs.Common.{rules, ◌≡◌, ℕ, ◌<◌, slice_index_or, replicate, sym, ◌∙◌, arith}
use Rattle.std.proofs.lemmas.List.{ext_get_or}
use Rattle.std.proofs.lemmas.Simd.{get_or-replicate}
use Rattle.table.specs.Limits.{most_tasks}
use Rattle.scheduler.specs.Steady.{no_record}
use Rattle.scheduler.specs.Moves.{job_with}
use Rattle.scheduler.proofs.stack.Inner.new.Goals as goal
use borrow.Author.Tests.{tests}

pub returns : goal.returns
returns c =
    let made = c.from_fn.ensures.items in
    let empty : (p : ℕ) → p < most_tasks → slice_index_or c.from_fn.result p no_record ≡ job_with 0 0 = λ p h. (let call = (made.at p no_record h).2 in search (rules, tests, call)) in
    let stack : c.from_fn.result ≡ replicate most_tasks (job_with 0 0) =
    ext_get_or no_record _ _ made.long (λ p h. empty p (omega (arith, made.long)) ∙ sym (get_or-replicate most_tasks p (job_with 0 0) no_record (omega (arith, made.long)))) in
    search (rules, stack)
