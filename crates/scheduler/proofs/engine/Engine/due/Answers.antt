use Rattle.std.proofs.Common.{◌≡◌, ℕ, min, Some, None, Option, [], ◌∷◌, refl, ap, ◌∙◌, arith}
use Rattle.std.specs.List.{reduce, filter_map}
use Rattle.machine.specs.State.{sooner}
use Rattle.scheduler.proofs.Ghosts.{high}
use Rattle.scheduler.proofs.Picks.{deadline_over}
use Rattle.scheduler.proofs.engine.Engine.due.Goals as goal

-- the least of three instants that are there
least_of_three : (a b c : Option ℕ) → reduce min (filter_map (λ (i : Option ℕ). i) (a ∷ b ∷ c ∷ [])) ≡ sooner a (sooner b c)
least_of_three None None None = refl
least_of_three None None (Some z) = refl
least_of_three None (Some y) None = refl
least_of_three None (Some y) (Some z) = refl
least_of_three (Some x) None None = refl
least_of_three (Some x) None (Some z) = refl
least_of_three (Some x) (Some y) None = refl
least_of_three (Some x) (Some y) (Some z) = ap Some (let e : min (min x y) z ≡ min x (min y z) = omega arith in e)

pub returns : goal.returns
returns g c =
    let first = rw (← c.self.view_is) at c.first_deadline.ensures in
    let next = rw (← c.self.view_is) at c.first_release.ensures in
    let top = c.deadline.ensures ∙ deadline_over c.self.inside.inner (high c.self.invariant.steady) in
    rw (← c.self.view_is, c.soonest.ensures, least_of_three c.deadline.result c.first_deadline.result c.first_release.result, top, first, next)
