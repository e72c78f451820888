use Rattle.std.proofs.Common.{rules, reverse, take, ap, sym, ◌∙◌, Some}
use Rattle.admission.specs.Sound.{unwound}
use Rattle.admission.specs.Stack.{open_of}
use Rattle.admission.proofs.Stacked.{unwound_none, unwound_at}
use Rattle.admission.proofs.path.Path.unwind.Goals as goal
use Rattle.admission.proofs.path.Path.unwind.Goals.{in-Some+in_ok-rposition-in-Some, in-None}

pub returns-in_err-rposition-in-Some : goal.returns-in_err-rposition-in-Some
returns-in_err-rposition-in-Some c =
    rw c.from_residual.ensures
    (ap (λ a. unwound a (open_of c.args.self.now)) c.in-Some.is
    ∙ unwound_none c.in-Some.number c.args.self.now.opened.items (search rules))

pub returns : goal.returns
returns c =
    let items = c.args.self.now.opened.items in
    elim c.match-around.branch [
      | in-Some+in_ok-rposition-in-Some w ↦
          let i = w.in_ok-rposition-in-Some.field-0 in
          ap (λ a. unwound a (open_of c.args.self.now)) w.in-Some.is
          ∙ unwound_at w.in-Some.number items i (search rules) (search rules) (search rules)
          ∙ ap (λ xs. Some (reverse xs)) (ap (λ n. take n items) (sym w.depth-is) ∙ sym c.truncate.ensures.items)
      | in-None w ↦
          ap (λ a. unwound a (open_of c.args.self.now)) w.in-None.is
          ∙ ap (λ xs. Some (reverse xs)) (ap (λ n. take n items) (sym w.depth-is) ∙ sym c.truncate.ensures.items)
    ]
