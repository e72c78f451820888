use Rattle.std.proofs.Common.{◌≡◌, ◌+◌, List, drop, if◌then◌else◌, Some, None, Option, MatchOption, is_some, ap, ◌∙◌, arith}
use Rattle.admission.specs.declared.path.Opened.{Opened}
use Rattle.admission.specs.Sound.{sections_sound}
use Rattle.admission.specs.Stack.{open_of}
use Rattle.admission.proofs.Runs.{run_more, run_stop}
use Rattle.admission.proofs.check.run_sound.Goals as goal

-- what is open after the next section, if it could be entered
came : (o : Option (Unit {0})) (e : Option (List Opened)) (next : List Opened) → MatchOption o (e ≡ None) (λ _. e ≡ Some next) → e ≡ (if is_some o then Some next else None)
came None e next h = h
came (Some x) e next h = h

pub returns-then-is_none : goal.returns-then-is_none
returns-then-is_none c =
    run_stop c.args.owner c.args.cost (c.args.first + c.loop-i.i) (open_of c.loop-i.path) c.args.sections.now c.loop-i.i _
    c.loop-i-test.true (came c.enter.result _ (open_of c.enter.new.self) c.enter.ensures ∙ ap (λ b. if b then Some (open_of c.enter.new.self) else None) c.if-is_none.ensures)
    ∙ c.loop-i.invariant

pub loop-i-preserved : goal.loop-i-preserved
loop-i-preserved c =
    let next : c.args.first + (c.loop-i.i + 1) ≡ c.args.first + c.loop-i.i + 1 = omega arith in
    ap (λ n. sections_sound c.args.owner c.args.cost n (open_of c.enter.new.self) (drop (c.loop-i.i + 1) c.args.sections.now)) next
    ∙ run_more c.args.owner c.args.cost (c.args.first + c.loop-i.i) (open_of c.loop-i.path) c.args.sections.now c.loop-i.i _
    c.loop-i-test.true (open_of c.enter.new.self) (came c.enter.result _ (open_of c.enter.new.self) c.enter.ensures ∙ ap (λ b. if b then Some (open_of c.enter.new.self) else None) c.if-is_none.ensures)
    ∙ c.loop-i.invariant
