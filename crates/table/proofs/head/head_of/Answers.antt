use Rattle.std.proofs.Common.{◌+◌, ◌≤◌, length, ap, arith}
use Rattle.table.proofs.Values.{behind_bound}
use Rattle.table.proofs.head.head_of.Goals as goal

pub pass-requires : goal.pass-requires
pass-requires c =
    let same = ap length c.at-cursor.ensures.line in
    let n = length c.args.line.now + 4 in
    omega (arith, behind_bound n c.at-cursor.result.place c.at-cursor.result.line.now (omega arith) (omega arith))

pub pass-requires-2 : goal.pass-requires-2
pass-requires-2 c =
    let same = ap length c.at-cursor.ensures.line in
    let same₁ = ap length c.number-deadline.ensures.same in
    let same₂ = ap length c.pass.ensures.same in
    let n = length c.args.line.now + 7 in
    let first : c.number-deadline.new.self.place ≤ length c.args.line.now + 4 =
    omega (arith, behind_bound (length c.args.line.now + 4) c.at-cursor.result.place c.at-cursor.result.line.now (omega arith) (omega arith)) in
    omega (arith, behind_bound n c.pass.new.self.place c.pass.new.self.line.now (omega arith) (omega arith))
