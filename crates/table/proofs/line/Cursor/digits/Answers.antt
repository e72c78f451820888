use Rattle.std.proofs.Common.{◌≡◌, ◌+◌, ◌*◌, min, length, drop, ap, ◌∙◌, arith}
use native.Mathlib.Nat.{min_comm}
use Rattle.table.specs.Number.{digit_run, decimal_from}
use Rattle.table.proofs.Values.{run_more, value_more}
use Rattle.table.proofs.line.Cursor.digits.Goals as goal

pub loop-d-preserved : goal.loop-d-preserved
loop-d-preserved c =
    let h = c.in-Some.ensures in
    let more = ap length (run_more c.loop-d.self.line.now c.loop-d.self.place c.in-Some.d h) in
    let is : c.min-value.result ≡ min 1048577 (c.loop-d.value * 10 + c.in-Some.d) = c.min-value.ensures ∙ min_comm _ _ in (
      c.loop-d.invariant.0,
      omega arith,
      omega arith,
      ap (λ x. min 1048577 (decimal_from x (digit_run (drop (c.loop-d.self.place + 1) c.loop-d.self.line.now)))) is
          ∙ value_more c.loop-d.self.line.now c.loop-d.self.place c.in-Some.d c.loop-d.value h ∙ c.loop-d.invariant.3,
    )
