use Rattle.std.proofs.Common.{◌+◌, ◌*◌, drop, sym, ap, ◌∙◌, arith}
use Rattle.drawing.specs.Drawing.{number_from}
use Rattle.drawing.proofs.Values.{roof_low, roof_on, value_on, value_end}
use Rattle.drawing.proofs.value.value.Goals as goal

pub overflow_mul-n : goal.overflow_mul-n
overflow_mul-n c = let h = roof_low c.loop-digit.digit-index (omega arith) in omega (arith, h)

pub overflow_add-n : goal.overflow_add-n
overflow_add-n c = let h = roof_low c.loop-digit.digit-index (omega arith) in omega (arith, h, c.saturating_sub.type_inv, c.from.ensures)

pub loop-digit-preserved : goal.loop-digit-preserved
loop-digit-preserved c =
    let digits = c.args.digits.now in
    let i = c.loop-digit.digit-index in
    let n = c.loop-digit.n in
    let is = c.from.ensures ∙ c.saturating_sub.ensures in (
      ap (λ v. number_from (n * 10 + v) (drop (i + 1) digits)) is ∙ value_on digits n i c.loop-digit-test.true ∙ c.loop-digit.invariant.0,
      roof_on n i c.from.result c.loop-digit.invariant.1 (omega (arith, c.saturating_sub.type_inv, c.from.ensures)),
    )

pub returns : goal.returns
returns c = sym (value_end c.args.digits.now c.loop-digit.n c.loop-digit.digit-index (omega arith)) ∙ c.loop-digit.invariant.0
