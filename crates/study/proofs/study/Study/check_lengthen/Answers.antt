use Rattle.std.proofs.Common.{arith}
use Rattle.std.proofs.lemmas.Result.{err_from_is_err_and}
use Rattle.turns.proofs.Refused.{lengthen_13, lengthen_none}
use Rattle.study.proofs.study.Study.check_lengthen.Goals as goal

pub returns-in_err-delay_at : goal.returns-in_err-delay_at
returns-in_err-delay_at g c =
    let p = err_from_is_err_and c.from_residual.result c.from_residual.ensures.1 in
    rw (p.1, p.2) c.in_err-delay_at.ensures.1

pub returns-then-branch-delay : goal.returns-then-branch-delay
returns-then-branch-delay g c = let at = c.in_ok-delay_at.ensures in lengthen_13 _ _ _ at.0 at.1 (omega (arith, at.2, c.if-branch-delay.true))

pub returns : goal.returns
returns g c = let at = c.in_ok-delay_at.ensures in lengthen_none _ _ _ at.0 at.1 (omega (arith, at.2, c.if-branch-delay.false))
