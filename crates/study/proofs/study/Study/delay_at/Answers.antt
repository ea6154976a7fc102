use Rattle.std.proofs.Common.{refl, ap, arith}
use Rattle.std.proofs.lemmas.List.{get_or_read_under}
use Rattle.std.proofs.lemmas.Result.{err_from_is_err_and}
use Rattle.lines.specs.Lines.{no_line}
use Rattle.turns.proofs.Accepted.{below_or}
use Rattle.turns.proofs.Refused.{shorten_5, shorten_10, lengthen_5, lengthen_10}
use Rattle.study.proofs.study.Study.delay_at.Goals as goal

pub returns-then-delay-gt-MAX_DELAY : goal.returns-then-delay-gt-MAX_DELAY
returns-then-delay-gt-MAX_DELAY g c = (shorten_5 _ _ _ (omega arith), lengthen_5 _ _ _ (omega arith))

pub returns-in_err-check_line : goal.returns-in_err-check_line
returns-in_err-check_line g c =
    let p = err_from_is_err_and c.from_residual.result c.from_residual.ensures.1 in
    let refused = c.in_err-check_line.ensures in
    rw (p.1, p.2, refused.0) (shorten_10 _ _ _ (omega arith) refused.1, lengthen_10 _ _ _ (omega arith) refused.1)

pub returns : goal.returns
returns g c =
    let present = below_or _ _ c.in_ok-check_line.ensures in
    (omega arith, present, ap (λ l. l.delay) (get_or_read_under _ _ _ _ no_line c.index.ensures present refl))
