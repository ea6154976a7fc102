use Rattle.std.proofs.Common.{sym, ◌∙◌}
use Rattle.std.proofs.lemmas.Result.{err_from_is_err_and}
use Rattle.turns.specs.Refusals.{TieWrong}
use Rattle.turns.proofs.Accepted.{below_or, within_or}
use Rattle.turns.proofs.Refused.{tie_10, tie_11, tie_12, tie_none}
use Rattle.study.specs.Standing.{plain_of}
use Rattle.study.proofs.Places.{some_of, none_of}
use Rattle.study.proofs.Tested.{refused_as}
use Rattle.study.proofs.study.Study.check_tie.Goals as goal

pub returns-in_err-check_line : goal.returns-in_err-check_line
returns-in_err-check_line g c =
    let p = err_from_is_err_and c.from_residual.result c.from_residual.ensures.1 in
    let refused = c.in_err-check_line.ensures in
    refused_as _ _ _ _ _ p.1 p.2 refused.0 (tie_10 _ _ _ refused.1)

pub returns-in_err-check_bit : goal.returns-in_err-check_bit
returns-in_err-check_bit g c =
    let p = err_from_is_err_and c.from_residual-in_err-check_bit.result c.from_residual-in_err-check_bit.ensures.1 in
    let refused = c.in_err-check_bit.ensures in
    refused_as _ _ _ _ _ p.1 p.2 refused.0 (tie_11 _ _ _ (below_or _ _ c.in_ok-check_line.ensures) refused.1)

pub returns-in_err-tie_at : goal.returns-in_err-tie_at
returns-in_err-tie_at g c =
    let p = err_from_is_err_and c.from_residual-in_err-tie_at.result c.from_residual-in_err-tie_at.ensures.1 in
    let refused = c.in_err-tie_at.ensures.cell in
    let present = below_or _ _ c.in_ok-check_line.ensures in
    refused_as _ _ _ _ _ p.1 p.2 refused.0 (tie_12 _ _ _ present (within_or _ _ c.in_ok-check_bit.ensures) (TieWrong.a_cell present refused.1))

pub returns-then-is_some : goal.returns-then-is_some
returns-then-is_some g c =
    let tie = c.in_ok-tie_at.ensures.input in
    let at = some_of _ c.is_some.result c.is_some.ensures c.if-is_some.true in
    tie_12 (plain_of c.args.self.now) c.args.line c.args.value (below_or _ _ c.in_ok-check_line.ensures) (within_or _ _ c.in_ok-check_bit.ensures) (TieWrong.tied_already at.0 (sym tie.1 ∙ at.1))

pub returns : goal.returns
returns g c =
    let tie = c.in_ok-tie_at.ensures.input in
    let untied = none_of _ c.is_some.result c.is_some.ensures c.if-is_some.false in
    tie_none (plain_of c.args.self.now) c.args.line c.args.value (below_or _ _ c.in_ok-check_line.ensures) (within_or _ _ c.in_ok-check_bit.ensures) tie.0 (sym tie.1 ∙ untied)
