use Rattle.std.proofs.Common.{sym, ◌∙◌}
use Rattle.std.proofs.lemmas.List.{get_or_past}
use Rattle.std.proofs.lemmas.Result.{err_from_is_err_and}
use Rattle.turns.proofs.Accepted.{below_or}
use Rattle.turns.proofs.Refused.{untie_10, untie_12, untie_none}
use Rattle.study.specs.Standing.{plain_of}
use Rattle.study.proofs.Places.{some_of_not, none_of_not}
use Rattle.study.proofs.Tested.{refused_as}
use Rattle.study.proofs.study.Study.check_untie.Goals as goal

pub returns-in_err-check_line : goal.returns-in_err-check_line
returns-in_err-check_line g c =
    let p = err_from_is_err_and c.from_residual.result c.from_residual.ensures.1 in
    let refused = c.in_err-check_line.ensures in
    refused_as _ _ _ _ _ p.1 p.2 refused.0 (untie_10 _ _ refused.1)

pub returns-in_err-tie_at : goal.returns-in_err-tie_at
returns-in_err-tie_at g c =
    let p = err_from_is_err_and c.from_residual-in_err-tie_at.result c.from_residual-in_err-tie_at.ensures.1 in
    let refused = c.in_err-tie_at.ensures.cell in
    refused_as _ _ _ _ _ p.1 p.2 refused.0 (untie_12 _ _ (below_or _ _ c.in_ok-check_line.ensures) (get_or_past _ _ _ refused.1))

pub returns-then-is_none : goal.returns-then-is_none
returns-then-is_none g c =
    let tie = c.in_ok-tie_at.ensures.input in
    let untied = none_of_not _ c.is_none.result c.is_none.ensures c.if-is_none.true in
    untie_12 (plain_of c.args.self.now) c.args.line (below_or _ _ c.in_ok-check_line.ensures) (sym tie.1 ∙ untied)

pub returns : goal.returns
returns g c =
    let tie = c.in_ok-tie_at.ensures.input in
    let at = some_of_not _ c.is_none.result c.is_none.ensures c.if-is_none.false in
    untie_none (plain_of c.args.self.now) c.args.line (below_or _ _ c.in_ok-check_line.ensures) at.0 (sym tie.1 ∙ at.1)
