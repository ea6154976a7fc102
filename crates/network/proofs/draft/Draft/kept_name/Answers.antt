use Rattle.std.proofs.Common.{Some, ap}
use Rattle.std.proofs.lemmas.Result.{err_from_is_err_and}
use Rattle.network.proofs.Refused.{lawful_then, short_name, label_fine, label_least}
use Rattle.network.proofs.draft.Draft.kept_name.Goals as goal

pub returns-in_err-check_name : goal.returns-in_err-check_name
returns-in_err-check_name c =
    let p = err_from_is_err_and c.from_residual.result c.from_residual.ensures.1 in
    rw (c.in-Some.is, p.1, p.2) (record { checked = label_least _ _ _ c.in_err-check_name.ensures; kept = tt })

pub of-requires : goal.of-requires
of-requires c = short_name _ (lawful_then _ _ c.in_ok-check_name.ensures)

pub returns : goal.returns
returns c = rw c.in-Some.is (record { checked = label_fine _ _ c.in_ok-check_name.ensures; kept = ap Some c.of.ensures })
