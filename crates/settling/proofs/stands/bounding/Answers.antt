use Rattle.settling.proofs.Bounds.{latest_bounds, latest_exact, cut_hides_none, uncut_is_found}
use Rattle.settling.proofs.LatestRules.{rules_give_latest}
use Rattle.settling.proofs.stands.bounding.Goals as goal

pub returns : goal.returns
returns g c =
    let kind = g.T.Time.kind in
    let laws = g.met.T.Time.lawful in
    record { once = rules_give_latest kind laws; bounds = latest_bounds kind laws; exact = latest_exact kind laws; cuts = cut_hides_none kind laws; found = uncut_is_found kind laws }
