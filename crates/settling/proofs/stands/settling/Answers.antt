use Rattle.settling.proofs.SettleRules.{rules_give_settled, shorter_settles_no_later}
use Rattle.settling.proofs.stands.settling.Goals as goal

pub returns : goal.returns
returns g c =
    let kind = g.T.Time.kind in
    let laws = g.met.T.Time.lawful in
    record { once = rules_give_settled kind laws; shorter = shorter_settles_no_later kind laws g.met.T.Time.longer }
