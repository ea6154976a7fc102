use Rattle.cells.proofs.DecidingLaws.{decide_decided, decided_unique, decided_earlier, one_output_first}
use Rattle.cells.proofs.decide.deciding.Goals as goal

pub returns : goal.returns
returns g c =
    let kind = g.T.Time.kind in
    let laws = g.met.T.Time.lawful in
    record { decides = decide_decided kind laws; once = decided_unique kind laws; earlier = decided_earlier kind laws; one_output = one_output_first kind laws }
