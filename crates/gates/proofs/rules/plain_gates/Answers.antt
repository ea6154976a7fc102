use Rattle.gates.proofs.GateRules.{plain_gates_settle}
use Rattle.gates.proofs.PlainTables.{plain_outputs, plain_assigns}
use Rattle.gates.proofs.rules.plain_gates.Goals as goal

pub returns : goal.returns
returns g c = record { outputs = plain_outputs; assigns = plain_assigns; settle = plain_gates_settle g.T.Time.kind g.met.T.Time.lawful }
