use Rattle.turns.proofs.Once.{after_once}
use Rattle.turns.proofs.stands.determined.Goals as goal

pub returns : goal.returns
returns g c = after_once
