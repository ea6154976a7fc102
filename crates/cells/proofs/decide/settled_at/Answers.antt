use Rattle.std.proofs.Common.{rules}
use Rattle.cells.proofs.decide.settled_at.Goals as goal

pub returns : goal.returns
returns g c = c.map.ensures (λ time. g.T.Time.kind.at_or_before time c.args.at) (λ x y k. search rules)
