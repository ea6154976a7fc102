use Rattle.std.proofs.Common.{refl}
use Rattle.cells.specs.Deciding.{decide}
use Rattle.settling.specs.Settle.{settled}
use Rattle.settling.specs.Latest.{latest}
use Rattle.search.specs.Search.{last_look, zero_then_one, look, search_from}
use Rattle.figures.proofs.figures_hold.Goals as goal

-- by computing
pub returns : goal.returns
unfolding decide settled latest last_look zero_then_one look search_from
returns c = refl
