use Rattle.std.proofs.Common.{◌∙◌, rules}
use Rattle.std.proofs.lemmas.Iterator.{YieldsList-from_slice}
use Rattle.std.proofs.lemmas.Iterator.Search.{position_from_yields_List}
use Rattle.std.proofs.lemmas.Iterator.Adapters.{position_from-zero}
use Rattle.network.proofs.Firsts.{has_name, first_from}
use Rattle.network.proofs.naming.find_line.Goals as goal

pub returns : goal.returns
returns c =
    let name = c.args.name.now in
    let names = c.args.names.now in
    position_from_yields_List (has_name name) _ _ _ c.position.ensures.ran (YieldsList-from_slice names cc) (λ x b q k. search rules)
    ∙ position_from-zero (has_name name) names
    ∙ first_from name names 0
