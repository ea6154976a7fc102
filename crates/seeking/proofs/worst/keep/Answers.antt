use Rattle.std.proofs.Common.{false, unwrap_or, ◌∙◌, rules}
use Rattle.search.proofs.Mapped.{filled, map_vector}
use Rattle.seeking.proofs.worst.keep.Goals as goal

pub returns : goal.returns
returns c =
    c.map_into.ensures (λ o. unwrap_or o false) (λ x y made. search rules) ∙ filled c.args.setting.now _ c.args.at.now c.requires ∙ map_vector c.args.setting.now
