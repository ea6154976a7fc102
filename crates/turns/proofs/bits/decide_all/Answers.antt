use Rattle.std.proofs.Common.{Some, ◌∙◌, rules}
use Rattle.search.proofs.Mapped.{filled, map_whole}
use Rattle.turns.proofs.bits.decide_all.Goals as goal

pub returns : goal.returns
returns c =
    c.map_into.ensures (λ x. Some x) (λ x y made. search rules) ∙ filled c.args.values.now _ c.args.setting.now c.requires ∙ map_whole c.args.values.now
