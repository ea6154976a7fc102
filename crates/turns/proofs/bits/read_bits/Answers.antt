use Rattle.std.proofs.Common.{◌∙◌, rules}
use Rattle.search.proofs.Mapped.{filled}
use Rattle.turns.specs.Plain.{is_one}
use Rattle.turns.proofs.bits.read_bits.Goals as goal

pub returns : goal.returns
returns c = c.map_into.ensures is_one (λ x y made. search rules) ∙ filled c.args.vector.now _ c.args.values.now c.requires
