use Rattle.std.proofs.Common.{false, ◌++◌, length, drop, unwrap_or, ap, ◌∙◌, rules}
use Rattle.turns.specs.Plain.{byte}
use Rattle.turns.proofs.Bytes.{map_byte}
use Rattle.turns.proofs.bits.write_vector.Goals as goal

pub returns : goal.returns
returns c =
    c.map_into.ensures (λ o. byte (unwrap_or o false)) (λ x y made. search rules)
    ∙ ap (λ v. v ++ drop (length c.args.setting.now) c.args.vector.now) (map_byte c.args.setting.now)
