use Rattle.std.proofs.Common.{map, ap, ◌∙◌}
use Rattle.network.specs.Sketches.{name_bytes, line_named}
use Rattle.network.proofs.Firsts.{first_named}
use Rattle.network.proofs.draft.Draft.line_named.Goals as goal

pub returns : goal.returns
returns c =
    let value = c.find_line.ensures ∙ ap (λ v. line_named 0 c.args.name.now (map name_bytes v)) c.deref.ensures.value in
    record { value = value; first = first_named _ _ _ value }
