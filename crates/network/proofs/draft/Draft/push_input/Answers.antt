use Rattle.std.proofs.Common.{[], ◌∷◌, ◌++◌, map, Some, vec_items, ap, ◌∙◌, arith}
use Rattle.std.proofs.lemmas.List.{map_push}
use Rattle.lines.specs.Lines.{inputs}
use Rattle.lines.proofs.Lawfuls.{inputs_push}
use Rattle.network.specs.Sketches.{name_bytes, input_line}
use Rattle.network.proofs.Pushing.{with_input_lawful}
use Rattle.network.proofs.draft.Draft.push_input.Goals as goal

pub invariant_of-self : goal.invariant_of-self
invariant_of-self c =
    let draft = c.args.self.now in
    let items = c.push_reserved.ensures.items in
    let count = ap inputs items ∙ inputs_push (vec_items draft.lines) (input_line c.args.delay) in
    record {
      room = (omega arith, omega arith);
      sizes = (omega arith, omega arith, omega arith);
      counted = omega (arith, count);
      lawful = with_input_lawful (vec_items draft.lines) _ c.args.delay items (omega arith) c.requires.slow draft.lawful;
    }

pub returns : goal.returns
returns c =
    let draft = c.args.self.now in
    let named = ap (map name_bytes) c.push_reserved-2.ensures.items ∙ map_push name_bytes (vec_items draft.names) (Some c.args.name) in
    ap (λ v. record { lines = v; names = map name_bytes (vec_items c.push_reserved-2.new.self) }) c.push_reserved.ensures.items
    ∙ ap (λ v. record { lines = vec_items draft.lines ++ (input_line c.args.delay ∷ []); names = v }) named
