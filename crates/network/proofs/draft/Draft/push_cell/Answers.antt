use Rattle.std.proofs.Common.{◌≡◌, ℕ, List, [], ◌∷◌, ◌++◌, map, length, vec_items, ap, ◌∙◌, arith}
use Rattle.std.proofs.lemmas.List.{map_push}
use Rattle.lines.specs.declared.line.Driver.TheVariants.{Output}
use Rattle.lines.specs.declared.line.Line.{Line}
use Rattle.lines.specs.Lines.{inputs}
use Rattle.lines.proofs.Lawfuls.{inputs_push}
use Rattle.network.specs.Sketches.{name_bytes, places, cell_line}
use Rattle.network.proofs.Pushing.{with_cell_lawful}
use Rattle.network.proofs.draft.Draft.push_cell.Goals as goal

-- the cell that is put there has its pins in their places
pushed : (lines more : List Line) (table delay : ℕ) (pins all : List ℕ) → more ≡ lines ++ (record { driver = Output (record { table = table; count = length pins; pins = all }); delay = delay } ∷ []) → all ≡ places pins → more ≡ lines ++ (cell_line table delay pins ∷ [])
pushed lines more table delay pins all e p = e ∙ ap (λ v. lines ++ (record { driver = Output (record { table = table; count = length pins; pins = v }); delay = delay } ∷ [])) p

pub invariant_of-self : goal.invariant_of-self
invariant_of-self c =
    let draft = c.args.self.now in
    let items = pushed (vec_items draft.lines) _ c.args.table c.args.delay c.args.pins.now _ c.push_reserved.ensures.items c.placed.ensures in
    let count = ap inputs items ∙ inputs_push (vec_items draft.lines) (cell_line c.args.table c.args.delay c.args.pins.now) in
    record {
      room = (omega arith, omega arith);
      sizes = (omega arith, omega arith, omega arith);
      counted = omega (arith, count);
      lawful = with_cell_lawful (vec_items draft.lines) _ c.args.table c.args.delay c.args.pins.now items c.requires.some c.requires.few (λ pin h. omega (arith, c.requires.lower pin h)) c.requires.fits c.requires.slow draft.lawful;
    }

pub returns : goal.returns
returns c =
    let draft = c.args.self.now in
    let items = pushed (vec_items draft.lines) _ c.args.table c.args.delay c.args.pins.now _ c.push_reserved.ensures.items c.placed.ensures in
    let named = ap (map name_bytes) c.push_reserved-2.ensures.items ∙ map_push name_bytes (vec_items draft.names) c.args.name in
    ap (λ v. record { lines = v; names = map name_bytes (vec_items c.push_reserved-2.new.self) }) items
    ∙ ap (λ v. record { lines = vec_items draft.lines ++ (cell_line c.args.table c.args.delay c.args.pins.now ∷ []); names = v }) named
