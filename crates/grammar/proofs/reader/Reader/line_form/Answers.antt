use Rattle.std.proofs.Common.{◌∷◌, arith}
use Rattle.std.proofs.lemmas.Result.{MatchResult-weaker}
use Rattle.sheets.specs.Recogniser.{Item}
use Rattle.grammar.specs.Readers.{at}
use Rattle.grammar.specs.Readings.{end_items, line_items}
use Rattle.grammar.proofs.Roads.{break_cases, road_none, road_on, road_stop}
use Rattle.grammar.proofs.Cells.{Fit, cell_on}
use Rattle.grammar.proofs.Forms.{line_read}
use Rattle.grammar.proofs.reader.Reader.line_form.Goals as goal

pub returns-in_err-form_start : goal.returns-in_err-form_start
returns-in_err-form_start c =
    break_cases _ _ _ c.in_err-form_start.field-0.0 c.from_residual.ensures.1 (λ s ok. c.in_err-form_start.ensures (Item.cell ∷ end_items s) (omega arith))

pub returns-in_err-cell : goal.returns-in_err-cell
returns-in_err-cell c =
    let f = c.in_err-cell.field-0.0 in
    let start = c.in_ok-form_start.ensures in
    let r1 = road_on (λ s. Item.cell ∷ end_items s) (road_none (Fit 9) line_items (at c.args.self.now)) start.took (λ s ok. start.moves (Item.cell ∷ end_items s) (omega arith)) in
    break_cases _ _ _ f c.from_residual-in_err-cell.ensures.1 (road_stop f r1 (λ s ok. c.in_err-cell.ensures (end_items s) (omega arith)))

pub returns : goal.returns
returns c =
    let start = c.in_ok-form_start.ensures in
    let r1 = road_on (λ s. Item.cell ∷ end_items s) (road_none (Fit 9) line_items (at c.args.self.now)) start.took (λ s ok. start.moves (Item.cell ∷ end_items s) (omega arith)) in
    let cell = c.in_ok-cell.ensures in
    let r2 = road_on end_items r1 cell.took (λ s ok. cell_on 8 (end_items s) _ _ (omega arith) cell) in
    MatchResult-weaker c.form_end.result c.form_end.ensures (λ _ ended. line_read _ _ _ _ start cell ended) (λ f n. road_stop f r2 n)
