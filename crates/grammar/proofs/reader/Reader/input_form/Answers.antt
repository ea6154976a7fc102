use Rattle.std.proofs.Common.{◌∷◌, arith}
use Rattle.std.proofs.lemmas.Result.{MatchResult-weaker}
use Rattle.sheets.specs.Recogniser.{Item}
use Rattle.grammar.specs.Readers.{at}
use Rattle.grammar.specs.Readings.{end_items, input_items}
use Rattle.grammar.proofs.Roads.{break_cases, road_none, road_on, road_stop}
use Rattle.grammar.proofs.Cells.{Fit}
use Rattle.grammar.proofs.Forms.{input_read}
use Rattle.grammar.proofs.reader.Reader.input_form.Goals as goal

pub returns-in_err-form_start : goal.returns-in_err-form_start
returns-in_err-form_start c =
    break_cases _ _ _ c.in_err-form_start.field-0.0 c.from_residual.ensures.1 (λ s ok. c.in_err-form_start.ensures (Item.delay ∷ end_items s) (omega arith))

pub returns-in_err-delay : goal.returns-in_err-delay
returns-in_err-delay c =
    let f = c.in_err-delay.field-0.0 in
    let start = c.in_ok-form_start.ensures in
    let r1 = road_on (λ s. Item.delay ∷ end_items s) (road_none (Fit 9) input_items (at c.args.self.now)) start.took (λ s ok. start.moves (Item.delay ∷ end_items s) (omega arith)) in
    break_cases _ _ _ f c.from_residual-in_err-delay.ensures.1 (road_stop f r1 (λ s ok. c.in_err-delay.ensures (end_items s) (omega arith)))

pub returns : goal.returns
returns c =
    let start = c.in_ok-form_start.ensures in
    let r1 = road_on (λ s. Item.delay ∷ end_items s) (road_none (Fit 9) input_items (at c.args.self.now)) start.took (λ s ok. start.moves (Item.delay ∷ end_items s) (omega arith)) in
    let digits = c.in_ok-delay.ensures in
    let r2 = road_on end_items r1 digits.took (λ s ok. digits.moves (end_items s) (omega arith)) in
    MatchResult-weaker c.form_end.result c.form_end.ensures (λ _ ended. input_read _ _ _ _ start digits ended) (λ f n. road_stop f r2 n)
