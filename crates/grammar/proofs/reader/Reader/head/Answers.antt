use Rattle.std.proofs.Common.{◌≤◌, List, [], ◌∷◌}
use Rattle.std.proofs.lemmas.Result.{MatchResult-weaker}
use Rattle.sheets.specs.Recogniser.{Item, open_brackets}
use Rattle.grammar.specs.Readers.{at}
use Rattle.grammar.specs.Readings.{head_items}
use Rattle.grammar.proofs.Roads.{break_cases, road_none, road_on, road_stop, byte_on, byte_stuck}
use Rattle.grammar.proofs.Cells.{head_read}
use Rattle.grammar.proofs.reader.Reader.head.Goals as goal

abbrev Low : List Item → Type 0
Low s = open_brackets s ≤ 9

pub returns-in_err-cell_word : goal.returns-in_err-cell_word
returns-in_err-cell_word c = break_cases _ _ _ c.in_err-cell_word.field-0.0 c.from_residual.ensures.1 (λ s ok. c.in_err-cell_word.ensures (Item.byte 32 ∷ Item.delay ∷ s) ok)

pub returns-in_err-expect : goal.returns-in_err-expect
returns-in_err-expect c =
    let word = c.in_ok-cell_word.ensures in
    let f = c.in_err-expect.field-0.0 in
    let r1 = road_on (λ s. Item.byte 32 ∷ Item.delay ∷ s) (road_none Low head_items (at c.args.self.now)) word.took (λ s ok. word.moves (Item.byte 32 ∷ Item.delay ∷ s) ok) in
    break_cases _ _ _ f c.from_residual-in_err-expect.ensures.1 (road_stop f r1 (λ s ok. byte_stuck 32 (Item.delay ∷ s) (at c.cell_word.new.self) f ok c.cell_word.new.self.within c.in_err-expect.ensures))

pub returns : goal.returns
returns c =
    let word = c.in_ok-cell_word.ensures in
    let space = c.in_ok-expect.ensures in
    let r1 = road_on (λ s. Item.byte 32 ∷ Item.delay ∷ s) (road_none Low head_items (at c.args.self.now)) word.took (λ s ok. word.moves (Item.byte 32 ∷ Item.delay ∷ s) ok) in
    let r2 = road_on (λ s. Item.delay ∷ s) r1 space (λ s ok. byte_on 32 (Item.delay ∷ s) [] _ _ ok space) in
    MatchResult-weaker c.delay.result c.delay.ensures (λ _ delay. head_read _ _ _ _ word space delay) (λ f n. road_stop f r2 n)
