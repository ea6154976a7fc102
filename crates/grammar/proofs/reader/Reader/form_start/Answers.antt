use Rattle.std.proofs.Common.{◌≤◌, List, ◌∷◌, arith}
use Rattle.std.proofs.lemmas.Result.{MatchResult-weaker}
use Rattle.sheets.specs.Recogniser.{Item, open_brackets, bytes_then}
use Rattle.grammar.specs.Readers.{at}
use Rattle.grammar.specs.Readings.{start_items}
use Rattle.grammar.proofs.Roads.{break_cases, road_none, road_on, road_stop, byte_on, byte_stuck, literal_on, flat}
use Rattle.grammar.proofs.Forms.{start_read}
use Rattle.grammar.proofs.reader.Reader.form_start.Goals as goal

abbrev Low : List Item → Type 0
Low s = open_brackets s ≤ 9

abbrev named : List Item → List Item
named s = Item.name ∷ Item.byte 32 ∷ s

pub returns-in_err-opening : goal.returns-in_err-opening
returns-in_err-opening c =
    let f = c.in_err-opening.field-0.0 in
    break_cases _ _ _ f c.from_residual.ensures.1 (λ s ok. byte_stuck 40 (bytes_then c.args.word.now (named s)) (at c.args.self.now) f (omega (arith, flat c.args.word.now (named s))) c.args.self.now.within c.in_err-opening.ensures)

pub returns-in_err-literal : goal.returns-in_err-literal
returns-in_err-literal c =
    let f = c.in_err-literal.field-0.0 in
    let word = c.args.word.now in
    let opened = c.in_ok-opening.ensures in
    let r1 = road_on (λ s. bytes_then word (named s)) (road_none Low (start_items word) (at c.args.self.now)) opened (λ s ok. byte_on 40 (bytes_then word (named s)) _ _ _ (omega (arith, flat word (named s))) opened) in
    break_cases _ _ _ f c.from_residual-in_err-literal.ensures.1 (road_stop f r1 (λ s ok. c.in_err-literal.ensures (named s) ok))

pub returns-in_err-name : goal.returns-in_err-name
returns-in_err-name c =
    let f = c.in_err-name.field-0.0 in
    let word = c.args.word.now in
    let opened = c.in_ok-opening.ensures in
    let read = c.in_ok-literal.ensures in
    let r1 = road_on (λ s. bytes_then word (named s)) (road_none Low (start_items word) (at c.args.self.now)) opened (λ s ok. byte_on 40 (bytes_then word (named s)) _ _ _ (omega (arith, flat word (named s))) opened) in
    let r2 = road_on named r1 read (λ s ok. literal_on word (named s) _ _ _ ok read) in
    break_cases _ _ _ f c.from_residual-in_err-name.ensures.1 (road_stop f r2 (λ s ok. c.in_err-name.ensures (Item.byte 32 ∷ s) ok))

pub returns : goal.returns
returns c =
    let word = c.args.word.now in
    let opened = c.in_ok-opening.ensures in
    let read = c.in_ok-literal.ensures in
    let name = c.in_ok-name.ensures in
    let r1 = road_on (λ s. bytes_then word (named s)) (road_none Low (start_items word) (at c.args.self.now)) opened (λ s ok. byte_on 40 (bytes_then word (named s)) _ _ _ (omega (arith, flat word (named s))) opened) in
    let r2 = road_on named r1 read (λ s ok. literal_on word (named s) _ _ _ ok read) in
    let r3 = road_on (λ s. Item.byte 32 ∷ s) r2 name.took (λ s ok. name.moves (Item.byte 32 ∷ s) ok) in
    MatchResult-weaker c.expect.result c.expect.ensures (λ _ space. start_read c.args.opens word _ _ _ _ _ opened read name space) (λ f n. road_stop f r3 (λ s ok. byte_stuck 32 s (at c.name.new.self) f ok c.name.new.self.within n))
