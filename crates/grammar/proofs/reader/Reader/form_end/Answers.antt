use Rattle.std.proofs.Common.{eqb, ◌∷◌, refl, arith}
use Rattle.std.proofs.lemmas.Result.{MatchResult-weaker}
use Rattle.sheets.specs.Recogniser.{Item, step}
use Rattle.sheets.proofs.Complete.{left}
use Rattle.grammar.specs.Readers.{at}
use Rattle.grammar.specs.Readings.{end_items}
use Rattle.grammar.proofs.Roads.{break_cases, road_none, road_on, road_stop, step_on, byte_stuck, stuck, took_then}
use Rattle.grammar.proofs.Cells.{Fit}
use Rattle.grammar.proofs.reader.Reader.form_end.Goals as goal

pub returns-in_err-close : goal.returns-in_err-close
unfolding step
returns-in_err-close c =
    let f = c.in_err-close.field-0.0 in
    break_cases _ _ _ f c.from_residual.ensures.1 (λ s ok. stuck Item.close 41 (Item.byte 10 ∷ s) (at c.args.self.now) f (λ b e. left (eqb b 41) _ _ e) (omega arith) refl c.args.self.now.within c.in_err-close.ensures)

pub returns : goal.returns
unfolding step
returns c =
    let closed = c.in_ok-close.ensures in
    let r1 = road_on (λ s. Item.byte 10 ∷ s) (road_none (Fit 9) end_items (at c.args.self.now)) closed (λ s ok. step_on (end_items s) (Item.byte 10 ∷ s) 41 _ _ _ (omega arith) refl closed) in
    MatchResult-weaker c.expect.result c.expect.ensures (λ _ fed. took_then closed fed) (λ f n. road_stop f r1 (λ s ok. byte_stuck 10 s (at c.close.new.self) f (omega arith) c.close.new.self.within n))
