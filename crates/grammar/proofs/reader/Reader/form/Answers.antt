use Rattle.std.proofs.Common.{rules}
use Rattle.std.proofs.lemmas.Result.{MatchResult-weaker}
use Rattle.grammar.specs.Readers.{at}
use Rattle.grammar.proofs.Forms.{second_there, second_other, line_stops, input_stops}
use Rattle.grammar.proofs.reader.Reader.form.Goals as goal

pub returns-in-108 : goal.returns-in-108
returns-in-108 c =
    let second = second_there 108 (at c.args.self.now) c.rest.result.now c.rest.ensures c.in-108.len_at_least (search rules) in
    MatchResult-weaker c.line_form.result c.line_form.ensures (λ _ m. m) (λ f n. line_stops (at c.args.self.now) f second n)

pub returns-in_default : goal.returns-in_default
returns-in_default c =
    let second = second_other 108 (at c.args.self.now) c.rest.result.now c.rest.ensures (λ l h. search rules) in
    MatchResult-weaker c.input_form.result c.input_form.ensures (λ _ m. m) (λ f n. input_stops (at c.args.self.now) f c.requires second n)
