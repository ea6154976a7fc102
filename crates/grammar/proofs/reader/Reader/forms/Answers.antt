use Rattle.std.proofs.Common.{length, ap, arith}
use Rattle.std.proofs.lemmas.List.{drop_all}
use Rattle.grammar.specs.Readers.{at}
use Rattle.grammar.proofs.Roads.{break_cases}
use Rattle.grammar.proofs.Forms.{forms_none, forms_more, forms_stop, forms_all, form_moves}
use Rattle.grammar.proofs.reader.Reader.forms.Goals as goal

pub loop-self-init : goal.loop-self-init
loop-self-init c = forms_none (at c.args.self)

pub loop-self-preserved : goal.loop-self-preserved
loop-self-preserved c = forms_more (at c.args.self) (at c.loop-self.self) _ c.loop-self.invariant c.in_ok-form.ensures

pub loop-self-smaller : goal.loop-self-smaller
loop-self-smaller c =
    let form = c.in_ok-form.ensures in
    omega (arith, form_moves (at c.loop-self.self) _ form, ap length form.took.same_text, c.form.new.self.within)

pub returns-in_err-form : goal.returns-in_err-form
returns-in_err-form c =
    let f = c.in_err-form.field-0.0 in
    break_cases _ _ _ f c.from_residual.ensures.1 (forms_stop (at c.args.self) (at c.loop-self.self) f c.loop-self.invariant c.in_err-form.ensures)

pub returns : goal.returns
returns c = forms_all (at c.args.self) (at c.loop-self.self) c.loop-self.invariant (drop_all c.loop-self.self.place c.loop-self.self.sheet.now c.loop-self-test.false)
