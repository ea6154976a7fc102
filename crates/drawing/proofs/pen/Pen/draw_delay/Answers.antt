use Rattle.std.proofs.Common.{[], sym, ap, ◌∙◌, subst}
use Rattle.names.specs.Kept.{bytes_of}
use Rattle.network.specs.Drafts.{sketch, InputAdd}
use Rattle.network.specs.Least.{NothingWrong}
use Rattle.network.specs.Refusals.{number, Checked, DelayWrong, InputWrong}
use Rattle.network.specs.Sketches.{with_input}
use Rattle.drawing.specs.Drawing.{Answer, number_from}
use Rattle.drawing.specs.Pens.{open_stack, picture}
use Rattle.drawing.specs.Pictures.{inner, with_cells, with_delay, delayed}
use Rattle.drawing.proofs.Steps.{delay_refused, delay_fine, input_refused}
use Rattle.drawing.proofs.Turns.{placed_ok, draft_broke, delay_by, delayed_cell}
use Rattle.drawing.proofs.pen.Pen.draw_delay.Goals as goal

pub returns-in_err-at : goal.returns-in_err-at
returns-in_err-at c =
    let s = sketch c.args.draft.now in
    let digits = c.args.digits.now in
    let none = c.if-is_empty.ensures in
    draft_broke c.add_input.result c.args.place c.in_err-at.field-0.0 c.from_residual.result _ _ (sym c.at.ensures ∙ c.in_err-at.was) c.from_residual.ensures.1
    (λ f e. delay_by (picture c.args.self.now s) digits c.args.place _ (input_refused s (bytes_of c.args.self.now.name) digits c.args.place _ (c.requires.ready none).0 (c.requires.ready none).1
    (subst (λ v. InputWrong s v (number_from 0 digits) (number f)) c.as_bytes.ensures (subst (λ v. InputWrong s c.as_bytes.result.now v (number f)) c.value-delay.ensures (subst (InputAdd c.args.draft.now c.add_input.new.self c.as_bytes.result.now c.value-delay.result) e c.add_input.ensures).0.fits))))

pub returns-then-is_empty : goal.returns-then-is_empty
returns-then-is_empty c =
    let s = sketch c.args.draft.now in
    let p = picture c.args.self.now s in
    let digits = c.args.digits.now in
    let form = bytes_of c.args.self.now.name in
    let none = c.if-is_empty.ensures in
    let ok = placed_ok c.add_input.result c.args.place _ (sym c.at.ensures ∙ c.in_ok-at.was) in
    let added = subst (InputAdd c.args.draft.now c.add_input.new.self c.as_bytes.result.now c.value-delay.result) ok c.add_input.ensures in
    let slow = subst (λ v. NothingWrong (DelayWrong v)) c.value-delay.ensures (λ k w. added.asked k (InputWrong.in_delay w)) in
    let drawn = sym (added.sketch ∙ ap (λ v. with_input s v c.value-delay.result) c.as_bytes.ensures ∙ ap (with_input s form) c.value-delay.ensures) in
    delay_by p digits c.args.place _ (delay_fine digits c.args.place slow)
    ∙ ap (λ v. Answer.done (delayed p v (number_from 0 digits))) none
    ∙ ap (λ v. Answer.done (record { sketch = v; name = form; open_cells = [] })) drawn
    ∙ ap (λ v. Answer.done (record { sketch = sketch c.add_input.new.self; name = form; open_cells = v })) (sym none)

pub returns-in_err-at-2 : goal.returns-in_err-at-2
returns-in_err-at-2 c =
    let digits = c.args.digits.now in
    draft_broke c.check_delay.result c.args.place c.in_err-at-2.field-0.0 c.from_residual-in_err-at-2.result _ _ (sym c.at-2.ensures ∙ c.in_err-at-2.was) c.from_residual-in_err-at-2.ensures.1
    (λ f e. delay_by (picture c.args.self.now (sketch c.args.draft.now)) digits c.args.place _ (delay_refused digits c.args.place _ (subst (λ v. DelayWrong v (number f)) c.value-delay.ensures (subst (Checked (DelayWrong c.value-delay.result)) e c.check_delay.ensures).fits)))

pub returns : goal.returns
returns c =
    let s = sketch c.args.draft.now in
    let p = picture c.args.self.now s in
    let digits = c.args.digits.now in
    let cells = open_stack c.args.self.now.stack in
    let ok = placed_ok c.check_delay.result c.args.place _ (sym c.at-2.ensures ∙ c.in_ok-at-2.was) in
    let slow = subst (λ v. NothingWrong (DelayWrong v)) c.value-delay.ensures (subst (Checked (DelayWrong c.value-delay.result)) ok c.check_delay.ensures) in
    delay_by p digits c.args.place _ (delay_fine digits c.args.place slow)
    ∙ ap Answer.done (delayed_cell p cells (number_from 0 digits) c.if-is_empty.ensures)
    ∙ ap (λ v. Answer.done (with_cells p v)) (sym (c.set_delay.ensures ∙ ap (λ v. inner (with_delay v) cells) c.value-delay.ensures))
