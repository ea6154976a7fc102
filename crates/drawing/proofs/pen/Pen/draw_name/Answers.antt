use Rattle.std.proofs.Common.{[], sym, ap, ◌∙◌, subst}
use Rattle.names.specs.Kept.{bytes_of}
use Rattle.network.specs.Drafts.{sketch}
use Rattle.network.specs.Refusals.{Checked, NameWrong}
use Rattle.drawing.specs.Drawing.{Answer}
use Rattle.drawing.specs.Pens.{picture}
use Rattle.drawing.proofs.Steps.{name_refused, name_fine}
use Rattle.drawing.proofs.Turns.{placed_ok, draft_broke, form_name}
use Rattle.drawing.proofs.pen.Pen.draw_name.Goals as goal

pub returns-in_err-at : goal.returns-in_err-at
returns-in_err-at c =
    let s = sketch c.args.draft.now in
    let p = picture c.args.self.now s in
    let name = c.args.bytes.now in
    let place = c.args.place in
    draft_broke c.check_name.result place c.in_err-at.field-0.0 c.from_residual.result _ _ (sym c.at.ensures ∙ c.in_err-at.was) c.from_residual.ensures.1
    (λ f e. form_name p name place _ c.if-is_empty.ensures (name_refused s name place _ c.requires.lawful (subst (Checked (NameWrong s name)) e c.check_name.ensures)))

pub returns-then-is_empty : goal.returns-then-is_empty
returns-then-is_empty c =
    let s = sketch c.args.draft.now in
    let p = picture c.args.self.now s in
    let name = c.args.bytes.now in
    let place = c.args.place in
    let none = c.if-is_empty.ensures in
    let ok = placed_ok c.check_name.result place _ (sym c.at.ensures ∙ c.in_ok-at.was) in
    form_name p name place _ none (name_fine s name place (subst (Checked (NameWrong s name)) ok c.check_name.ensures))
    ∙ ap (λ v. Answer.done (record { sketch = s; name = v; open_cells = [] })) (sym c.of-self.ensures)
    ∙ ap (λ v. Answer.done (record { sketch = s; name = bytes_of c.of-self.result; open_cells = v })) (sym none)
