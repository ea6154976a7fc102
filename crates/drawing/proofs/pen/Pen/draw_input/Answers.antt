use Rattle.std.proofs.Common.{sym, ap, ◌∙◌, subst}
use Rattle.network.specs.Drafts.{sketch}
use Rattle.network.specs.Refusals.{Checked, RoomWrong}
use Rattle.drawing.specs.Drawing.{Answer, then}
use Rattle.drawing.specs.Pens.{picture}
use Rattle.drawing.proofs.Steps.{room_refused, room_fine}
use Rattle.drawing.proofs.Turns.{placed_ok, draft_broke}
use Rattle.drawing.proofs.pen.Pen.draw_input.Goals as goal

pub returns-in_err-at : goal.returns-in_err-at
returns-in_err-at c =
    let s = sketch c.args.draft.now in
    let p = picture c.args.self.now s in
    draft_broke c.check_input.result c.args.place c.in_err-at.field-0.0 c.from_residual.result _ _ (sym c.at.ensures ∙ c.in_err-at.was) c.from_residual.ensures.1
    (λ f e. ap (λ a. then a (λ _. Answer.done p)) (room_refused s c.args.place _ (subst (Checked (RoomWrong s)) e c.check_input.ensures)))

pub returns : goal.returns
returns c =
    let s = sketch c.args.draft.now in
    let p = picture c.args.self.now s in
    let ok = placed_ok c.check_input.result c.args.place _ (sym c.at.ensures ∙ c.in_ok-at.was) in
    ap (λ a. then a (λ _. Answer.done p)) (room_fine s c.args.place (subst (Checked (RoomWrong s)) ok c.check_input.ensures))
