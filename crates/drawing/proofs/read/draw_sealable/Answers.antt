use Rattle.std.proofs.Common.{sym, ap, ◌∙◌, subst}
use Rattle.network.specs.Drafts.{sketch}
use Rattle.network.specs.Refusals.{Checked, SealWrong}
use Rattle.drawing.specs.Drawing.{then, sealable}
use Rattle.drawing.proofs.Steps.{seal_refused, seal_fine}
use Rattle.drawing.proofs.Turns.{placed_ok, draft_broke}
use Rattle.drawing.proofs.read.draw_sealable.Goals as goal

pub returns-in_err-at : goal.returns-in_err-at
returns-in_err-at g c =
    let s = sketch c.draw_words.new.draft in
    draft_broke c.check_seal.result c.args.end c.in_err-at.field-0.0 c.from_residual-in_err-at.result _ _ (sym c.at.ensures ∙ c.in_err-at.was) c.from_residual-in_err-at.ensures.1
    (λ f e. ap (λ a. then a (sealable c.args.end)) c.in_ok-draw_words.ensures ∙ seal_refused s c.args.end _ (subst (Checked (SealWrong s)) e c.check_seal.ensures).fits)

pub returns : goal.returns
returns g c =
    let s = sketch c.draw_words.new.draft in
    let ok = placed_ok c.check_seal.result c.args.end _ (sym c.at.ensures ∙ c.in_ok-at.was) in
    ap (λ a. then a (sealable c.args.end)) c.in_ok-draw_words.ensures ∙ seal_fine s c.args.end (subst (Checked (SealWrong s)) ok c.check_seal.ensures)
