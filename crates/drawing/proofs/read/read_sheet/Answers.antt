use Rattle.std.proofs.Common.{◌≡◌, sym, ap, ◌∙◌, subst, MatchResult}
use Rattle.network.specs.Drafts.{sketch}
use Rattle.network.specs.Sketches.{empty}
use Rattle.sheets.specs.Verdicts.{Verdict}
use Rattle.drawing.specs.Fits.{FitAll}
use Rattle.drawing.specs.Pictures.{blank}
use Rattle.drawing.proofs.OneAnswer.{read_only, sheet_of, grammar_broke, left_err, left_ok, read_drawn}
use Rattle.drawing.proofs.Drawn.{sheet_drawn}
use Rattle.drawing.proofs.Fitting.{fit_sheet}
use Rattle.drawing.proofs.Named.{read_named}
use Rattle.drawing.proofs.read.read_sheet.Goals as goal
use Rattle.drawing.proofs.read.read_sheet.Goals.{then-is_err, else-is_err}

pub returns-in_err-words : goal.returns-in_err-words
returns-in_err-words g c =
    let fam = g.F.Family.assigns c.args.family.now in
    let text = c.args.sheet.now in
    let read = grammar_broke fam text c.from_residual.result c.in_err-words.field-0.0 _ c.from_residual.ensures.1 c.in_err-words.ensures c.clear.ensures in
    record { read = read; only = read_only fam text _ _ read; names = read_named fam text _ _ read }

pub draw_sealable-drawn-requires : goal.draw_sealable-drawn-requires
draw_sealable-drawn-requires g c =
    let fam = g.F.Family.assigns c.args.family.now in
    let all = c.in_ok-words.ensures in
    let of = sheet_of c.args.sheet.now (Verdict.sheet all.0) all.1 in
    record { blank = c.clear.ensures; fit = subst (FitAll fam blank) (sym (c.as_slice.ensures ∙ all.2)) (fit_sheet fam all.0 of.0 of.1) }

pub returns : goal.returns
returns g c =
    let fam = g.F.Family.assigns c.args.family.now in
    let text = c.args.sheet.now in
    let all = c.in_ok-words.ensures in
    let of = sheet_of text (Verdict.sheet all.0) all.1 in
    let drawn = sheet_drawn fam all.0 _ text (c.as_slice.ensures ∙ all.2) of.2 in
    let is = sym c.is_err.ensures.value in
    let left : MatchResult c.draw_sealable-drawn.result (λ _. sketch c.if-is_err.draft ≡ sketch c.draw_sealable-drawn.new.draft) (λ _. sketch c.if-is_err.draft ≡ empty) =
    elim c.if-is_err.branch [
      | then-is_err w ↦ left_err _ _ _ (is ∙ w.if-is_err.true) (ap sketch w.draft-is ∙ w.clear-then-is_err.ensures)
      | else-is_err w ↦ left_ok _ _ _ (is ∙ w.if-is_err.false) (ap sketch w.draft-is)
    ] in
    let read = read_drawn fam text all.0 _ _ _ all.1 (sym c.draw_sealable-drawn.ensures ∙ drawn) left in
    record { read = read; only = read_only fam text _ _ read; names = read_named fam text _ _ read }
