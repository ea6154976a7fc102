use Rattle.std.proofs.Common.{◌+◌, drop, sym, ap, ◌∙◌, arith}
use Rattle.std.proofs.lemmas.List.{drop_all}
use Rattle.network.specs.Drafts.{sketch}
use Rattle.grammar.specs.Views.{views}
use Rattle.drawing.specs.Drawing.{Answer, then}
use Rattle.drawing.specs.Pens.{picture}
use Rattle.drawing.specs.Pictures.{Picture, draw_words}
use Rattle.drawing.proofs.Loop.{words_more, fits_more}
use Rattle.drawing.proofs.Turns.{sheet_broke}
use Rattle.drawing.proofs.read.draw_words.Goals as goal

pub draw_word-requires : goal.draw_word-requires
draw_word-requires g c =
    let fam = g.F.Family.assigns c.args.family.now in
    (fits_more fam (picture c.loop-word.pen (sketch c.loop-word.draft)) c.args.words.now c.loop-word.word-index _ c.loop-word-test.true c.loop-word.invariant.1).0

pub loop-word-preserved : goal.loop-word-preserved
loop-word-preserved g c =
    let fam = g.F.Family.assigns c.args.family.now in
    let words = c.args.words.now in
    let i = c.loop-word.word-index in
    let p = picture c.loop-word.pen (sketch c.loop-word.draft) in
    let drawn = c.in_ok-draw_word.ensures in (
      sym (words_more fam p words i _ c.loop-word-test.true ∙ ap (λ a. then a (λ q. draw_words fam q (views (drop (i + 1) words)))) drawn) ∙ c.loop-word.invariant.0,
      (fits_more fam p words i _ c.loop-word-test.true c.loop-word.invariant.1).1 _ drawn,
    )

pub returns-in_err-draw_word : goal.returns-in_err-draw_word
returns-in_err-draw_word g c =
    let fam = g.F.Family.assigns c.args.family.now in
    let words = c.args.words.now in
    let i = c.loop-word.word-index in
    let p = picture c.loop-word.pen (sketch c.loop-word.draft) in
    let refused = c.in_err-draw_word.ensures in
    let all = sym c.loop-word.invariant.0 ∙ words_more fam p words i _ c.loop-word-test.true ∙ ap (λ a. then a (λ q. draw_words fam q (views (drop (i + 1) words)))) refused in
    sheet_broke c.from_residual.result c.in_err-draw_word.field-0.0 _ _ c.from_residual.ensures.1 (ap (λ a. then a (λ (q : Picture). Answer.done q.sketch)) all)

pub returns : goal.returns
returns g c =
    let fam = g.F.Family.assigns c.args.family.now in
    let p = picture c.loop-word.pen (sketch c.loop-word.draft) in
    let end = drop_all c.loop-word.word-index c.args.words.now (omega arith) in
    ap (λ a. then a (λ (q : Picture). Answer.done q.sketch)) (sym c.loop-word.invariant.0 ∙ ap (λ v. draw_words fam p (views v)) end)
