use Rattle.std.proofs.Common.{◌≡◌, drop}
use Rattle.network.specs.Drafts.{sketch}
use Rattle.grammar.specs.Views.{views}
use Rattle.drawing.specs.Fits.{FitAll}
use Rattle.drawing.specs.Pens.{picture}
use Rattle.drawing.specs.Pictures.{blank, draw_words}
use Rattle.drawing.proofs.read.draw_words.Given as goal

-- from here the words that are left draw what all of them draw, and they fit
abbrev pub invariant-loop-word : goal.invariant-loop-word
invariant-loop-word g l =
    (draw_words (g.F.Family.assigns l.family) (picture l.pen (sketch l.draft)) (views (drop l.word-index l.words)) ≡ draw_words (g.F.Family.assigns l.family) blank (views l.words))
    × FitAll (g.F.Family.assigns l.family) (picture l.pen (sketch l.draft)) (views (drop l.word-index l.words))
