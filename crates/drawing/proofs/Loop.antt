-- One word after another. Assumes nothing.
use Rattle.std.proofs.Common.{◌≡◌, ℕ, ◌+◌, ◌<◌, List, length, get_or, drop, ap, subst}
use Rattle.std.proofs.lemmas.List.{drop_more}
use Rattle.families.specs.Tables.{Tables}
use Rattle.grammar.specs.Views.{view, views}
use Rattle.grammar.specs.declared.word.Word.{Word}
use Rattle.drawing.specs.Drawing.{Answer, then}
use Rattle.drawing.specs.Fits.{Fits, FitAll}
use Rattle.drawing.specs.Pictures.{Picture, draw_word, draw_words}

module _ (family : Tables) (p : Picture) (words : List Word) (i : ℕ) (d : Word) (l : i < length words) where
  pub words_more : draw_words family p (views (drop i words)) ≡ then (draw_word family p (view (get_or words i d))) (λ q. draw_words family q (views (drop (i + 1) words)))
  words_more = ap (λ v. draw_words family p (views v)) (drop_more words i d l)

  pub fits_more : FitAll family p (views (drop i words)) → Fits p (view (get_or words i d)) × ((q : Picture) → draw_word family p (view (get_or words i d)) ≡ Answer.done q → FitAll family q (views (drop (i + 1) words)))
  fits_more fit = subst (λ v. FitAll family p (views v)) (drop_more words i d l) fit
