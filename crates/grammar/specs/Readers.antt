-- Where a reader of the code stands, and what the public reader answers. Assumes nothing.
use Rattle.std.specs.Prelude.{◌≡◌, ℕ, List, [], ◌∷◌, take, vec_items}
use Rattle.std.specs.Borrow.{Bor}
use Rattle.grammar.specs.declared.reader.Reader.{Reader}
use Rattle.grammar.specs.declared.word.Word.{Word}
use Rattle.grammar.specs.Readings.{At, rest, Took}
use Rattle.grammar.specs.Views.{view, views}

abbrev pub at : Reader → At
at reader = record { text = reader.sheet.now; place = reader.place; words = views (vec_items reader.words) }

-- a word that was made of the next bytes, so many, and kept
pub record WordKept (Made : Bor (List ℕ) → ℕ → Word → Type 0) (len : ℕ) (a b : At) : Type 0 where
  pub part : Bor (List ℕ)
  pub word : Word
  pub is : part.now ≡ take len (rest a)
  pub made : Made part a.place word
  pub took : Took (take len (rest a)) (view word ∷ []) a b
