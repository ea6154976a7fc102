-- The code's words, each by its kind, its bytes and its place. Assumes nothing.
use Rattle.std.specs.Prelude.{ℕ, List, map}
use Rattle.sheets.specs.Words.{SheetWord}
use Rattle.grammar.specs.declared.word.Opening.{Opening}
use Rattle.grammar.specs.declared.word.Opening.TheVariants.{Input, Line, Cell}
use Rattle.grammar.specs.declared.word.Word.{Word}
use Rattle.grammar.specs.declared.word.Word.TheVariants.{Open, Name, CellWord, Delay, Close}

abbrev pub opened : Opening → List ℕ → ℕ → SheetWord
opened Input bytes place = SheetWord.input_open bytes place
opened Line bytes place = SheetWord.line_open bytes place
opened Cell bytes place = SheetWord.cell_open bytes place

abbrev pub view : Word → SheetWord
view (Open opens part place) = opened opens part.now place
view (Name part place) = SheetWord.name part.now place
view (CellWord part place) = SheetWord.cell_word part.now place
view (Delay part place) = SheetWord.delay part.now place
view (Close part place) = SheetWord.close part.now place

abbrev pub views : List Word → List SheetWord
views words = map view words
