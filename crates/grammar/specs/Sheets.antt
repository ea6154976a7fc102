-- What reading a text answers. Assumes nothing.
use Rattle.std.specs.Prelude.{◌≡◌, ℕ, List, Ok, Err, vec_items, Result}
use Rattle.sheets.specs.Sheet.{Form}
use Rattle.sheets.specs.Verdicts.{Verdict, Judged}
use Rattle.sheets.specs.Words.{SheetWord, sheet_words}
use Rattle.grammar.specs.declared.fault.GrammarFault.{GrammarFault}
use Rattle.grammar.specs.declared.word.Words.{Words}
use Rattle.grammar.specs.Faults.{verdict}
use Rattle.grammar.specs.Views.{views}

abbrev pub words_in : Words → List SheetWord
words_in words = views (vec_items words.list)

-- the text is a sheet, and the words are those of its forms, in order with their places; or it is refused as it is judged
abbrev pub ReadsSheet : List ℕ → Result Words GrammarFault → Type 0
ReadsSheet text (Ok words) = (forms : List Form) × Judged text (Verdict.sheet forms) × (words_in words ≡ sheet_words 0 forms)
ReadsSheet text (Err fault) = Judged text (verdict fault)
