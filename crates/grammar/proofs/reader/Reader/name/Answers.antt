use Rattle.std.proofs.Common.{of_calls, rules}
use Rattle.std.proofs.lemmas.Bool.{false≢true}
use Rattle.sheets.specs.Sheet.{Name}
use Rattle.sheets.specs.Recogniser.{Item}
use Rattle.sheets.specs.Words.{SheetWord}
use Rattle.grammar.specs.Readers.{at}
use Rattle.grammar.proofs.Roads.{word_found, word_there}
use Rattle.grammar.proofs.reader.Reader.name.Goals as goal

pub word-requires : goal.word-requires
word-requires c =
    let there = word_there (at c.args.self.now) _ c.rest.ensures c.args.self.now.within _ Name Item.name false≢true c.name_len.ensures in
    search (rules, of_calls)

pub returns : goal.returns
returns c = word_found _ SheetWord.name (at c.args.self.now) _ (λ part w made. search rules) _ c.rest.ensures _ Name Item.name _ c.args.self.now.within c.name_len.ensures c.word.ensures
