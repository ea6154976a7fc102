use Rattle.std.proofs.Common.{of_calls, rules}
use Rattle.sheets.specs.Sheet.{Delay}
use Rattle.sheets.specs.Recogniser.{Item}
use Rattle.sheets.specs.Words.{SheetWord}
use Rattle.grammar.specs.Readers.{at}
use Rattle.grammar.proofs.Roads.{word_found, word_there}
use Rattle.grammar.proofs.reader.Reader.delay.Goals as goal

pub word-requires : goal.word-requires
word-requires c =
    let there = word_there (at c.args.self.now) _ c.rest.ensures c.args.self.now.within _ Delay Item.delay (λ h. h) c.delay_len.ensures in
    search (rules, of_calls)

pub returns : goal.returns
returns c = word_found _ SheetWord.delay (at c.args.self.now) _ (λ part w made. search rules) _ c.rest.ensures _ Delay Item.delay _ c.args.self.now.within c.delay_len.ensures c.word.ensures
