use Rattle.std.proofs.Common.{of_calls, rules}
use Rattle.sheets.specs.Words.{SheetWord}
use Rattle.grammar.specs.Readers.{at}
use Rattle.grammar.proofs.Roads.{byte_found, byte_there}
use Rattle.grammar.proofs.reader.Reader.close.Goals as goal

pub word-requires : goal.word-requires
word-requires c =
    let there = byte_there (at c.args.self.now) _ c.rest.ensures c.args.self.now.within _ 41 c.byte_len.ensures in
    search (rules, of_calls)

pub returns : goal.returns
returns c = byte_found _ SheetWord.close (at c.args.self.now) _ (λ part w made. search rules) _ c.rest.ensures _ 41 _ c.byte_len.ensures c.word.ensures
