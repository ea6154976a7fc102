use Rattle.std.proofs.Common.{of_calls, rules}
use Rattle.grammar.specs.Readers.{at}
use Rattle.grammar.specs.Views.{opened}
use Rattle.grammar.proofs.Roads.{byte_found, byte_there}
use Rattle.grammar.proofs.reader.Reader.opening.Goals as goal

pub word-requires : goal.word-requires
word-requires c =
    let there = byte_there (at c.args.self.now) _ c.rest.ensures c.args.self.now.within _ 40 c.byte_len.ensures in
    search (rules, of_calls)

pub returns : goal.returns
returns c = byte_found _ (λ part place. opened c.args.opens part place) (at c.args.self.now) _ (λ part w made. search rules) _ c.rest.ensures _ 40 _ c.byte_len.ensures c.word.ensures
