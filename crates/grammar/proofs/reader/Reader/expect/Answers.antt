use Rattle.std.proofs.Common.{sym, refl, append-nil, arith}
use Rattle.grammar.specs.Readers.{at}
use Rattle.grammar.proofs.Roads.{took_next, next_there}
use Rattle.grammar.proofs.reader.Reader.expect.Goals as goal

pub invariant_of-self : goal.invariant_of-self
invariant_of-self c = record {
  within = next_there c.args.byte (at c.args.self.now) c.if-not-next_is.ensures;
  room = omega (arith, c.args.self.now.room);
}

pub returns : goal.returns
returns c = took_next (at c.args.self.now) _ c.args.byte _ c.if-not-next_is.ensures refl refl (sym (append-nil (at c.args.self.now).words))
