use Rattle.std.proofs.Common.{sym, ap, arith}
use Rattle.lines.specs.Lines.{inputs}
use Rattle.network.proofs.Pushing.{none_lawful}
use Rattle.network.proofs.draft.Draft.clear.Goals as goal

pub invariant_of-self : goal.invariant_of-self
invariant_of-self c =
    let items = c.clear.ensures.items in
    record {
      room = (omega arith, omega arith);
      sizes = (omega arith, omega arith, omega arith);
      counted = sym (ap inputs items);
      lawful = none_lawful _ items;
    }
