use Rattle.std.proofs.Common.{sym, ap, arith}
use Rattle.lines.specs.Lines.{inputs}
use Rattle.network.proofs.Pushing.{none_lawful}
use Rattle.network.proofs.draft.Draft.new.Goals as goal

pub invariant_of-result : goal.invariant_of-result
invariant_of-result c =
    let lines = c.in_ok-lines.ensures in
    let names = c.in_ok-names.ensures in
    record {
      room = (omega arith, omega arith);
      sizes = (omega arith, omega arith, omega arith);
      counted = sym (ap inputs lines.items);
      lawful = none_lawful _ lines.items;
    }
