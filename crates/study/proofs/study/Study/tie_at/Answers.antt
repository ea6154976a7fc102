use Rattle.std.proofs.Common.{None, sym, refl, arith}
use Rattle.std.proofs.lemmas.List.{get_or-take}
use Rattle.study.proofs.Places.{ties_long}
use Rattle.study.proofs.study.Study.tie_at.Goals as goal

pub returns-then-line-self : goal.returns-then-line-self
returns-then-line-self g c = record { input = tt; cell = (refl, omega (arith, ties_long c.args.self.now)) }

pub returns : goal.returns
returns g c =
    let study = c.args.self.now in
    record {
      input = (omega (arith, ties_long study), sym (get_or-take study.inputs study.ties c.args.line None (omega arith)));
      cell = tt;
    }
