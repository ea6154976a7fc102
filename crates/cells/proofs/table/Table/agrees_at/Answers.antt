use Rattle.std.proofs.Common.{◌≡◌, ℕ, Bool, true, false, refl, rules, arith}
use borrow.Author.Tests.{tests}
use mathlib.Core.Bool.{beq}
use Rattle.std.proofs.lemmas.Iterator.{cases_from_all, YieldsList-from_range}
use Rattle.cells.specs.Pins.{at_pin}
use Rattle.cells.specs.Tables.{bit, implies}
use Rattle.cells.proofs.Forcing.{every_walked}
use Rattle.cells.proofs.table.Table.agrees_at.Goals as goal

pub returns : goal.returns
returns c =
    let same : ℕ → Bool = λ pin. implies (at_pin c.args.some pin) (beq (bit c.args.other pin) (bit c.args.row pin)) in
    every_walked c.args.self.pins same c.all.result
    (cases_from_all _ _ _ (λ pin. same pin ≡ true) (λ pin. same pin ≡ false) c.all.ensures.ran (YieldsList-from_range 0 c.args.self.pins c.args.self.pins refl (omega arith)) (λ x q k. search (rules, tests)) (λ x q k. search (rules, tests)))
