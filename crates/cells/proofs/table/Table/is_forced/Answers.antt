use Rattle.std.proofs.Common.{◌≡◌, ℕ, ◌^◌, ◌<◌, Bool, true, false, ap, rules, arith}
use borrow.Author.Tests.{tests}
use mathlib.Core.Bool.{beq}
use Rattle.std.proofs.lemmas.Nat.{one_shl}
use Rattle.std.proofs.lemmas.Iterator.{cases_from_all, YieldsList-from_range, serves_from_Range}
use Rattle.cells.specs.Pins.{at_pin}
use Rattle.cells.specs.Tables.{bit, agrees, implies}
use Rattle.cells.proofs.Forcing.{every_walked, forces_decides}
use Rattle.cells.proofs.table.Table.is_forced.Goals as goal

pub all-requires-clause-callable : goal.all-requires-clause-callable
all-requires-clause-callable c =
    let rows = one_shl c.args.self.pins 64 (omega arith) in
    serves_from_Range (λ other f k. search rules) (λ other from below.
    let o : other < 2 ^ c.args.self.pins = omega (arith, rows) in
    search (rules, o))

pub returns : goal.returns
returns c =
    let table = c.args.self in
    let some : ℕ → Bool = at_pin c.args.some in
    let same : ℕ → Bool = λ other. implies (agrees some table.pins c.args.row other) (beq (bit table.outputs other) (bit table.outputs c.args.row)) in
    let rows = 2 ^ table.pins in
    forces_decides c.all.result some table.outputs table.pins c.args.row
    (every_walked rows same c.all.result
    (cases_from_all _ _ _ (λ other. same other ≡ true) (λ other. same other ≡ false) c.all.ensures.ran (YieldsList-from_range 0 rows rows (ap (λ (n : ℕ). record { start = 0; end = n }) (one_shl table.pins 64 (omega arith))) (omega arith)) (λ x q k. search (rules, tests)) (λ x q k. search (rules, tests))))
