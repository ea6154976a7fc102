use Rattle.std.proofs.Common.{◌≡◌, ◌+◌, ◌^◌, ◌<◌, ◌≤◌, cond, add-one, refl, rules, arith, pow_mono}
use borrow.Author.Tests.{tests}
use Rattle.std.proofs.lemmas.Nat.{one_shl}
use Rattle.cells.specs.Pins.{at_pin}
use Rattle.cells.specs.Tables.{row}
use Rattle.cells.proofs.Rows.{row_below}
use Rattle.cells.proofs.Walks.{folded, serves_fold}
use Rattle.cells.proofs.table.Table.row_of.Goals as goal

pub fold-requires-clause-callable : goal.fold-requires-clause-callable
fold-requires-clause-callable c =
    let value = at_pin c.args.values in
    serves_fold _ _ c.args.self.pins (λ pin sofar. sofar ≡ row pin value) (λ i b r q l inv k.
    let w = one_shl i 64 (omega (arith, c.args.self.few)) in
    let told : r ≡ b + cond (value i) (2 ^ i) 0 = search (rules, tests, w) in
    (search rules, simp (add-one, told, inv))) _ _ refl refl (λ i b l inv.
    let w = one_shl i 64 (omega (arith, c.args.self.few)) in
    let low : b < 2 ^ i = rw inv (row_below i value) in
    let near : i ≤ 4 = omega (arith, l, c.args.self.few) in
    let few : 2 ^ i ≤ 2 ^ 4 = pow_mono near in
    let small : b < 16 = omega (arith, low, few) in
    grind (arith, rules, w, low, few, small))

pub returns-clause-row : goal.returns-clause-row
returns-clause-row c =
    let value = at_pin c.args.values in
    folded _ _ c.args.self.pins (λ pin sofar. sofar ≡ row pin value) (λ i b r q l inv k.
    let w = one_shl i 64 (omega (arith, c.args.self.few)) in
    let told : r ≡ b + cond (value i) (2 ^ i) 0 = search (rules, tests, w) in
    (search rules, simp (add-one, told, inv))) _ _ refl refl c.fold.result c.fold.ensures.ran

pub returns-clause-below : goal.returns-clause-below
returns-clause-below c = rw (returns-clause-row c) (row_below c.args.self.pins (at_pin c.args.values))
