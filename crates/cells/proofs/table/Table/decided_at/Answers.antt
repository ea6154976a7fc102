use Rattle.std.proofs.Common.{◌≡◌, add-one, refl, rules}
use Rattle.cells.specs.Deciding.{forcing_time}
use Rattle.cells.specs.Firsts.{first, first_among}
use Rattle.cells.specs.Pins.{at_pin}
use Rattle.cells.proofs.DecidingLaws.{forcing_all}
use Rattle.cells.proofs.Walks.{folded, serves_fold}
use Rattle.cells.proofs.table.Table.decided_at.Goals as goal

pub fold-requires-clause-callable : goal.fold-requires-clause-callable
fold-requires-clause-callable g c =
    serves_fold _ _ c.args.self.pins (λ pin best. best ≡ best) (λ i b r q l inv k. (search rules, refl)) _ _ refl refl (λ i b l inv. search (rules, c.requires.row))

pub returns : goal.returns
returns g c =
    let kind = g.T.Time.kind in
    let table = c.args.self in
    let best = folded _ _ table.pins (λ pin best. best ≡ first_among kind.at_or_before (forcing_time kind table.outputs table.pins c.args.row (at_pin c.args.times)) pin)
    (λ i b r q l inv k.
    let told : r ≡ first kind.at_or_before (forcing_time kind table.outputs table.pins c.args.row (at_pin c.args.times) i) b = search rules in
    (search rules, simp (add-one, told, inv))) _ _ refl refl c.fold.result c.fold.ensures.ran in
    let decided = forcing_all kind g.met.T.Time.lawful table.outputs table.pins c.args.row (at_pin c.args.times) table.pins c.fold.result c.unwrap_or.result
    refl best c.requires.row (cc) in
    record { value = decided.0; decided = decided.1 }
