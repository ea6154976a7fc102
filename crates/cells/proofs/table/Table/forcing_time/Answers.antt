use Rattle.cells.specs.Pins.{at_pin}
use Rattle.cells.proofs.DecidingLaws.{forcing_here}
use Rattle.cells.proofs.table.Table.forcing_time.Goals as goal

pub returns : goal.returns
returns g c =
    forcing_here g.T.Time.kind c.args.self.outputs c.args.self.pins c.args.row (at_pin c.args.times) c.args.pin (at_pin c.settled_at.result) c.is_forced-enough.result c.get-time.result _
    c.get-time.ensures c.settled_at.ensures c.is_forced-enough.ensures c.then_some.ensures
