use Rattle.lines.specs.Lines.{inputs}
use Rattle.cells.specs.Pins.{at_pin}
use Rattle.settling.specs.Settle.{in_vector, tied_by, as_settled}
use Rattle.settling.proofs.SettleRules.{row_same}
use Rattle.settling.proofs.SettleWrites.{cell_settles}
use Rattle.settling.proofs.tied.Tied.settle_line.Goals as goal

pub returns-in-Output : goal.returns-in-Output
returns-in-Output g c =
    let kind = g.T.Time.kind in
    let cell = c.in-Output.cell in
    let same = row_same cell.count _ _ c.at_pins.ensures in
    cell_settles kind g.met.T.Time.lawful (tied_by c.args.self.ties.now) (in_vector c.args.vector.now) (inputs c.args.self.lines.now) c.args.number (as_settled kind c.args.values.now c.args.times.now) c.args.line cell
    c.in-Output.is c.requires.driver c.row_of-row.result (at_pin c.at_pins-in-Output.result) c.output-value.result c.decided_at-decided.result c.after.result
    (cc same) (λ pin p. let at = c.at_pins-in-Output.ensures pin p in cc) (cc) (cc) (cc)
