use Rattle.std.proofs.Common.{◌≡◌, ℕ, ◌<◌, Bool, List, length, get_or, is_some, Option, sym, ap, ◌∙◌, arith}
use Rattle.std.proofs.lemmas.List.{get_or-take, get_or_default}
use Rattle.lines.specs.declared.line.Cell.{Cell}
use Rattle.lines.specs.Lines.{feeder}
use Rattle.cells.specs.Tables.{bit}
use Rattle.settling.specs.declared.latest.Latest.{Latest}
use Rattle.settling.specs.Latest.{latest_at, latest_line, latest_pin, no_latest}
use Rattle.settling.proofs.LatestWrites.{pin_without, row_times_more}
use Rattle.settling.proofs.fed.Fed.row_times.Goals as goal

-- what is read for a pin is its latest time at its value in the row
read : {Time : Type 0} (work : List (Latest Time)) (cell : Cell) (row pin line : ℕ) (other : Latest Time) (value : Bool) (at : Option Time) → feeder cell pin < length work → line ≡ feeder cell pin
    → value ≡ bit row pin → at ≡ latest_at (get_or work line other) value → at ≡ latest_pin (latest_line work) cell row pin
read work cell row pin line other value at inside fed bits told =
    told ∙ ap (λ l. latest_at l value) (ap (λ n. get_or work n other) fed ∙ get_or_default work (feeder cell pin) other no_latest inside) ∙ ap (latest_at (latest_line work (feeder cell pin))) bits

pub returns-in_err-at-clause-every : goal.returns-in_err-at-clause-every
returns-in_err-at-clause-every g c =
    let cell = c.args.self.now.cell in
    let pin = c.loop-pin.pin in
    ap is_some c.from_residual.ensures ∙ pin_without cell.count pin _ (omega arith)
    (ap is_some (sym (read c.args.self.now.work.now cell c.args.row pin _ c.index-self-line.result c.bit_of.result _ (c.args.self.now.lawful.lower pin (omega arith)) (get_or-take cell.count cell.pins pin 0 (omega arith)) c.bit_of.ensures c.in_err-at.ensures)))

pub loop-pin-preserved : goal.loop-pin-preserved
loop-pin-preserved g c =
    let cell = c.args.self.now.cell in
    let pin = c.loop-pin.pin in
    row_times_more g.T.Time.kind.start (latest_pin (latest_line c.args.self.now.work.now) cell c.args.row) pin c.in_ok-at.field-0 c.loop-pin.at c.with-at.result (omega arith)
    (read c.args.self.now.work.now cell c.args.row pin _ c.index-self-line.result c.bit_of.result _ (c.args.self.now.lawful.lower pin (omega arith)) (get_or-take cell.count cell.pins pin 0 (omega arith)) c.bit_of.ensures c.in_ok-at.ensures)
    c.with-at.ensures c.loop-pin.invariant
