use Rattle.std.proofs.Common.{length, sym}
use Rattle.std.proofs.lemmas.Bool.{not-false}
use Rattle.settling.specs.Latest.{latest_line}
use Rattle.cells.specs.Pins.{at_pin}
use Rattle.settling.proofs.LatestWrites.{row_works_out}
use Rattle.settling.proofs.fed.Fed.row_latest.Goals as goal

pub returns : goal.returns
returns g c =
    let work = c.args.self.now.work.now in
    let times = c.in_ok-row_times in
    row_works_out g.T.Time.kind g.met.T.Time.lawful (latest_line work) c.args.line c.args.self.now.cell c.args.value c.args.row (length work) c.output.result (at_pin times.field-0) c.decided_at-decided.result c.after.result
    c.args.self.now.lawful c.requires (sym times.ensures.every) times.ensures.times (cc) (not-false _ c.if-output-value.false) (cc) (cc)
