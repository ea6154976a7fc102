use Rattle.std.proofs.Common.{set, ap, ◌∙◌, arith}
use Rattle.lines.specs.Lines.{no_line}
use Rattle.lines.proofs.Lawfuls.{lawful_at, lawful_of}
use Rattle.settling.specs.Settle.{tied_by}
use Rattle.settling.specs.Latest.{in_setting}
use Rattle.settling.proofs.LatestWrites.{latest_more, latest_all}
use Rattle.settling.proofs.tied.Tied.latest_times.Goals as goal

pub line_latest-requires-clause-driver : goal.line_latest-requires-clause-driver
line_latest-requires-clause-driver g c =
    let lines = c.args.self.lines.now in
    (lawful_at lines c.loop-number.number no_line (lawful_of lines c.args.self.lawful) (omega arith)).in_order

pub loop-number-preserved : goal.loop-number-preserved
loop-number-preserved g c =
    let lines = c.args.self.lines.now in
    ap (λ k. set c.loop-number.work k c.line_latest.result) (omega arith)
    ∙ latest_more g.T.Time.kind g.met.T.Time.lawful (tied_by c.args.self.ties.now) lines (in_setting c.args.setting.now) (lawful_of lines c.args.self.lawful) c.loop-number.number c.loop-number.work c.args.work.now c.loop-number.invariant
    (omega arith) (omega arith) c.line_latest.result c.line_latest.ensures

pub returns : goal.returns
returns g c =
    let lines = c.args.self.lines.now in
    let all = latest_all g.T.Time.kind g.met.T.Time.lawful (tied_by c.args.self.ties.now) lines (in_setting c.args.setting.now) (lawful_of lines c.args.self.lawful) c.loop-number.number c.loop-number.work c.args.work.now c.loop-number.invariant (omega arith) in
    record { work = all.0; rules = all.1 }
