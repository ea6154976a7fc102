use Rattle.std.proofs.Common.{arith}
use Rattle.lines.specs.Lines.{no_line}
use Rattle.lines.proofs.Lawfuls.{lawful_at, lawful_of}
use Rattle.settling.specs.Settle.{in_vector, tied_by}
use Rattle.settling.proofs.SettleWrites.{settles_more, settles_all}
use Rattle.settling.proofs.tied.Tied.settle.Goals as goal

pub settle_line-settled-requires-clause-driver : goal.settle_line-settled-requires-clause-driver
settle_line-settled-requires-clause-driver g c =
    let lines = c.args.self.lines.now in
    (lawful_at lines c.loop-number.number no_line (lawful_of lines c.args.self.lawful) (omega arith)).in_order

pub loop-number-preserved : goal.loop-number-preserved
loop-number-preserved g c =
    let lines = c.args.self.lines.now in
    settles_more g.T.Time.kind g.met.T.Time.lawful (tied_by c.args.self.ties.now) lines (in_vector c.args.vector.now) c.loop-number.number
    c.loop-number.values c.args.values.now c.loop-number.times c.args.times.now c.loop-number.invariant.0 c.loop-number.invariant.1
    (lawful_of lines c.args.self.lawful) (omega arith) (omega arith) (omega arith) c.settle_line-settled.result c.settle_line-settled.ensures

pub returns : goal.returns
returns g c =
    let lines = c.args.self.lines.now in
    let all = settles_all g.T.Time.kind g.met.T.Time.lawful (tied_by c.args.self.ties.now) lines (in_vector c.args.vector.now) c.loop-number.number
    c.loop-number.values c.args.values.now c.loop-number.times c.args.times.now c.loop-number.invariant.0 c.loop-number.invariant.1 (lawful_of lines c.args.self.lawful) (omega arith) in
    record { values = all.0; times = all.1; rules = all.2 }
