use Rattle.std.proofs.Common.{◌≡◌, map}
use Rattle.settling.specs.Settle.{settled, settled_value, settled_time, in_vector, tied_by}
use Rattle.settling.proofs.Buffers.{written}
use Rattle.settling.proofs.tied.Tied.settle.Given as goal

-- the lines below the number are written, and further places are as they were
abbrev pub invariant-loop-number : goal.invariant-loop-number
invariant-loop-number g l =
    let all = settled g.T.Time.kind (tied_by l.self.ties.now) l.self.lines.now (in_vector l.vector) in
    (l.values ≡ written l.number (map settled_value all) l.initial.values) × (l.times ≡ written l.number (map settled_time all) l.initial.times)
