use Rattle.std.proofs.Common.{◌≡◌}
use Rattle.settling.specs.Settle.{tied_by}
use Rattle.settling.specs.Latest.{latest, in_setting}
use Rattle.settling.proofs.Buffers.{written}
use Rattle.settling.proofs.tied.Tied.latest_times.Given as goal

-- the lines below the number are written, and further places are as they were
abbrev pub invariant-loop-number : goal.invariant-loop-number
invariant-loop-number g l = l.work ≡ written l.number (latest g.T.Time.kind (tied_by l.self.ties.now) l.self.lines.now (in_setting l.setting)) l.initial.work
