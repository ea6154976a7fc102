use Rattle.std.proofs.Common.{ℕ, Bool, Option}
use Rattle.settling.specs.Settle.{tied_by}
use Rattle.settling.specs.Latest.{in_setting}
use Rattle.settling.proofs.LatestAgain.{SoFar}
use Rattle.settling.proofs.tied.Tied.latest_again.Given as goal

-- the lines below the number are up to date
abbrev pub invariant-loop-number : goal.invariant-loop-number
invariant-loop-number g l = (old : ℕ → Option Bool) × SoFar g.T.Time.kind (tied_by l.self.ties.now) l.self.lines.now (in_setting l.setting) old l.upto l.number l.work l.changed
