use Rattle.std.proofs.Common.{◌≡◌, ◌-◌}
use Rattle.search.specs.Search.{first_vector}
use Rattle.search.specs.Turns.{turns}
use Rattle.search.specs.Turns.Progress.{looking}
use Rattle.seeking.proofs.Looking.{cut_for}
use Rattle.seeking.proofs.aim.Target.look_for.Given as goal

-- so many looks have come to this setting
abbrev pub invariant-looking : goal.invariant-looking
invariant-looking g l = turns (cut_for g.T.Time.kind l.self l.value l.bound) l.self.network.ties.now l.looks (looking l.self.network.ties.now) ≡ looking l.setting

-- the looks that are left
abbrev pub decreases-looking : goal.decreases-looking
decreases-looking g l = (first_vector (cut_for g.T.Time.kind l.self l.value l.bound) l.self.network.ties.now).looks - l.looks
