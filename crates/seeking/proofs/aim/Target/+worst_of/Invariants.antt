use Rattle.search.specs.Search.{undecided}
use Rattle.seeking.proofs.aim.Target.+worst_of.Given as goal

-- the inputs that are left
abbrev pub decreases-worst_of : goal.decreases-worst_of
decreases-worst_of g l = undecided l.setting.now
