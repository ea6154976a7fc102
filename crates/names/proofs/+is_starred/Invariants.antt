use Rattle.std.proofs.Common.{length}
use Rattle.names.proofs.+is_starred.Given as goal

abbrev pub decreases-is_starred : goal.decreases-is_starred
decreases-is_starred l = length l.s.now
