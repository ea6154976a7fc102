use Rattle.std.proofs.Common.{arith}
use Rattle.study.proofs.Places.{open_14, open_none}
use Rattle.study.proofs.opening.check_open.Goals as goal

pub returns-then-ceilings-len : goal.returns-then-ceilings-len
returns-then-ceilings-len g c = open_14 _ _ (omega arith)

pub returns : goal.returns
returns g c = open_none _ _ (omega arith)
