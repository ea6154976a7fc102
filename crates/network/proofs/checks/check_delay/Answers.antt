use Rattle.std.proofs.Common.{arith}
use Rattle.network.proofs.Refused.{delay_above, delay_fine}
use Rattle.network.proofs.checks.check_delay.Goals as goal

pub returns-then-delay-gt-MAX_DELAY : goal.returns-then-delay-gt-MAX_DELAY
returns-then-delay-gt-MAX_DELAY c = delay_above _ (omega arith)

pub returns : goal.returns
returns c = delay_fine _ (omega arith)
