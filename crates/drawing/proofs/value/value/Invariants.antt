use Rattle.std.proofs.Common.{◌≡◌, ◌≤◌, drop}
use Rattle.drawing.specs.Drawing.{number_from}
use Rattle.drawing.proofs.Values.{roof}
use Rattle.drawing.proofs.value.value.Given as goal

-- with the digits that are left, n writes what all of them write
abbrev pub invariant-loop-digit : goal.invariant-loop-digit
invariant-loop-digit l = (number_from l.n (drop l.digit-index l.digits) ≡ number_from 0 l.digits) × (l.n ≤ roof l.digit-index)
