use Rattle.std.proofs.Common.{◌≡◌, ◌++◌, take, drop, None}
use Rattle.search.specs.Turns.{next_setting}
use Rattle.search.proofs.walk.pass.Given as goal

-- the inputs from i on are at their end and as tied, those below i are untouched
abbrev pub invariant-loop-i : goal.invariant-loop-i
invariant-loop-i l = (l.setting ≡ take l.i l.initial.setting ++ drop l.i l.ties) × (next_setting (drop l.i l.ties) (drop l.i l.initial.setting) ≡ None)
