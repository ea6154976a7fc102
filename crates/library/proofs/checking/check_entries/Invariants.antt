use Rattle.std.proofs.Common.{ℕ, ◌<◌}
use Rattle.library.specs.Entries.{BadEntry}
use Rattle.library.proofs.checking.check_entries.Given as goal

-- no entry that was passed is bad
abbrev pub invariant-loop-i : goal.invariant-loop-i
invariant-loop-i l = (number : ℕ) → number < l.i → BadEntry l.entries number → ⊥
