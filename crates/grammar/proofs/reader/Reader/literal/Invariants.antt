use Rattle.std.proofs.Common.{◌≤◌, [], length, take}
use Rattle.grammar.specs.Readers.{at}
use Rattle.grammar.specs.Readings.{Took}
use Rattle.grammar.proofs.reader.Reader.literal.Given as goal

-- the bytes so far are read, and no word is kept
abbrev pub invariant-loop-b : goal.invariant-loop-b
invariant-loop-b l = (l.b-index ≤ length l.bytes) × Took (take l.b-index l.bytes) [] (at l.initial.self) (at l.self)
