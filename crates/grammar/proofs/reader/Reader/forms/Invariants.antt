use Rattle.std.proofs.Common.{◌-◌, length}
use Rattle.grammar.specs.Readers.{at}
use Rattle.grammar.specs.Readings.{FormsRead}
use Rattle.grammar.proofs.reader.Reader.forms.Given as goal

-- whole forms are read
abbrev pub invariant-loop-self : goal.invariant-loop-self
invariant-loop-self l = FormsRead (at l.initial.self) (at l.self)

abbrev pub decreases-loop-self : goal.decreases-loop-self
decreases-loop-self l = length l.self.sheet.now - l.self.place
