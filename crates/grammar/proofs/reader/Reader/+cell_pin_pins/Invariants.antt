use Rattle.std.proofs.Common.{◌+◌, ◌*◌}
use Rattle.grammar.proofs.reader.Reader.+cell_pin_pins.Given as goal

-- the room for cells falls from a cell to its pins, and the number of pins to come from pin to pin
abbrev pub decreases-cell : goal.decreases-cell
decreases-cell l = 10 * l.room

abbrev pub decreases-pin : goal.decreases-pin
decreases-pin l = 10 * l.room + 1

abbrev pub decreases-pins : goal.decreases-pins
decreases-pins l = 10 * l.room + 2 + l.more
