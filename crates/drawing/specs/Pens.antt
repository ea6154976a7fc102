-- The pen's open cells, as a stack. Assumes nothing.
use Rattle.std.specs.Prelude.{List, map, reverse}
use Rattle.names.specs.Kept.{bytes_of}
use Rattle.network.specs.Sketches.{Sketch}
use Rattle.drawing.specs.declared.pen.OpenCell.{OpenCell}
use Rattle.drawing.specs.declared.pen.Pen.{Pen}
use Rattle.drawing.specs.declared.pen.Stack.{Stack}
use Rattle.drawing.specs.Pictures.{Opened, Picture}

abbrev pub opened : OpenCell → Opened
opened c = record { place = c.place; word = bytes_of c.word; delay = c.delay; pins = c.pins.items }

-- the innermost first
abbrev pub open_stack : Stack → List Opened
open_stack stack = map opened (reverse stack.cells.items)

-- the pen beside what the draft holds
abbrev pub picture : Pen → Sketch → Picture
picture pen s = record { sketch = s; name = bytes_of pen.name; open_cells = open_stack pen.stack }
