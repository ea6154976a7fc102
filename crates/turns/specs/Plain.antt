-- The plain study: the lines with their present delays, and the ties. Assumes nothing.
--     opened lines             a study as it is opened: the network's lines, and no tie
--     delayed plain line d     another delay at one line, all other lines as they were
--     tied plain input tie     another tie at one input, or none
--     byte, is_one             a value as the byte 0 or 1, and back
--     written vector buffer    a vector's bytes in the first places of a buffer; further places stay
use Rattle.std.specs.Prelude.{ℕ, Bool, cond, List, ◌++◌, map, length, drop, replicate, None, Option, ◌==◌, slice_set}
use Rattle.lines.specs.declared.line.Line.{Line}
use Rattle.lines.specs.Lines.{line_at, inputs}
use Rattle.search.specs.Search.{Vector, Setting}

-- the ties have a place for each input: its value, or None where it is untied
pub record Plain : Type 0 where
  pub lines : List Line
  pub ties : Setting

abbrev pub opened : List Line → Plain
opened lines = record { lines = lines; ties = replicate (inputs lines) None }

-- the lines with another delay at one of them
abbrev pub with_delay : List Line → ℕ → ℕ → List Line
with_delay lines line delay = slice_set lines line (record { driver = (line_at lines line).driver; delay = delay })

abbrev pub delayed : Plain → ℕ → ℕ → Plain
delayed plain line delay = record { lines = with_delay plain.lines line delay; ties = plain.ties }

abbrev pub tied : Plain → ℕ → Option Bool → Plain
tied plain input tie = record { lines = plain.lines; ties = slice_set plain.ties input tie }

abbrev pub byte : Bool → ℕ
byte value = cond value 1 0

abbrev pub is_one : ℕ → Bool
is_one byte = byte == 1

abbrev pub bytes : Vector → List ℕ
bytes vector = map byte vector

abbrev pub bits : List ℕ → Vector
bits vector = map is_one vector

abbrev pub written : Vector → List ℕ → List ℕ
written vector buffer = bytes vector ++ drop (length vector) buffer
