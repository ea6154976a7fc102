-- Lines by their numbers, and what every draft, network and study keeps of them. Assumes nothing.
--     line_at lines number     a line
--     feeder cell pin          the line that feeds a pin
--     inputs lines             how many lines are inputs
--     Lawful lines             the inputs precede the cells, each pin is a lower line, each table fits its pins, no delay is above the greatest
use Rattle.std.specs.Prelude.{Bool, List, [], ◌∷◌, ℕ, suc, ◌+◌, ◌^◌, ◌≤◌, ◌<◌, get_or}
use Rattle.lines.specs.declared.line.Cell.{Cell}
use Rattle.lines.specs.declared.line.Driver.{Driver}
use Rattle.lines.specs.declared.line.Driver.TheVariants.{Input, Output}
use Rattle.lines.specs.declared.line.Line.{Line}
use Rattle.lines.specs.Limits.{max_delay, max_pins}

-- what stands in for a line past the last, which no proof rests on
abbrev pub no_line : Line
no_line = record { driver = Input; delay = 0 }

abbrev pub line_at : List Line → ℕ → Line
line_at lines number = get_or lines number no_line

abbrev pub feeder : Cell → ℕ → ℕ
feeder cell pin = get_or cell.pins pin 0

-- 1 of an input, 0 of a cell
abbrev pub input_count : Driver → ℕ
input_count Input = 1
input_count (Output cell) = 0

abbrev pub inputs : List Line → ℕ
inputs [] = 0
inputs (line ∷ lines) = input_count line.driver + inputs lines

-- a cell that drives the line of that number: 1 to 4 pins, no bit of the table past the last row, each pin a lower line
pub record LawfulCell (number : ℕ) (cell : Cell) : Type 0 where
  pub some_pins : 1 ≤ cell.count
  pub few_pins : cell.count ≤ max_pins
  pub table_fits : cell.table < 2 ^ (2 ^ cell.count)
  pub lower : (pin : ℕ) → pin < cell.count → feeder cell pin < number

-- the inputs are the lines below their count, and the cells are the others
abbrev pub LawfulDriver : ℕ → ℕ → Driver → Type 0
LawfulDriver count number Input = number < count
LawfulDriver count number (Output cell) = (count ≤ number) × LawfulCell number cell

pub record LawfulLine (count number : ℕ) (line : Line) : Type 0 where
  pub in_order : LawfulDriver count number line.driver
  pub delay_fits : line.delay ≤ max_delay

-- lines from a number on, of which so many are inputs
abbrev pub LawfulFrom : ℕ → ℕ → List Line → Type 0
LawfulFrom count number [] = Unit {0}
LawfulFrom count number (line ∷ lines) = LawfulLine count number line × LawfulFrom count (suc number) lines

abbrev pub Lawful : List Line → Type 0
Lawful lines = LawfulFrom (inputs lines) 0 lines

-- the delay that passes before the line settles at the value
abbrev pub delay_at : Line → Bool → ℕ
delay_at line value = line.delay
