-- What a family assigns. Assumes nothing.
--     table     the outputs of a cell: bit r is the output in row r, and pin i has weight 2 ^ i in the row number
--     tables    the table that a family has for a cell word and a number of pins, or nothing
use Rattle.std.specs.Prelude.{◌≡◌, ℕ, ◌^◌, ◌<◌, ◌≤◌, cond, List, [], ◌∷◌, Some, Option}
use Rattle.lines.specs.Limits.{max_pins}
use Rattle.names.specs.Names.{star}

abbrev pub Tables : Type 0
Tables = List ℕ → ℕ → Option ℕ

-- a table that a family may have for so many pins: 1 to 4 of them, and no bit past the last row
pub record LawfulTable (pins table : ℕ) : Type 0 where
  pub some_pins : 1 ≤ pins
  pub few_pins : pins ≤ max_pins
  pub fits : table < 2 ^ (2 ^ pins)

-- every table that is assigned is one of these
abbrev pub LawfulTables : Tables → Type 0
LawfulTables tables = (word : List ℕ) (pins table : ℕ) → tables word pins ≡ Some table → LawfulTable pins table

-- a word that begins with a star goes to the second without that star, every other word to the first
abbrev pub paired : Tables → Tables → Tables
paired first second [] pins = first [] pins
paired first second (b ∷ bs) pins = cond (star b) (second bs pins) (first (b ∷ bs) pins)
