-- The refusals of a draft: their numbers, and which numbers fit a call. Assumes nothing.
--     NameWrong    a name for a line
--     DelayWrong   a delay
--     RoomWrong    one input more
--     InputWrong   adding an input: its name, its delay and the room
--     CellWrong    adding a cell
--     SealWrong    sealing
use Rattle.std.specs.Prelude.{◌≡◌, ℕ, ◌<◌, ◌≤◌, false, List, length, Some, None, Ok, Err, Option, Result, slice_index}
use Rattle.families.specs.Tables.{Tables}
use Rattle.lines.specs.Limits.{max_delay, max_inputs, max_lines}
use Rattle.lines.specs.Lines.{inputs}
use Rattle.names.specs.Names.{lawful_name, lawful_word}
use Rattle.network.specs.declared.fault.DraftFault.{DraftFault}
use Rattle.network.specs.declared.fault.DraftFault.TheVariants.{Unlawful, Taken, NoTable, DelayAbove, Full, InputAfterCell, NoInput, PinNotBelow}
use Rattle.network.specs.Least.{Least, NothingWrong}
use Rattle.network.specs.Sketches.{Sketch, Named}

-- the number of each refusal
abbrev pub number : DraftFault → ℕ
number Unlawful = 1
number Taken = 2
number NoTable = 4
number DelayAbove = 5
number Full = 6
number InputAfterCell = 8
number NoInput = 9
number PinNotBelow = 10

-- what a check answers: nothing is wrong, or the least number that fits
abbrev pub Checked : {X : Type 0} → (ℕ → Type 0) → Result X DraftFault → Type 0
Checked Wrong (Ok _) = NothingWrong Wrong
Checked Wrong (Err fault) = Least Wrong (number fault)

pub data NameWrong (s : Sketch) (name : List ℕ) : ℕ → Type 0 where
  unlawful : lawful_name name ≡ false → NameWrong s name 1
  taken : (line : ℕ) → Named s.names name line → NameWrong s name 2

pub data DelayWrong (delay : ℕ) : ℕ → Type 0 where
  above : max_delay < delay → DelayWrong delay 5

pub data RoomWrong (s : Sketch) : ℕ → Type 0 where
  inputs_full : max_inputs ≤ inputs s.lines → RoomWrong s 6
  lines_full : max_lines ≤ length s.lines → RoomWrong s 6
  after_cell : inputs s.lines < length s.lines → RoomWrong s 8

pub data InputWrong (s : Sketch) (name : List ℕ) (delay : ℕ) : ℕ → Type 0 where
  in_name : {n : ℕ} → NameWrong s name n → InputWrong s name delay n
  in_delay : {n : ℕ} → DelayWrong delay n → InputWrong s name delay n
  in_room : {n : ℕ} → RoomWrong s n → InputWrong s name delay n

-- the name of a line that is given one
abbrev pub LabelWrong : Sketch → Option (List ℕ) → ℕ → Type 0
LabelWrong s name n = (bytes : List ℕ) × (name ≡ Some bytes) × NameWrong s bytes n

pub data CellWrong (tables : Tables) (s : Sketch) (name : Option (List ℕ)) (word : List ℕ) (delay : ℕ) (pins : List ℕ) : ℕ → Type 0 where
  in_name : {n : ℕ} → LabelWrong s name n → CellWrong tables s name word delay pins n
  unlawful_word : lawful_word word ≡ false → CellWrong tables s name word delay pins 1
  no_table : tables word (length pins) ≡ None → CellWrong tables s name word delay pins 4
  in_delay : {n : ℕ} → DelayWrong delay n → CellWrong tables s name word delay pins n
  lines_full : max_lines ≤ length s.lines → CellWrong tables s name word delay pins 6
  not_below : (pin : ℕ) → pin < length pins → length s.lines ≤ slice_index pins pin → CellWrong tables s name word delay pins 10

pub data SealWrong (s : Sketch) : ℕ → Type 0 where
  no_input : inputs s.lines ≡ 0 → SealWrong s 9
