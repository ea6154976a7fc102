-- What the calls of a draft answer and leave. Assumes nothing.
--     sketch draft, sealed network    the lines and names of either
--     InputAdd, CellAdd               one line more at the end, or the least number that fits and the same draft
use Rattle.std.specs.Prelude.{◌≡◌, ℕ, List, map, length, Some, Ok, Err, vec_items, Option, Result}
use Rattle.families.specs.Tables.{Tables}
use Rattle.network.specs.declared.draft.Draft.{Draft}
use Rattle.network.specs.declared.fault.DraftFault.{DraftFault}
use Rattle.network.specs.declared.network.Network.{Network}
use Rattle.network.specs.Least.{Least, NothingWrong}
use Rattle.network.specs.Refusals.{number, InputWrong, CellWrong}
use Rattle.network.specs.Sketches.{Sketch, name_bytes, with_input, with_cell}

abbrev pub sketch : Draft → Sketch
sketch draft = record { lines = vec_items draft.lines; names = map name_bytes (vec_items draft.names) }

abbrev pub sealed : Network → Sketch
sealed network = record { lines = vec_items network.lines; names = map name_bytes (vec_items network.names) }

pub record InputAdded (before after : Sketch) (name : List ℕ) (delay line : ℕ) : Type 0 where
  pub asked : NothingWrong (InputWrong before name delay)
  pub number : line ≡ length before.lines
  pub sketch : after ≡ with_input before name delay

abbrev pub InputAdd : Draft → Draft → List ℕ → ℕ → Result ℕ DraftFault → Type 0
InputAdd before after name delay (Ok line) = InputAdded (sketch before) (sketch after) name delay line
InputAdd before after name delay (Err fault) = Least (InputWrong (sketch before) name delay) (number fault) × (after ≡ before)

-- the table is what the family assigns
pub record CellAdded (tables : Tables) (before after : Sketch) (name : Option (List ℕ)) (word : List ℕ) (delay : ℕ) (pins : List ℕ) (line : ℕ) : Type 0 where
  pub asked : NothingWrong (CellWrong tables before name word delay pins)
  pub table : ℕ
  pub assigned : tables word (length pins) ≡ Some table
  pub number : line ≡ length before.lines
  pub sketch : after ≡ with_cell before name table delay pins

abbrev pub CellAdd : Tables → Draft → Draft → Option (List ℕ) → List ℕ → ℕ → List ℕ → Result ℕ DraftFault → Type 0
CellAdd tables before after name word delay pins (Ok line) = CellAdded tables (sketch before) (sketch after) name word delay pins line
CellAdd tables before after name word delay pins (Err fault) = Least (CellWrong tables (sketch before) name word delay pins) (number fault) × (after ≡ before)
