-- When a word can come next: what the grammar and the words before it see to. Assumes nothing.
use Rattle.std.specs.Prelude.{◌≡◌, ℕ, ◌<◌, ◌≤◌, true, List, [], ◌∷◌, length, slice_index}
use Rattle.names.specs.Names.{lawful_name, lawful_word}
use Rattle.families.specs.Tables.{Tables}
use Rattle.lines.specs.Limits.{max_delay, max_pins}
use Rattle.network.specs.Least.{NothingWrong}
use Rattle.network.specs.Refusals.{NameWrong, RoomWrong, LabelWrong}
use Rattle.network.specs.Sketches.{Sketch}
use Rattle.sheets.specs.Sheet.{max_depth, max_digits}
use Rattle.sheets.specs.Words.{SheetWord}
use Rattle.drawing.specs.Drawing.{Answer}
use Rattle.drawing.specs.Pictures.{Opened, Picture, label, draw_word}

-- how many pins the innermost open cell has
abbrev pub inner_pins : List Opened → ℕ
inner_pins [] = 0
inner_pins (c ∷ cs) = length c.pins

-- each of the pins is below the line
abbrev pub Below : ℕ → List ℕ → Type 0
Below line pins = (pin : ℕ) → pin < length pins → slice_index pins pin < line

-- the innermost open cell can be added, but for its table and the room, and the cell around it can have one pin more
abbrev pub Ready : Sketch → List ℕ → List Opened → Type 0
Ready s form [] = Unit {0}
Ready s form (c ∷ cs) =
    (lawful_word c.word ≡ true)
    × (c.delay ≤ max_delay)
    × Below (length s.lines) c.pins
    × NothingWrong (LabelWrong s (label form cs))
    × (inner_pins cs < max_pins)

-- an input can be added, but for its delay, where no cell is open
abbrev pub InputReady : Sketch → List ℕ → List Opened → Type 0
InputReady s form cells = cells ≡ [] → NothingWrong (NameWrong s form) × NothingWrong (RoomWrong s)

abbrev pub Fits : Picture → SheetWord → Type 0
Fits p (SheetWord.input_open bytes place) = Unit {0}
Fits p (SheetWord.line_open bytes place) = Unit {0}
Fits p (SheetWord.cell_open bytes place) = length p.open_cells < max_depth
Fits p (SheetWord.name bytes place) = (lawful_name bytes ≡ true) × (inner_pins p.open_cells < max_pins)
Fits p (SheetWord.cell_word bytes place) = (lawful_word bytes ≡ true) × (0 < length p.open_cells)
Fits p (SheetWord.delay bytes place) = (length bytes ≤ max_digits) × InputReady p.sketch p.name p.open_cells
Fits p (SheetWord.close bytes place) = Ready p.sketch p.name p.open_cells

-- each word fits where the words before it are drawn
abbrev pub FitAll : Tables → Picture → List SheetWord → Type 0
FitAll family p [] = Unit {0}
FitAll family p (w ∷ ws) = Fits p w × ((q : Picture) → draw_word family p w ≡ Answer.done q → FitAll family q ws)
