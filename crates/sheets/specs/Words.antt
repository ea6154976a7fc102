-- The words of a sheet, in order, each a part of its text with the place where it begins, counted in bytes from 0. Assumes nothing.
--     input_open, line_open    a form's opening bracket, by what it opens
--     cell_open                a cell's opening bracket
--     close                    a closing bracket, of a cell or of a form
use Rattle.std.specs.Prelude.{ℕ, ◌+◌, ◌-◌, List, [], ◌∷◌, ◌++◌, length, codes}
use Rattle.sheets.specs.Sheet.{Pins, Form, cell_text, form_text}

pub data SheetWord : Type 0 where
  input_open : (bytes : List ℕ) (place : ℕ) → SheetWord
  line_open : (bytes : List ℕ) (place : ℕ) → SheetWord
  cell_open : (bytes : List ℕ) (place : ℕ) → SheetWord
  name : (bytes : List ℕ) (place : ℕ) → SheetWord
  cell_word : (bytes : List ℕ) (place : ℕ) → SheetWord
  delay : (bytes : List ℕ) (place : ℕ) → SheetWord
  close : (bytes : List ℕ) (place : ℕ) → SheetWord

abbrev pub opens_cell : ℕ → SheetWord
opens_cell place = SheetWord.cell_open (codes "(") place

abbrev pub closes : ℕ → SheetWord
closes place = SheetWord.close (codes ")") place

-- the words of a cell at its place, round those of its pins; its closing bracket is its last byte
abbrev pub around : ℕ → List ℕ → List ℕ → Pins → List SheetWord → List SheetWord
around at w d ps inner =
    opens_cell at ∷ SheetWord.cell_word w (at + 1) ∷ SheetWord.delay d (at + 1 + length w + 1) ∷ (inner ++ (closes (at + length (cell_text w d ps) - 1) ∷ []))

-- where the pins of a cell begin, with the space before the first
abbrev pub pins_place : ℕ → List ℕ → List ℕ → ℕ
pins_place at w d = at + 1 + length w + 1 + length d

-- the words of pins, from the space before the first on
abbrev pub pins_words : ℕ → Pins → List SheetWord
pins_words at Pins.end = []
pins_words at (Pins.name n next) = SheetWord.name n (at + 1) ∷ pins_words (at + 1 + length n) next
pins_words at (Pins.cell w d qs next) =
    around (at + 1) w d qs (pins_words (pins_place (at + 1) w d) qs) ++ pins_words (at + 1 + length (cell_text w d qs)) next

abbrev pub cell_words : ℕ → List ℕ → List ℕ → Pins → List SheetWord
cell_words at w d ps = around at w d ps (pins_words (pins_place at w d) ps)

-- the words of a form at its place, but for the last
abbrev pub body_words : ℕ → Form → List SheetWord
body_words at (Form.input n d) = SheetWord.input_open (codes "(") at ∷ SheetWord.name n (at + 7) ∷ SheetWord.delay d (at + 7 + length n + 1) ∷ []
body_words at (Form.line n w d ps) = SheetWord.line_open (codes "(") at ∷ SheetWord.name n (at + 6) ∷ cell_words (at + 6 + length n + 1) w d ps

-- a form's closing bracket is its last byte
abbrev pub form_words : ℕ → Form → List SheetWord
form_words at f = body_words at f ++ (closes (at + length (form_text f) - 1) ∷ [])

abbrev pub sheet_words : ℕ → List Form → List SheetWord
sheet_words at [] = []
sheet_words at (f ∷ fs) = form_words at f ++ sheet_words (at + length (form_text f) + 1) fs
