-- Worked examples as one list: two sheets, when their lines settle, what is found in them. Assumes nothing.
--     sheet_s, sheet_f     two sheets, by their forms
--     Figure               what is told of a sheet, or of a cell
--     right figure         whether it is so, by the definitions of drawing, settling, deciding and searching
use Rattle.std.specs.Prelude.{◌≡◌, ℕ, Bool, true, false, ◌&&◌, List, [], ◌∷◌, replicate, Some, None, codes, Option, ◌==◌, slice_index}
use Rattle.std.specs.Bool.{beq}
use Rattle.times.specs.declared.ticks.Ticks.{Ticks}
use Rattle.times.specs.Kinds.{ticks_kind, staged_kind}
use Rattle.cells.specs.Deciding.{decide}
use Rattle.gates.specs.Gates.{plain_tables}
use Rattle.library.specs.Board.{mux_table}
use Rattle.lines.specs.declared.line.Line.{Line}
use Rattle.lines.specs.Lines.{inputs}
use Rattle.network.specs.Sketches.{Sketch}
use Rattle.sheets.specs.Sheet.{Pins, Form}
use Rattle.drawing.specs.Drawing.{Answer, draw_sheet}
use Rattle.search.specs.Search.{Vector, Setting, Outcome}
use Rattle.seeking.specs.Seeking.{line_settled, seek_search}

-- The sheets.

-- (input a 0), (input b 0), (input c 2), (line x (and 3 a (not 1 b))), (line y (or 2 x c)): y is line 5
abbrev pub sheet_s : List Form
sheet_s =
    Form.input (codes "a") (codes "0")
    ∷ Form.input (codes "b") (codes "0")
    ∷ Form.input (codes "c") (codes "2")
    ∷ Form.line (codes "x") (codes "and") (codes "3") (Pins.name (codes "a") (Pins.cell (codes "not") (codes "1") (Pins.name (codes "b") Pins.end) Pins.end))
    ∷ Form.line (codes "y") (codes "or") (codes "2") (Pins.name (codes "x") (Pins.name (codes "c") Pins.end))
    ∷ []

-- (input a 0), (input b 0), (line p (and 1 a (buf 9 b))), (line q (and 1 (not 1 a) p)): p is line 3 and q line 5
abbrev pub sheet_f : List Form
sheet_f =
    Form.input (codes "a") (codes "0")
    ∷ Form.input (codes "b") (codes "0")
    ∷ Form.line (codes "p") (codes "and") (codes "1") (Pins.name (codes "a") (Pins.cell (codes "buf") (codes "9") (Pins.name (codes "b") Pins.end) Pins.end))
    ∷ Form.line (codes "q") (codes "and") (codes "1") (Pins.cell (codes "not") (codes "1") (Pins.name (codes "a") Pins.end) (Pins.name (codes "p") Pins.end))
    ∷ []

-- the lines that a sheet draws with the plain family
abbrev pub drawn : Answer Sketch → List Line
drawn (Answer.refused number place) = []
drawn (Answer.done s) = s.lines

abbrev pub lines_of : List Form → List Line
lines_of sheet = drawn (draw_sheet plain_tables sheet)

-- no input is tied
abbrev pub untied : List Line → Setting
untied lines = replicate (inputs lines) None

-- What is told.

pub data Figure : Type 0 where
  -- under the vector the line has the value, from so many ticks on
  settles : (sheet : List Form) (line : ℕ) (vector : Vector) (value : Bool) (ticks : ℕ) → Figure
  -- the same in ticks and stages
  settles_staged : (sheet : List Form) (line : ℕ) (vector : Vector) (ticks stages : ℕ) → Figure
  -- a search for the line, the value and the bound finds that vector, or nothing, in so many looks
  seeks : (sheet : List Form) (line : ℕ) (value : Bool) (bound : ℕ) (found : Option Vector) (looks : ℕ) → Figure
  -- the pins of a cell, at those times, decide its output in the row at so many ticks
  decides : (table pins row : ℕ) (times : List ℕ) (ticks : ℕ) → Figure

abbrev ticks : ℕ → Ticks
ticks count = record { ticks = count }

abbrev same_vector : Vector → Vector → Bool
same_vector [] [] = true
same_vector [] (y ∷ ys) = false
same_vector (x ∷ xs) [] = false
same_vector (x ∷ xs) (y ∷ ys) = beq x y && same_vector xs ys

abbrev same_found : Option Vector → Option Vector → Bool
same_found None None = true
same_found None (Some w) = false
same_found (Some v) None = false
same_found (Some v) (Some w) = same_vector v w

abbrev pub right_settle : List Line → ℕ → Vector → Bool → ℕ → Bool
right_settle lines line vector value count =
    beq (line_settled ticks_kind lines (untied lines) line vector).value value && (line_settled ticks_kind lines (untied lines) line vector).time.ticks == count

abbrev pub right_staged : List Line → ℕ → Vector → ℕ → ℕ → Bool
right_staged lines line vector count stages =
    ((line_settled staged_kind lines (untied lines) line vector).time.ticks == count) && (line_settled staged_kind lines (untied lines) line vector).time.stages == stages

abbrev pub right_outcome : Outcome → Option Vector → ℕ → Bool
right_outcome outcome found looks = same_found outcome.found found && outcome.looks == looks

abbrev pub right : Figure → Bool
right (settles sheet line vector value count) = right_settle (lines_of sheet) line vector value count
right (settles_staged sheet line vector count stages) = right_staged (lines_of sheet) line vector count stages
right (seeks sheet line value bound found looks) = right_outcome (seek_search ticks_kind (lines_of sheet) (untied (lines_of sheet)) line value (ticks bound)) found looks
right (decides table pins row times count) = (decide ticks_kind table pins row (λ pin. ticks (slice_index times pin))).ticks == count

abbrev pub all_right : List Figure → Bool
all_right [] = true
all_right (figure ∷ figures) = right figure && all_right figures

-- The list.

abbrev pub figures : List Figure
figures =
    settles sheet_s 5 (false ∷ false ∷ false ∷ []) false 5
    ∷ settles sheet_s 5 (false ∷ false ∷ true ∷ []) true 4
    ∷ settles sheet_s 5 (true ∷ false ∷ false ∷ []) true 6
    ∷ settles sheet_s 5 (true ∷ true ∷ false ∷ []) false 6
    ∷ seeks sheet_s 5 true 6 (Some (true ∷ false ∷ false ∷ [])) 5
    ∷ seeks sheet_s 5 true 7 None 1
    -- q settles at 2 under every vector, though the longest path to it has 11 ticks
    ∷ settles sheet_f 5 (false ∷ false ∷ []) false 2
    ∷ settles sheet_f 5 (false ∷ true ∷ []) false 2
    ∷ settles sheet_f 5 (true ∷ false ∷ []) false 2
    ∷ settles sheet_f 5 (true ∷ true ∷ []) false 2
    ∷ seeks sheet_f 5 false 3 None 3
    ∷ settles_staged sheet_f 3 (true ∷ true ∷ []) 10 3
    -- mux, pins 1 and 2 both 1: in rows 6 and 7 the selector, pin 0, does not matter
    ∷ decides mux_table 3 6 (9 ∷ 2 ∷ 4 ∷ []) 4
    ∷ decides mux_table 3 7 (9 ∷ 2 ∷ 4 ∷ []) 4
    ∷ []

abbrev pub FiguresHold : Type 0
FiguresHold = all_right figures ≡ true
