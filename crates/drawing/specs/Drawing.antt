-- What the forms of a sheet draw, or the number and the place of their refusal. Assumes nothing.
--     sketch      the lines that are drawn so far, and the names that some of them have
--     place       of a word or a bracket, in bytes from 0
--     answer      a refusal, or what is done where there is none
use Rattle.std.specs.Prelude.{ℕ, ◌+◌, ◌-◌, ◌*◌, cond, ◌&&◌, List, [], ◌∷◌, length, Some, None, codes, Option, ◌==◌, nat_le, nat_lt}
use Rattle.families.specs.Tables.{Tables}
use Rattle.lines.specs.Limits.{max_delay, max_inputs, max_lines}
use Rattle.lines.specs.Lines.{inputs}
use Rattle.network.specs.Sketches.{Sketch, empty, line_named, with_input, with_cell}
use Rattle.sheets.specs.Sheet.{Pins, Form, cell_text, form_text}
use Rattle.sheets.specs.Words.{pins_place}

pub data Answer (X : Type 0) : Type 0 where
  refused : (number place : ℕ) → Answer X
  done : X → Answer X

-- one after the other: the first refusal stands
abbrev pub then : {X Y : Type 0} → Answer X → (X → Answer Y) → Answer Y
then (refused number place) next = refused number place
then (done x) next = next x

-- Places, from that of the form or the cell.

-- a cell's delay, after its bracket, its word and a space
abbrev pub delay_place : ℕ → List ℕ → ℕ
delay_place at word = at + 1 + length word + 1

-- the name of an input form, and its delay
abbrev pub input_name_place : ℕ → ℕ
input_name_place at = at + length (codes "(input ")

abbrev pub input_delay_place : ℕ → List ℕ → ℕ
input_delay_place at name = input_name_place at + length name + 1

-- the name of a line form
abbrev pub line_name_place : ℕ → ℕ
line_name_place at = at + length (codes "(line ")

-- its outer cell
abbrev pub line_cell_place : ℕ → List ℕ → ℕ
line_cell_place at name = line_name_place at + length name + 1

-- the form after this one, on the next line
abbrev pub next_place : ℕ → Form → ℕ
next_place at form = at + length (form_text form) + 1

-- What each word or bracket asks.

-- the number that the digits write, after n; byte 48 is the digit 0
abbrev pub number_from : ℕ → List ℕ → ℕ
number_from n [] = n
number_from n (b ∷ bs) = number_from (n * 10 + (b - 48)) bs

-- the number that a delay writes; 5 at the delay, where it is above the greatest
abbrev pub delay_from : ℕ → List ℕ → Answer ℕ
delay_from place digits = cond (nat_le (number_from 0 digits) max_delay) (done (number_from 0 digits)) (refused 5 place)

-- 2 at the name of a form, where a line has it already
abbrev pub name_free : ℕ → List ℕ → Sketch → Answer (Unit {0})
name_free place name s = elim (line_named 0 name s.names) [ None ↦ done tt | Some line ↦ refused 2 place ]

-- room for one input more: 6, then 8, at its form's bracket
abbrev pub input_room : ℕ → Sketch → Answer (Unit {0})
input_room place s =
    cond (nat_lt (inputs s.lines) max_inputs && nat_lt (length s.lines) max_lines)
    (cond (inputs s.lines == length s.lines) (done tt) (refused 8 place))
    (refused 6 place)

-- a cell whose pins are drawn, with the number of its line: 4, then 6, at its opening bracket
abbrev pub add_cell : Tables → ℕ → Option (List ℕ) → List ℕ → ℕ → List ℕ → Sketch → Answer (Sketch × ℕ)
add_cell family place name word delay pins s =
    elim (family word (length pins)) [
      | None ↦ refused 4 place
      | Some table ↦ cond (nat_lt (length s.lines) max_lines) (done (with_cell s name table delay pins, length s.lines)) (refused 6 place)
    ]

-- Cells and forms.

-- a cell at its place: its delay, then its pins, whose drawing is given, then the cell itself
abbrev pub draw_cell : Tables → ℕ → Option (List ℕ) → List ℕ → List ℕ → Answer (Sketch × List ℕ) → Answer (Sketch × ℕ)
draw_cell family at name word digits drawn_pins =
    then (delay_from (delay_place at word) digits) (λ delay.
    then drawn_pins (λ r. add_cell family at name word delay r.1 r.0))

-- The pins of a cell from left to right, from the space before the first on: what is drawn with them, and their line numbers.
-- A name is that of a line so far: 3 at the name, where there is none. A cell has no name.
abbrev pub draw_pins : Tables → ℕ → Pins → Sketch → Answer (Sketch × List ℕ)
draw_pins family at Pins.end s = done (s, [])
draw_pins family at (Pins.name name next) s =
    elim (line_named 0 name s.names) [
      | None ↦ refused 3 (at + 1)
      | Some line ↦ then (draw_pins family (at + 1 + length name) next s) (λ r. done (r.0, line ∷ r.1))
    ]
draw_pins family at (Pins.cell word delay pins next) s =
    then (draw_cell family (at + 1) None word delay (draw_pins family (pins_place (at + 1) word delay) pins s)) (λ cell.
    then (draw_pins family (at + 1 + length (cell_text word delay pins)) next cell.0) (λ r. done (r.0, cell.1 ∷ r.1)))

-- A form at its place. Its name is free; it is that of the outer cell, and so no line's before the form is drawn.
abbrev pub draw_form : Tables → ℕ → Form → Sketch → Answer Sketch
draw_form family at (Form.input name delay) s =
    then (input_room at s) (λ _.
    then (name_free (input_name_place at) name s) (λ _.
    then (delay_from (input_delay_place at name) delay) (λ d. done (with_input s name d))))
draw_form family at (Form.line name word delay pins) s =
    then (name_free (line_name_place at) name s) (λ _.
    then (draw_cell family (line_cell_place at name) (Some name) word delay (draw_pins family (pins_place (line_cell_place at name) word delay) pins s)) (λ cell.
    done cell.0))

-- 9 at the end of the sheet, where there is no input
abbrev pub sealable : ℕ → Sketch → Answer Sketch
sealable at s = cond (inputs s.lines == 0) (refused 9 at) (done s)

-- the forms from a place on
abbrev pub draw_forms : Tables → ℕ → List Form → Sketch → Answer Sketch
draw_forms family at [] s = sealable at s
draw_forms family at (form ∷ forms) s = then (draw_form family at form s) (λ drawn. draw_forms family (next_place at form) forms drawn)

-- the forms of a sheet, into an empty draft
abbrev pub draw_sheet : Tables → List Form → Answer Sketch
draw_sheet family forms = draw_forms family 0 forms empty
