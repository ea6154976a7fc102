-- The drawing of a sheet word by word, as the loop does it. Assumes nothing.
--     picture      what is drawn so far, and what is still open
use Rattle.std.specs.Prelude.{ℕ, List, [], ◌∷◌, ◌++◌, Some, None, Option}
use Rattle.families.specs.Tables.{Tables}
use Rattle.network.specs.Sketches.{Sketch, empty, line_named, with_input}
use Rattle.sheets.specs.Words.{SheetWord}
use Rattle.drawing.specs.Drawing.{Answer, then, input_room, name_free, delay_from, add_cell}

-- a cell whose closing bracket is still to come
pub record Opened : Type 0 where
  pub place : ℕ
  pub word : List ℕ
  pub delay : ℕ
  pub pins : List ℕ

-- what is drawn so far, the name of the form, and the open cells, the innermost first
pub record Picture : Type 0 where
  pub sketch : Sketch
  pub name : List ℕ
  pub open_cells : List Opened

-- a cell of which only the opening bracket was drawn
abbrev pub just_open : ℕ → Opened
just_open place = record { place = place; word = []; delay = 0; pins = [] }

abbrev pub with_pins : List ℕ → Opened → Opened
with_pins lines c = record { place = c.place; word = c.word; delay = c.delay; pins = c.pins ++ lines }

abbrev pub with_word : List ℕ → Opened → Opened
with_word word c = record { place = c.place; word = word; delay = c.delay; pins = c.pins }

abbrev pub with_delay : ℕ → Opened → Opened
with_delay delay c = record { place = c.place; word = c.word; delay = delay; pins = c.pins }

-- the innermost open cell changed
abbrev pub inner : (Opened → Opened) → List Opened → List Opened
inner change [] = []
inner change (c ∷ cs) = change c ∷ cs

-- with one pin more
abbrev pub inner_pin : ℕ → List Opened → List Opened
inner_pin line cells = inner (with_pins (line ∷ [])) cells

-- the same picture with other open cells
abbrev pub with_cells : Picture → List Opened → Picture
with_cells p cells = record { sketch = p.sketch; name = p.name; open_cells = cells }

-- an input form opens, where there is room for it
abbrev pub draw_input : Picture → ℕ → Answer Picture
draw_input p place = then (input_room place p.sketch) (λ _. Answer.done p)

-- between cells a name is the form's, which no line has; in a cell it is a pin
abbrev pub draw_name : Picture → List ℕ → ℕ → Answer Picture
draw_name p name place =
    elim p.open_cells [
      | [] ↦ then (name_free place name p.sketch) (λ _. Answer.done (record { sketch = p.sketch; name = name; open_cells = [] }))
      | c ∷ cs ↦ elim (line_named 0 name p.sketch.names) [
        | None ↦ Answer.refused 3 place
        | Some line ↦ Answer.done (with_cells p (with_pins (line ∷ []) c ∷ cs))
      ]
    ]

-- what a delay changes: between cells it ends an input form
abbrev pub delayed : Picture → List Opened → ℕ → Picture
delayed p [] delay = record { sketch = with_input p.sketch p.name delay; name = p.name; open_cells = [] }
delayed p (c ∷ cs) delay = with_cells p (with_delay delay c ∷ cs)

abbrev pub draw_delay : Picture → List ℕ → ℕ → Answer Picture
draw_delay p digits place = then (delay_from place digits) (λ delay. Answer.done (delayed p p.open_cells delay))

-- the name of a cell, by the cells around it: the form's where there is none
abbrev pub label : List ℕ → List Opened → Option (List ℕ)
label form [] = Some form
label form (c ∷ cs) = None

-- a closing bracket adds the innermost open cell, whose line is a pin of the cell around it, if there is one; where none is open it ends a form
abbrev pub draw_close : Tables → Picture → List Opened → Answer Picture
draw_close family p [] = Answer.done p
draw_close family p (c ∷ cs) =
    then (add_cell family c.place (label p.name cs) c.word c.delay c.pins p.sketch) (λ cell.
    Answer.done (record { sketch = cell.0; name = p.name; open_cells = inner_pin cell.1 cs }))

abbrev pub draw_word : Tables → Picture → SheetWord → Answer Picture
draw_word family p (SheetWord.input_open bytes place) = draw_input p place
draw_word family p (SheetWord.line_open bytes place) = Answer.done p
draw_word family p (SheetWord.cell_open bytes place) = Answer.done (with_cells p (just_open place ∷ p.open_cells))
draw_word family p (SheetWord.name bytes place) = draw_name p bytes place
draw_word family p (SheetWord.cell_word bytes place) = Answer.done (with_cells p (inner (with_word bytes) p.open_cells))
draw_word family p (SheetWord.delay bytes place) = draw_delay p bytes place
draw_word family p (SheetWord.close bytes place) = draw_close family p p.open_cells

abbrev pub draw_words : Tables → Picture → List SheetWord → Answer Picture
draw_words family p [] = Answer.done p
draw_words family p (w ∷ ws) = then (draw_word family p w) (λ q. draw_words family q ws)

-- before the first word
abbrev pub blank : Picture
blank = record { sketch = empty; name = []; open_cells = [] }

-- what all the words draw
abbrev pub drawn_by : Tables → List SheetWord → Answer Sketch
drawn_by family words = then (draw_words family blank words) (λ p. Answer.done p.sketch)
