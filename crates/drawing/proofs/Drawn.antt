-- The drawing word by word draws the forms. Assumes nothing.
use Rattle.std.proofs.Common.{◌≡◌, ℕ, ◌+◌, ◌-◌, List, [], ◌∷◌, ◌++◌, length, Some, None, Option, sym, refl, ap, ◌∙◌, append_assoc, append-nil, arith, length-append}
use Rattle.families.specs.Tables.{Tables}
use Rattle.network.specs.Sketches.{Sketch, line_named, with_input}
use Rattle.sheets.specs.Sheet.{Pins, Form, cell_text, form_text, sheet_text}
use Rattle.sheets.specs.Words.{SheetWord, closes, pins_place, pins_words, cell_words, form_words, sheet_words}
use Rattle.drawing.specs.Drawing.{Answer, then, delay_place, input_name_place, input_delay_place, line_name_place, line_cell_place, next_place, input_room, name_free, delay_from, add_cell, draw_cell, draw_pins, draw_form, draw_forms, draw_sheet, sealable}
use Rattle.drawing.specs.Pictures.{Opened, Picture, with_pins, inner_pin, label, blank, draw_words, drawn_by}

pub then_then : {X Y Z : Type 0} (a : Answer X) (f : X → Answer Y) (g : Y → Answer Z) → then (then a f) g ≡ then a (λ x. then (f x) g)
then_then (Answer.refused n p) f g = refl
then_then (Answer.done x) f g = refl

pub then_same : {X Y : Type 0} (a : Answer X) (f g : X → Answer Y) → ((x : X) → f x ≡ g x) → then a f ≡ then a g
then_same (Answer.refused n p) f g h = refl
then_same (Answer.done x) f g h = h x

-- an open cell with its word and its delay
abbrev pub before_pins : ℕ → List ℕ → ℕ → Opened
before_pins place w v = record { place = place; word = w; delay = v; pins = [] }

pub pins_same : (c : Opened) (more : List ℕ) → c.pins ≡ more → c ≡ record { place = c.place; word = c.word; delay = c.delay; pins = more }
pins_same c more e = ap (λ v. record { place = c.place; word = c.word; delay = c.delay; pins = v }) e

module _ (family : Tables) (form : List ℕ) where
  abbrev pub in_cells : Sketch → List Opened → Picture
  in_cells s cells = record { sketch = s; name = form; open_cells = cells }

  -- the words after a cell that is closed
  abbrev after_cell : List Opened → List SheetWord → Sketch × ℕ → Answer Picture
  after_cell cs rest cell = draw_words family (in_cells cell.0 (inner_pin cell.1 cs)) rest

  -- the words after pins of the cell c
  abbrev after_pins : Opened → List Opened → List SheetWord → Sketch × List ℕ → Answer Picture
  after_pins c cs rest r = draw_words family (in_cells r.0 (with_pins r.1 c ∷ cs)) rest

  -- a cell, where its pins are drawn as they are by their words
  module _ (place : ℕ) (w d : List ℕ) (ps : Pins) (s : Sketch) (cs : List Opened) (rest : List SheetWord) where
    abbrev pins_at : ℕ
    pins_at = pins_place place w d

    abbrev drawn_pins : Answer (Sketch × List ℕ)
    drawn_pins = draw_pins family pins_at ps s

    abbrev added : ℕ → Sketch × List ℕ → Answer (Sketch × ℕ)
    added v r = add_cell family place (label form cs) w v r.1 r.0

    abbrev closing : SheetWord
    closing = closes (place + length (cell_text w d ps) - 1)

    pub cell_drawn : ((c : Opened) (rest : List SheetWord) → draw_words family (in_cells s (c ∷ cs)) (pins_words pins_at ps ++ rest) ≡ then drawn_pins (after_pins c cs rest)) → draw_words family (in_cells s cs) (cell_words place w d ps ++ rest) ≡ then (draw_cell family place (label form cs) w d drawn_pins) (after_cell cs rest)
    cell_drawn ih =
        then_then (delay_from (delay_place place w) d) (λ v. Answer.done (in_cells s (before_pins place w v ∷ cs))) (λ q. draw_words family q ((pins_words pins_at ps ++ (closing ∷ [])) ++ rest))
        ∙ then_same (delay_from (delay_place place w) d) _ _ inside
        ∙ sym (then_then (delay_from (delay_place place w) d) (λ v. then drawn_pins (added v)) (after_cell cs rest))
      where
        inside : (v : ℕ) → draw_words family (in_cells s (before_pins place w v ∷ cs)) ((pins_words pins_at ps ++ (closing ∷ [])) ++ rest) ≡ then (then drawn_pins (added v)) (after_cell cs rest)
        inside v =
            ap (draw_words family (in_cells s (before_pins place w v ∷ cs))) (append_assoc (pins_words pins_at ps) (closing ∷ []) rest)
            ∙ ih (before_pins place w v) (closing ∷ rest)
            ∙ then_same drawn_pins _ _ (λ r. then_then (added v r) (λ cell. Answer.done (in_cells cell.0 (inner_pin cell.1 cs))) (λ q. draw_words family q rest))
            ∙ sym (then_then drawn_pins (added v) (after_cell cs rest))

  -- the pins of an open cell, one more at a time
  more_pins : (c : Opened) (line : ℕ) (lines : List ℕ) → with_pins lines (with_pins (line ∷ []) c) ≡ with_pins (line ∷ lines) c
  more_pins c line lines = pins_same (with_pins lines (with_pins (line ∷ []) c)) _ (append_assoc c.pins (line ∷ []) lines)

  -- the pins after one that was drawn
  next_pins : (c : Opened) (cs : List Opened) (rest : List SheetWord) (line : ℕ) (drawn : Answer (Sketch × List ℕ)) → then drawn (after_pins (with_pins (line ∷ []) c) cs rest) ≡ then (then drawn (λ r. Answer.done (r.0, line ∷ r.1))) (after_pins c cs rest)
  next_pins c cs rest line drawn =
      then_same drawn _ _ (λ r. ap (λ v. draw_words family (in_cells r.0 (v ∷ cs)) rest) (more_pins c line r.1))
      ∙ sym (then_then drawn (λ r. Answer.done (r.0, line ∷ r.1)) (after_pins c cs rest))

  pub pins_drawn : (ps : Pins) (at : ℕ) (s : Sketch) (c : Opened) (cs : List Opened) (rest : List SheetWord) → draw_words family (in_cells s (c ∷ cs)) (pins_words at ps ++ rest) ≡ then (draw_pins family at ps s) (after_pins c cs rest)
  pins_drawn Pins.end at s c cs rest = ap (λ v. draw_words family (in_cells s (v ∷ cs)) rest) (pins_same c _ (sym (append-nil c.pins)))
  pins_drawn (Pins.name n next) at s c cs rest = by (line_named 0 n s.names) (λ line. pins_drawn next (at + 1 + length n) s (with_pins (line ∷ []) c) cs rest)
    where
      later : List SheetWord
      later = pins_words (at + 1 + length n) next ++ rest

      drawn : Answer (Sketch × List ℕ)
      drawn = draw_pins family (at + 1 + length n) next s

      by : (found : Option ℕ) → ((line : ℕ) → draw_words family (in_cells s (with_pins (line ∷ []) c ∷ cs)) later ≡ then drawn (after_pins (with_pins (line ∷ []) c) cs rest))
          → then (elim found [ None ↦ Answer.refused 3 (at + 1) | Some line ↦ Answer.done (in_cells s (with_pins (line ∷ []) c ∷ cs)) ]) (λ q. draw_words family q later)
          ≡ then {X = Sketch × List ℕ} (elim found [ None ↦ Answer.refused 3 (at + 1) | Some line ↦ then drawn (λ r. Answer.done (r.0, line ∷ r.1)) ]) (after_pins c cs rest)
      by None ih = refl
      by (Some line) ih = ih line ∙ next_pins c cs rest line drawn
  pins_drawn (Pins.cell w d qs next) at s c cs rest =
      ap (draw_words family (in_cells s (c ∷ cs))) (append_assoc (cell_words (at + 1) w d qs) (pins_words (at + 1 + length (cell_text w d qs)) next) rest)
      ∙ cell_drawn (at + 1) w d qs s (c ∷ cs) (pins_words (at + 1 + length (cell_text w d qs)) next ++ rest) (λ b more. pins_drawn qs (pins_place (at + 1) w d) s b (c ∷ cs) more)
      ∙ then_same cell _ _ (λ made. pins_drawn next (at + 1 + length (cell_text w d qs)) made.0 (with_pins (made.1 ∷ []) c) cs rest ∙ next_pins c cs rest made.1 (draw_pins family (at + 1 + length (cell_text w d qs)) next made.0))
      ∙ sym (then_then cell (λ made. then (draw_pins family (at + 1 + length (cell_text w d qs)) next made.0) (λ r. Answer.done (r.0, made.1 ∷ r.1))) (after_pins c cs rest))
    where
      cell : Answer (Sketch × ℕ)
      cell = draw_cell family (at + 1) None w d (draw_pins family (pins_place (at + 1) w d) qs s)

abbrev form_name : Form → List ℕ
form_name (Form.input n d) = n
form_name (Form.line n w d ps) = n

-- between forms
abbrev pub between : Sketch → List ℕ → Picture
between s form = record { sketch = s; name = form; open_cells = [] }

module _ (family : Tables) where
  pub form_drawn : (f : Form) (at : ℕ) (s : Sketch) (form : List ℕ) (rest : List SheetWord) → draw_words family (between s form) (form_words at f ++ rest) ≡ then (draw_form family at f s) (λ drawn. draw_words family (between drawn (form_name f)) rest)
  form_drawn (Form.input n d) at s form rest =
      then_then (input_room at s) (λ _. Answer.done (between s form)) (λ q. draw_words family q (SheetWord.name n name_at ∷ SheetWord.delay d delay_at ∷ last ∷ rest))
      ∙ then_same (input_room at s) _ _ (λ _. named)
      ∙ sym (then_then (input_room at s) (λ _. then free (λ _. then slow (λ v. Answer.done (with_input s n v)))) after)
    where
      name_at : ℕ
      name_at = input_name_place at

      delay_at : ℕ
      delay_at = input_delay_place at n

      last : SheetWord
      last = closes (at + length (form_text (Form.input n d)) - 1)

      free : Answer (Unit {0})
      free = name_free name_at n s

      slow : Answer ℕ
      slow = delay_from delay_at d

      after : Sketch → Answer Picture
      after drawn = draw_words family (between drawn n) rest

      named : draw_words family (between s form) (SheetWord.name n name_at ∷ SheetWord.delay d delay_at ∷ last ∷ rest) ≡ then (then free (λ _. then slow (λ v. Answer.done (with_input s n v)))) after
      named =
          then_then free (λ _. Answer.done (between s n)) (λ q. draw_words family q (SheetWord.delay d delay_at ∷ last ∷ rest))
          ∙ then_same free _ _ (λ _. then_then slow (λ v. Answer.done (between (with_input s n v) n)) (λ q. draw_words family q (last ∷ rest)) ∙ sym (then_then slow (λ v. Answer.done (with_input s n v)) after))
          ∙ sym (then_then free (λ _. then slow (λ v. Answer.done (with_input s n v))) after)
  form_drawn (Form.line n w d ps) at s form rest =
      then_then free (λ _. Answer.done (between s n)) (λ q. draw_words family q ((cell_words cell_at w d ps ++ (last ∷ [])) ++ rest))
      ∙ then_same free _ _ (λ _. inside)
      ∙ sym (then_then free (λ _. then cell (λ made. Answer.done made.0)) after)
    where
      cell_at : ℕ
      cell_at = line_cell_place at n

      last : SheetWord
      last = closes (at + length (form_text (Form.line n w d ps)) - 1)

      free : Answer (Unit {0})
      free = name_free (line_name_place at) n s

      cell : Answer (Sketch × ℕ)
      cell = draw_cell family cell_at (Some n) w d (draw_pins family (pins_place cell_at w d) ps s)

      after : Sketch → Answer Picture
      after drawn = draw_words family (between drawn n) rest

      inside : draw_words family (between s n) ((cell_words cell_at w d ps ++ (last ∷ [])) ++ rest) ≡ then (then cell (λ made. Answer.done made.0)) after
      inside =
          ap (draw_words family (between s n)) (append_assoc (cell_words cell_at w d ps) (last ∷ []) rest)
          ∙ cell_drawn family n cell_at w d ps s [] (last ∷ rest) (λ c more. pins_drawn family n ps (pins_place cell_at w d) s c [] more)
          ∙ sym (then_then cell (λ made. Answer.done made.0) after)

  -- the forms from a place on, and the end of the sheet
  forms_drawn : (fs : List Form) (at : ℕ) (s : Sketch) (form : List ℕ) (end : ℕ) → end ≡ at + length (sheet_text fs) → then (draw_words family (between s form) (sheet_words at fs)) (λ p. sealable end p.sketch) ≡ draw_forms family at fs s
  forms_drawn [] at s form end e = let same : end ≡ at = omega (arith, e) in ap (λ k. sealable k s) same
  forms_drawn (f ∷ fs) at s form end e =
      ap (λ a. then a (λ (p : Picture). sealable end p.sketch)) (form_drawn f at s form (sheet_words (next_place at f) fs))
      ∙ then_then (draw_form family at f s) (λ drawn. draw_words family (between drawn (form_name f)) (sheet_words (next_place at f) fs)) (λ p. sealable end p.sketch)
      ∙ then_same (draw_form family at f s) _ _ (λ drawn. forms_drawn fs (next_place at f) drawn (form_name f) end (omega (arith, e, length-append (form_text f) (10 ∷ sheet_text fs))))

  -- the words of a sheet draw the sheet
  pub sheet_drawn : (fs : List Form) (words : List SheetWord) (text : List ℕ) → words ≡ sheet_words 0 fs → sheet_text fs ≡ text → then (drawn_by family words) (sealable (length text)) ≡ draw_sheet family fs
  sheet_drawn fs words text e t =
      then_then (draw_words family blank words) (λ p. Answer.done p.sketch) (sealable (length text))
      ∙ ap (λ v. then (draw_words family blank v) (λ (p : Picture). sealable (length text) p.sketch)) e
      ∙ forms_drawn fs 0 blank.sketch [] (length text) (omega (arith, ap length t))
