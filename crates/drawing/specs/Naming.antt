-- Which lines of a drawn sheet have names. Assumes nothing.
--     form_names form      the names beside a form's lines: only its last line has one, the form's own
--     sheet_names forms    those of all forms, one form after the other
use Rattle.std.specs.Prelude.{◌≡◌, ℕ, ◌+◌, List, [], ◌∷◌, ◌++◌, replicate, Some, None, Ok, Err, Option, Result}
use Rattle.network.specs.Sketches.{Sketch}
use Rattle.sheets.specs.Sheet.{Pins, Form, LawfulForms, sheet_text}
use Rattle.drawing.specs.declared.fault.SheetFault.{SheetFault}

-- how many cells stand among the pins, at any depth
abbrev pub cells_among : Pins → ℕ
cells_among Pins.end = 0
cells_among (Pins.name name next) = cells_among next
cells_among (Pins.cell word delay pins next) = cells_among pins + 1 + cells_among next

abbrev pub form_names : Form → List (Option (List ℕ))
form_names (Form.input name delay) = Some name ∷ []
form_names (Form.line name word delay pins) = replicate (cells_among pins) None ++ (Some name ∷ [])

abbrev pub sheet_names : List Form → List (Option (List ℕ))
sheet_names [] = []
sheet_names (form ∷ forms) = form_names form ++ sheet_names forms

-- where a text was drawn, each form's name is its last line's, and no other line has a name
abbrev pub NamedByForms : List ℕ → Result (Unit {0}) SheetFault → Sketch → Type 0
NamedByForms text (Ok _) after = (forms : List Form) × LawfulForms forms × (sheet_text forms ≡ text) × (after.names ≡ sheet_names forms)
NamedByForms text (Err fault) after = Unit {0}
