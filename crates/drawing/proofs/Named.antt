-- The names of a drawn sheet. Assumes nothing.
use Rattle.std.proofs.Common.{◌≡◌, ℕ, ◌+◌, Bool, true, false, cond, eqb, List, [], ◌∷◌, ◌++◌, length, replicate, Some, None, Ok, Err, Option, Result, sym, refl, ap, ◌∙◌, append_assoc, append-nil}
use Rattle.std.proofs.lemmas.List.{replicate_more, replicate-append-replicate}
use Rattle.families.specs.Tables.{Tables}
use Rattle.lines.specs.Lines.{inputs}
use Rattle.network.specs.Sketches.{Sketch, empty, line_named, with_input}
use Rattle.sheets.specs.Sheet.{max_sheet, Pins, Form, cell_text}
use Rattle.sheets.specs.Verdicts.{Verdict, Judged}
use Rattle.sheets.specs.Words.{pins_place}
use Rattle.drawing.specs.Drawing.{Answer, then, delay_place, input_name_place, input_delay_place, line_name_place, line_cell_place, next_place, input_room, name_free, delay_from, draw_cell, draw_pins, draw_form, draw_forms, draw_sheet, sealable}
use Rattle.drawing.specs.declared.fault.SheetFault.{SheetFault}
use Rattle.drawing.specs.Naming.{cells_among, form_names, sheet_names, NamedByForms}
use Rattle.drawing.specs.Reading.{answer_to, SheetRead}
use Rattle.drawing.proofs.OneAnswer.{sheet_of}
use Rattle.drawing.proofs.Onward.{refused_done, done_same, cell_then}

abbrev Names : Type 0
Names = List (Option (List ℕ))

then_done : {X Y : Type 0} (a : Answer X) (f : X → Answer Y) (y : Y) → then a f ≡ Answer.done y → (x : X) × (a ≡ Answer.done x) × (f x ≡ Answer.done y)
then_done (Answer.refused n place) f y e = refused_done n place y e
then_done (Answer.done x) f y e = (x, refl, e)

-- so many lines without a name
abbrev nameless : ℕ → Names
nameless n = replicate n None

module _ (family : Tables) where
  -- a cell, where its pins are drawn
  cell_names : (at : ℕ) (name : Option (List ℕ)) (w d : List ℕ) (drawn : Answer (Sketch × List ℕ)) (before : Names) (n : ℕ) → ((r : Sketch × List ℕ) → drawn ≡ Answer.done r → r.0.names ≡ before ++ nameless n) → (made : Sketch × ℕ) → draw_cell family at name w d drawn ≡ Answer.done made → made.0.names ≡ before ++ (nameless n ++ (name ∷ []))
  cell_names at name w d drawn before n ih made e =
      let v = then_done (delay_from (delay_place at w) d) _ made e in
      let r = then_done drawn _ made v.2 in
      let c = cell_then family at name w v.0 r.0.1 r.0.0 made r.2 in
      ap (λ (x : Sketch × ℕ). x.0.names) c.1 ∙ ap (λ v. v ++ (name ∷ [])) (ih r.0 r.1) ∙ append_assoc before (nameless n) (name ∷ [])

  pins_names : (ps : Pins) (at : ℕ) (s : Sketch) (r : Sketch × List ℕ) → draw_pins family at ps s ≡ Answer.done r → r.0.names ≡ s.names ++ nameless (cells_among ps)
  pins_names Pins.end at s r e = ap (λ (x : Sketch × List ℕ). x.0.names) (sym (done_same (s, []) r e)) ∙ sym (append-nil s.names)
  pins_names (Pins.name n next) at s r e = by (line_named 0 n s.names) e (λ q h. pins_names next (at + 1 + length n) s q h)
    where
      drawn : Answer (Sketch × List ℕ)
      drawn = draw_pins family (at + 1 + length n) next s

      by : (found : Option ℕ) → ◌≡◌ {A = Answer (Sketch × List ℕ)} (elim found [ None ↦ Answer.refused 3 (at + 1) | Some line ↦ then drawn (λ q. Answer.done (q.0, line ∷ q.1)) ]) (Answer.done r) → ((q : Sketch × List ℕ) → drawn ≡ Answer.done q → q.0.names ≡ s.names ++ nameless (cells_among next)) → r.0.names ≡ s.names ++ nameless (cells_among next)
      by None h ih = refused_done 3 (at + 1) r h
      by (Some line) h ih = let q = then_done drawn _ r h in ap (λ (x : Sketch × List ℕ). x.0.names) (sym (done_same _ r q.2)) ∙ ih q.0 q.1
  pins_names (Pins.cell w d qs next) at s r e =
      let cell = then_done (draw_cell family (at + 1) None w d (draw_pins family (pins_place (at + 1) w d) qs s)) _ r e in
      let made = cell_names (at + 1) None w d (draw_pins family (pins_place (at + 1) w d) qs s) s.names (cells_among qs) (λ q h. pins_names qs (pins_place (at + 1) w d) s q h) cell.0 cell.1 in
      let q = then_done (draw_pins family (at + 1 + length (cell_text w d qs)) next cell.0.0) _ r cell.2 in
      ap (λ (x : Sketch × List ℕ). x.0.names) (sym (done_same _ r q.2))
      ∙ pins_names next (at + 1 + length (cell_text w d qs)) cell.0.0 q.0 q.1
      ∙ ap (λ v. v ++ nameless (cells_among next)) made
      ∙ append_assoc s.names (nameless (cells_among qs) ++ (None ∷ [])) (nameless (cells_among next))
      ∙ ap (λ v. s.names ++ v) (ap (λ v. v ++ nameless (cells_among next)) (replicate_more (cells_among qs) None) ∙ replicate-append-replicate (cells_among qs + 1) (cells_among next) None)

  form_named : (f : Form) (at : ℕ) (s t : Sketch) → draw_form family at f s ≡ Answer.done t → t.names ≡ s.names ++ form_names f
  form_named (Form.input n d) at s t e =
      let a = then_done (input_room at s) _ t e in
      let b = then_done (name_free (input_name_place at) n s) _ t a.2 in
      let v = then_done (delay_from (input_delay_place at n) d) _ t b.2 in
      ap (λ (x : Sketch). x.names) (sym (done_same (with_input s n v.0) t v.2))
  form_named (Form.line n w d ps) at s t e =
      let a = then_done (name_free (line_name_place at) n s) _ t e in
      let cell = then_done (draw_cell family (line_cell_place at n) (Some n) w d (draw_pins family (pins_place (line_cell_place at n) w d) ps s)) _ t a.2 in
      ap (λ (x : Sketch). x.names) (sym (done_same cell.0.0 t cell.2))
      ∙ cell_names (line_cell_place at n) (Some n) w d (draw_pins family (pins_place (line_cell_place at n) w d) ps s) s.names (cells_among ps) (λ q h. pins_names ps (pins_place (line_cell_place at n) w d) s q h) cell.0 cell.1

  seal_same : (at : ℕ) (s t : Sketch) → sealable at s ≡ Answer.done t → s ≡ t
  seal_same at s t e = by (eqb (inputs s.lines) 0) e
    where
      by : (b : Bool) → cond b (Answer.refused 9 at) (Answer.done s) ≡ Answer.done t → s ≡ t
      by true h = refused_done 9 at t h
      by false h = done_same s t h

  forms_named : (fs : List Form) (at : ℕ) (s t : Sketch) → draw_forms family at fs s ≡ Answer.done t → t.names ≡ s.names ++ sheet_names fs
  forms_named [] at s t e = ap (λ (x : Sketch). x.names) (sym (seal_same at s t e)) ∙ sym (append-nil s.names)
  forms_named (f ∷ fs) at s t e =
      let r = then_done (draw_form family at f s) _ t e in
      forms_named fs (next_place at f) r.0 t r.2 ∙ ap (λ v. v ++ sheet_names fs) (form_named f at s r.0 r.1) ∙ append_assoc s.names (form_names f) (sheet_names fs)

  sheet_named : (fs : List Form) (t : Sketch) → draw_sheet family fs ≡ Answer.done t → t.names ≡ sheet_names fs
  sheet_named fs t e = forms_named fs 0 empty t e

-- a text that was read is named by its forms
pub read_named : (family : Tables) (text : List ℕ) (r : Result (Unit {0}) SheetFault) (after : Sketch) → SheetRead family text r after → NamedByForms text r after
read_named family text (Err f) after h = tt
read_named family text (Ok u) after h = by h.verdict h.judged h.follows
  where
    by : (v : Verdict) → Judged text v → Answer.done after ≡ answer_to family v → NamedByForms text (Ok u) after
    by Verdict.too_long j e = refused_done 6 max_sheet after (sym e)
    by (Verdict.broken place) j e = refused_done 1 place after (sym e)
    by (Verdict.too_deep place) j e = refused_done 7 place after (sym e)
    by (Verdict.sheet forms) j e = let of = sheet_of text (Verdict.sheet forms) j in (forms, of.0, of.2, sheet_named family forms after (sym e))
