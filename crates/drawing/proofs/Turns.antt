-- One word drawn, by what the draft answers. Assumes nothing.
use Rattle.std.proofs.Common.{◌≡◌, ℕ, ◌<◌, List, [], ◌∷◌, length, IsErrAnd, Some, None, Ok, Err, Option, Result, sym, refl, ap, ◌∙◌, arith}
use Rattle.families.specs.Tables.{Tables}
use Rattle.network.specs.Refusals.{number}
use Rattle.network.specs.Sketches.{Sketch, line_named}
use Rattle.network.specs.declared.fault.DraftFault.{DraftFault}
use Rattle.drawing.specs.declared.fault.Placed.{Placed}
use Rattle.drawing.specs.declared.fault.SheetFault.{SheetFault}
use Rattle.drawing.specs.declared.fault.SheetFault.TheVariants.{Draft}
use Rattle.drawing.specs.Drawing.{Answer, then, name_free, delay_from, add_cell}
use Rattle.drawing.specs.Faults.{refused_by, answered, placed}
use Rattle.drawing.specs.Pictures.{Opened, Picture, with_cells, with_pins, inner, inner_pin, with_delay, delayed, label, draw_name, draw_delay, draw_close}

-- A fault that went on through `?`.

pub placed_ok : {Y : Type 0} (r : Result Y DraftFault) (place : ℕ) (x : Y) → placed place r ≡ Ok x → r ≡ Ok x
placed_ok (Ok y) place x e = let h : y ≡ x = cc in ap Ok h
placed_ok (Err f) place x e = let z : ◌≡◌ {A = ℕ} 0 1 = cc in absurd (omega arith)

-- the draft's, beside its place
pub draft_broke : {X Y : Type 0} (r : Result Y DraftFault) (place : ℕ) (l : Placed) (out : Result (Unit {0}) SheetFault) (a : Answer X) (drawn : X) → placed place r ≡ Err l → IsErrAnd out (λ y. y ≡ Draft l.fault l.place) → ((f : DraftFault) → r ≡ Err f → a ≡ Answer.refused (number f) place) → a ≡ answered out drawn
draft_broke (Ok x) place l out a drawn e h k = let z : ◌≡◌ {A = ℕ} 0 1 = cc in absurd (omega arith)
draft_broke (Err f) place l (Ok y) a drawn e h k = absurd h
draft_broke (Err f) place l (Err y) a drawn e h k =
    let at : record { fault = f; place = place } ≡ l = cc in
    k f refl ∙ ap (λ (v : Placed). refused_by (Draft v.fault v.place)) at ∙ ap refused_by (sym h)

-- the sheet's
pub sheet_broke : {X : Type 0} (out : Result (Unit {0}) SheetFault) (f : SheetFault) (a : Answer X) (drawn : X) → IsErrAnd out (λ y. y ≡ f) → a ≡ refused_by f → a ≡ answered out drawn
sheet_broke (Ok x) f a drawn h e = absurd h
sheet_broke (Err y) f a drawn h e = e ∙ ap refused_by (sym h)

-- Names.

module _ (p : Picture) (name : List ℕ) (place : ℕ) where
  abbrev named : Answer (Unit {0}) → Answer Picture
  named a = then a (λ _. Answer.done (record { sketch = p.sketch; name = name; open_cells = [] }))

  abbrev pin_by : Opened → List Opened → Option ℕ → Answer Picture
  pin_by c cs o = elim o [ None ↦ Answer.refused 3 place | Some line ↦ Answer.done (with_cells p (with_pins (line ∷ []) c ∷ cs)) ]

  abbrev name_by : List Opened → Answer Picture
  name_by cells =
      elim cells [
        | [] ↦ named (name_free place name p.sketch)
        | c ∷ cs ↦ pin_by c cs (line_named 0 name p.sketch.names)
      ]

  pub form_name : (a : Answer (Unit {0})) → p.open_cells ≡ [] → name_free place name p.sketch ≡ a → draw_name p name place ≡ named a
  form_name a e h = ap name_by e ∙ ap named h

-- Delays.

pub delay_by : (p : Picture) (digits : List ℕ) (place : ℕ) (a : Answer ℕ) → delay_from place digits ≡ a → draw_delay p digits place ≡ then a (λ delay. Answer.done (delayed p p.open_cells delay))
delay_by p digits place a h = ap (λ v. then v (λ delay. Answer.done (delayed p p.open_cells delay))) h

pub delayed_cell : (p : Picture) (cells : List Opened) (delay : ℕ) → 0 < length cells → delayed p cells delay ≡ with_cells p (inner (with_delay delay) cells)
delayed_cell p [] delay l = absurd (omega arith)
delayed_cell p (c ∷ cs) delay l = refl

-- Closing brackets.

module _ (family : Tables) (p : Picture) (c : Opened) (cs : List Opened) where
  abbrev closing : Answer (Sketch × ℕ) → Answer Picture
  closing a = then a (λ cell. Answer.done (record { sketch = cell.0; name = p.name; open_cells = inner_pin cell.1 cs }))

  pub close_by : (cells : List Opened) (a : Answer (Sketch × ℕ)) → cells ≡ c ∷ cs → add_cell family c.place (label p.name cs) c.word c.delay c.pins p.sketch ≡ a → draw_close family p cells ≡ closing a
  close_by cells a e h = ap (draw_close family p) e ∙ ap closing h
