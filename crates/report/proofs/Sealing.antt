-- What a sheet draws can be sealed. Assumes nothing.
use Rattle.std.proofs.Common.{◌≡◌, ℕ, Bool, true, false, cond, eqb, List, [], ◌∷◌, sym, refl, ap, ◌∙◌, arith, eq-eqb}
use Rattle.families.specs.Tables.{Tables}
use Rattle.lines.specs.Lines.{inputs}
use Rattle.network.specs.Least.{NothingWrong}
use Rattle.network.specs.Refusals.{SealWrong}
use Rattle.network.specs.Sketches.{Sketch}
use Rattle.sheets.specs.Sheet.{Form}
use Rattle.sheets.specs.Verdicts.{Verdict}
use Rattle.drawing.specs.Drawing.{Answer, then, draw_form, draw_forms, sealable, next_place}
use Rattle.drawing.specs.Reading.{Reading, answer_to}

then_done : {X Y : Type 0} (a : Answer X) (next : X → Answer Y) (y : Y) → then a next ≡ Answer.done y → (x : X) × (next x ≡ Answer.done y)
then_done (Answer.refused number place) next y e = let z : ◌≡◌ {A = ℕ} 0 1 = cc in absurd (omega arith)
then_done (Answer.done x) next y e = (x, e)

sealed_some : (at : ℕ) (s t : Sketch) → sealable at s ≡ Answer.done t → inputs t.lines ≡ 0 → ⊥
sealed_some at s t e none = by (eqb (inputs s.lines) 0) refl e
  where
    by : (z : Bool) → eqb (inputs s.lines) 0 ≡ z → cond z (Answer.refused 9 at) (Answer.done s) ≡ Answer.done t → ⊥
    by true z h = let y : ◌≡◌ {A = ℕ} 0 1 = cc in omega arith
    by false z h =
        let same : s ≡ t = cc in
        let clash : true ≡ false = sym (eq-eqb (inputs s.lines) 0 (ap (λ (k : Sketch). inputs k.lines) same ∙ none)) ∙ z in
        let y : ◌≡◌ {A = ℕ} 0 1 = cc in omega arith

has_input : (family : Tables) (at : ℕ) (forms : List Form) (s t : Sketch) → draw_forms family at forms s ≡ Answer.done t → inputs t.lines ≡ 0 → ⊥
has_input family at [] s t e none = sealed_some at s t e none
has_input family at (form ∷ forms) s t e none =
    let drawn = then_done (draw_form family at form s) (λ d. draw_forms family (next_place at form) forms d) t e in
    has_input family (next_place at form) forms drawn.0 t drawn.1 none

pub drawn_seals : (family : Tables) (sheet : List ℕ) (t : Sketch) → Reading family sheet (Answer.done t) → NothingWrong (SealWrong t)
drawn_seals family sheet t reading n (SealWrong.no_input none) = by reading.verdict reading.follows
  where
    by : (v : Verdict) → Answer.done t ≡ answer_to family v → ⊥
    by Verdict.too_long e = let z : ◌≡◌ {A = ℕ} 0 1 = cc in omega arith
    by (Verdict.broken place) e = let z : ◌≡◌ {A = ℕ} 0 1 = cc in omega arith
    by (Verdict.too_deep place) e = let z : ◌≡◌ {A = ℕ} 0 1 = cc in omega arith
    by (Verdict.sheet forms) e = has_input family 0 forms _ t (sym e) none
