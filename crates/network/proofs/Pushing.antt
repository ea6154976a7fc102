-- One line more keeps the lines lawful. Assumes nothing.
use Rattle.std.proofs.Common.{◌≡◌, ℕ, ◌^◌, ◌<◌, ◌≤◌, List, [], ◌∷◌, ◌++◌, length, get_or, sym, subst}
use mathlib.Core.Logic.{∥∥₁_map}
use Rattle.std.proofs.lemmas.List.{get_or_append_left}
use Rattle.lines.specs.declared.line.Line.{Line}
use Rattle.lines.specs.Limits.{max_delay, max_pins}
use Rattle.lines.specs.Lines.{Lawful, inputs}
use Rattle.lines.proofs.Lawfuls.{lawful_push_input, lawful_push_cell}
use Rattle.network.specs.Sketches.{input_line, cell_line}

pub with_input_lawful : (lines more : List Line) (delay : ℕ) → more ≡ lines ++ (input_line delay ∷ []) → inputs lines ≡ length lines → delay ≤ max_delay → ∥ Lawful lines ∥₁ → ∥ Lawful more ∥₁
with_input_lawful lines more delay e only slow t = subst (λ (v : List Line). ∥ Lawful v ∥₁) (sym e) (∥∥₁_map t (lawful_push_input lines delay only slow))

pub with_cell_lawful : (lines more : List Line) (table delay : ℕ) (pins : List ℕ) → more ≡ lines ++ (cell_line table delay pins ∷ []) → 1 ≤ length pins → length pins ≤ max_pins → ((pin : ℕ) → pin < length pins → get_or pins pin 0 < length lines) → table < 2 ^ (2 ^ length pins) → delay ≤ max_delay → ∥ Lawful lines ∥₁ → ∥ Lawful more ∥₁
with_cell_lawful lines more table delay pins e some few lower fits slow t =
    subst (λ (v : List Line). ∥ Lawful v ∥₁) (sym e) (∥∥₁_map t (lawful_push_cell lines _ delay (record {
      some_pins = some;
      few_pins = few;
      table_fits = fits;
      lower = λ pin l. subst (λ v. v < length lines) (sym (get_or_append_left pins _ 0 pin l)) (lower pin l);
    }) slow))

pub none_lawful : (lines : List Line) → lines ≡ [] → ∥ Lawful lines ∥₁
none_lawful lines e = subst (λ (v : List Line). ∥ Lawful v ∥₁) (sym e) ∣ tt ∣₁
