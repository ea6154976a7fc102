-- The two entries of the board library. Assumes nothing.
use Rattle.std.proofs.Common.{◌≡◌, Bool, true, false, [], ◌∷◌, refl, ap, ◌∙◌}
use Rattle.std.specs.Prelude.{codes}
use Rattle.names.specs.Kept.{bytes_of}
use Rattle.names.specs.declared.name.Name.{Name}
use Rattle.library.specs.Board.{output, majority, selection, maj_table, mux_table, BoardEntries}
use Rattle.library.specs.Laws.{maj_entry, mux_entry}

-- what holds of eight rows holds of every row of three pins
each_row : (P : Bool → Bool → Bool → Type 0) → P false false false → P true false false → P false true false → P true true false → P false false true → P true false true → P false true true → P true true true → (v0 v1 v2 : Bool) → P v0 v1 v2
each_row P a b c d e f g h false false false = a
each_row P a b c d e f g h true false false = b
each_row P a b c d e f g h false true false = c
each_row P a b c d e f g h true true false = d
each_row P a b c d e f g h false false true = e
each_row P a b c d e f g h true false true = f
each_row P a b c d e f g h false true true = g
each_row P a b c d e f g h true true true = h

-- maj is the majority of its pins, and mux their selection
pub board_entries : (maj mux : Name) → bytes_of maj ≡ codes "maj" → bytes_of mux ≡ codes "mux" → BoardEntries (maj_entry maj ∷ mux_entry mux ∷ [])
board_entries maj mux a b = record {
  both = ap (λ v. (v, 3, maj_table) ∷ (bytes_of mux, 3, mux_table) ∷ []) a ∙ ap (λ v. (codes "maj", 3, maj_table) ∷ (v, 3, mux_table) ∷ []) b;
  maj_is_majority = each_row (λ v0 v1 v2. output maj_table v0 v1 v2 ≡ majority v0 v1 v2) refl refl refl refl refl refl refl refl;
  mux_is_selection = each_row (λ v0 v1 v2. output mux_table v0 v1 v2 ≡ selection v0 v1 v2) refl refl refl refl refl refl refl refl;
}
