-- The board library: its entries, and what their tables mean. Assumes nothing.
--     output table v0 v1 v2     the output of a cell of three pins at these values: bit v0 + 2 v1 + 4 v2 of its table
use Rattle.std.specs.Prelude.{◌≡◌, ℕ, ◌+◌, ◌*◌, ◌/◌, ◌%◌, ◌^◌, Bool, cond, ◌&&◌, ◌||◌, List, [], ◌∷◌, map, codes, ◌==◌}
use Rattle.library.specs.declared.entry.Entry.{Entry}
use Rattle.library.specs.Entries.{name_of}

abbrev pub output : ℕ → Bool → Bool → Bool → Bool
output table v0 v1 v2 = table / 2 ^ (cond v0 1 0 + 2 * cond v1 1 0 + 4 * cond v2 1 0) % 2 == 1

-- at least two of the three
abbrev pub majority : Bool → Bool → Bool → Bool
majority v0 v1 v2 = (v0 && v1) || ((v0 && v2) || (v1 && v2))

-- pin 0 at 0 takes pin 1, at 1 pin 2
abbrev pub selection : Bool → Bool → Bool → Bool
selection v0 v1 v2 = cond v0 v2 v1

abbrev pub maj_table : ℕ
maj_table = 232

abbrev pub mux_table : ℕ
mux_table = 228

-- the name, the number of pins and the table of an entry
abbrev pub told : Entry → List ℕ × ℕ × ℕ
told entry = (name_of entry, entry.pins, entry.table)

pub record BoardEntries (entries : List Entry) : Type 0 where
  pub both : map told entries ≡ (codes "maj", 3, maj_table) ∷ (codes "mux", 3, mux_table) ∷ []
  pub maj_is_majority : (v0 v1 v2 : Bool) → output maj_table v0 v1 v2 ≡ majority v0 v1 v2
  pub mux_is_selection : (v0 v1 v2 : Bool) → output mux_table v0 v1 v2 ≡ selection v0 v1 v2
