-- The entry that assigns a table. Assumes nothing.
use Rattle.std.proofs.Common.{◌≡◌, ℕ, Bool, true, false, cond, List, [], ◌∷◌, Some, refl}
use Rattle.std.specs.Option.{option_map}
use Rattle.std.specs.List.{find}
use Rattle.library.specs.declared.entry.Entry.{Entry}
use Rattle.library.specs.Entries.{is_for, assigned}

-- what is assigned is the table of the first entry that is found
pub assigned_found : (entries : List Entry) (word : List ℕ) (pins : ℕ) → assigned entries word pins ≡ option_map (λ (entry : Entry). entry.table) (find (is_for word pins) entries)
assigned_found [] word pins = refl
assigned_found (entry ∷ entries) word pins = by (is_for word pins entry) (assigned_found entries word pins)
  where
    by : (b : Bool) → assigned entries word pins ≡ option_map (λ (e : Entry). e.table) (find (is_for word pins) entries)
        → cond b (Some entry.table) (assigned entries word pins) ≡ option_map (λ (e : Entry). e.table) (cond b (Some entry) (find (is_for word pins) entries))
    by true later = refl
    by false later = later
