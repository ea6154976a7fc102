-- A starred word in a pair of families. Assumes nothing.
use Rattle.std.proofs.Common.{◌≡◌, ℕ, ◌<◌, true, cond, List, [], ◌∷◌, length, sym, ap, arith}
use Rattle.std.specs.Prelude.{drop, slice_index}
use Rattle.names.specs.Names.{star}
use Rattle.families.specs.Tables.{Tables, paired}

-- it goes to the second family without its star
pub star_goes : (first second : Tables) (word : List ℕ) (pins : ℕ) → 0 < length word → star (slice_index word 0) ≡ true → second (drop 1 word) pins ≡ paired first second word pins
star_goes first second [] pins l e = absurd (omega arith)
star_goes first second (c ∷ cs) pins l e = sym (ap (λ t. cond t (second cs pins) (first (c ∷ cs) pins)) e)
