-- Two families as one. Assumes nothing.
use Rattle.std.specs.Prelude.{◌≡◌, Bool, true, false, cond, [], ◌∷◌, Some}
use Rattle.names.specs.Names.{star}
use Rattle.families.specs.Tables.{Tables, LawfulTable, LawfulTables, paired}

pub pair_lawful : (first second : Tables) → LawfulTables first → LawfulTables second → LawfulTables (paired first second)
pair_lawful first second a b [] pins table e = a [] pins table e
pair_lawful first second a b (c ∷ cs) pins table e = by (star c) e
  where
    by : (t : Bool) → cond t (second cs pins) (first (c ∷ cs) pins) ≡ Some table → LawfulTable pins table
    by true h = b cs pins table h
    by false h = a (c ∷ cs) pins table h
