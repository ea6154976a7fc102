-- What the code of a search reads in a setting, and what it leaves there. Assumes nothing.
use Rattle.std.specs.Prelude.{ℕ, suc, [], ◌∷◌, Some, None, Option}
use Rattle.search.specs.Search.{Vector, Setting, whole}

-- the first undecided input, or the number of inputs
abbrev pub first_open : Setting → ℕ
first_open [] = 0
first_open (None ∷ s) = 0
first_open (Some x ∷ s) = suc (first_open s)

-- every input as in the vector found, or the setting from before
abbrev pub left_at : Option Vector → Setting → Setting
left_at (Some w) before = whole w
left_at None before = before
