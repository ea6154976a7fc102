-- What a list comes to that is mapped into a buffer. Assumes nothing.
use Rattle.std.proofs.Common.{◌≡◌, false, List, [], ◌∷◌, ◌++◌, length, drop, map, Some, None, unwrap_or, refl, ap, ◌∙◌, append-nil, arith, drop_of_length-le}
use Rattle.search.specs.Search.{Vector, Setting, vector, whole}

-- a buffer that is just as long is filled
pub filled : {X Y : Type 0} (from : List X) (made old : List Y) → length old ≡ length from → made ++ drop (length from) old ≡ made
filled from made old same = ap (λ rest. made ++ rest) (drop_of_length-le old {i = length from} (omega arith)) ∙ append-nil made

pub map_vector : (s : Setting) → map (λ o. unwrap_or o false) s ≡ vector s
map_vector [] = refl
map_vector (Some x ∷ s) = ap (λ v. x ∷ v) (map_vector s)
map_vector (None ∷ s) = ap (λ v. false ∷ v) (map_vector s)

pub map_whole : (v : Vector) → map (λ x. Some x) v ≡ whole v
map_whole [] = refl
map_whole (x ∷ v) = ap (λ s. Some x ∷ s) (map_whole v)
