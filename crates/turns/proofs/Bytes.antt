-- Vectors as bytes.
use Rattle.std.proofs.Common.{◌≡◌, suc, false, [], ◌∷◌, length, map, Some, None, unwrap_or, refl, ap}
use Rattle.search.specs.Search.{Vector, Setting, vector, whole}
use Rattle.turns.specs.Plain.{byte, bytes}

pub vector_whole : (w : Vector) → vector (whole w) ≡ w
vector_whole [] = refl
vector_whole (x ∷ w) = ap (λ v. x ∷ v) (vector_whole w)

pub whole_length : (w : Vector) → length (whole w) ≡ length w
whole_length [] = refl
whole_length (x ∷ w) = ap suc (whole_length w)

pub map_byte : (s : Setting) → map (λ o. byte (unwrap_or o false)) s ≡ bytes (vector s)
map_byte [] = refl
map_byte (Some x ∷ s) = ap (λ v. byte x ∷ v) (map_byte s)
map_byte (None ∷ s) = ap (λ v. byte false ∷ v) (map_byte s)
