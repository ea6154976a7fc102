-- Laws of the same word. Assumes nothing.
use Rattle.std.proofs.Common.{◌≡◌, ℕ, true, List, sym, ◌∙◌}
use Rattle.std.proofs.lemmas.Slice.Eq.{bytes_eq-Decides}
use Rattle.names.specs.Names.{same_word}

pub same_turned : (a b : List ℕ) → same_word a b ≡ true → same_word b a ≡ true
same_turned a b h = (bytes_eq-Decides b a).1 (sym ((bytes_eq-Decides a b).0 h))

pub same_through : (a b c : List ℕ) → same_word a b ≡ true → same_word b c ≡ true → same_word a c ≡ true
same_through a b c h k = (bytes_eq-Decides a c).1 ((bytes_eq-Decides a b).0 h ∙ (bytes_eq-Decides b c).0 k)
