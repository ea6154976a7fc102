-- A buffer whose first places have been written. Assumes nothing.
use Rattle.std.proofs.Common.{◌≡◌, ℕ, zero, suc, ◌+◌, ◌<◌, ◌≤◌, List, [], ◌∷◌, ◌++◌, length, get_or, take, drop, set, ap, ◌∙◌, add-one, arith}
use Rattle.std.proofs.lemmas.List.{get_or_append_left, get_or-take, length-take-le, take_all}

-- the first i places are those of `made`, and the others are as they were
abbrev pub written : {X : Type 0} → ℕ → List X → List X → List X
written i made old = take i made ++ drop i old

module _ {X : Type 0} where
  pub written_at : (i : ℕ) (made old : List X) (j : ℕ) (d : X) → i ≤ length made → j < i → get_or (written i made old) j d ≡ get_or made j d
  written_at i made old j d room h =
      let long : length (take i made) ≡ i = length-take-le i made room in
      get_or_append_left (take i made) (drop i old) d j (omega arith) ∙ get_or-take i made j d h

  written_suc : (i : ℕ) (made old : List X) (v : X) → i < length made → i < length old → v ≡ get_or made i v → set (written i made old) i v ≡ written (suc i) made old
  written_suc i [] old v m o is = absurd (omega arith)
  written_suc i (x ∷ made) [] v m o is = absurd (omega arith)
  written_suc zero (x ∷ made) (y ∷ old) v m o is = ap (λ (z : X). z ∷ old) is
  written_suc (suc i) (x ∷ made) (y ∷ old) v m o is = ap (λ (l : List X). x ∷ l) (written_suc i made old v (omega arith) (omega arith) is)

  pub written_more : (i : ℕ) (made old : List X) (v : X) → i < length made → i < length old → v ≡ get_or made i v → set (written i made old) i v ≡ written (i + 1) made old
  written_more i made old v m o is = rw add-one (written_suc i made old v m o is)

  pub written_all : (n : ℕ) (made old : List X) → length made ≡ n → written n made old ≡ made ++ drop n old
  written_all n made old long = ap (λ (l : List X). l ++ drop n old) (take_all n made (omega arith))
