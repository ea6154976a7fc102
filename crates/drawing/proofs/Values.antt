-- What digits write. Assumes nothing.
use Rattle.std.proofs.Common.{◌≡◌, ℕ, zero, suc, ◌+◌, ◌-◌, ◌*◌, ◌<◌, ◌≤◌, List, length, get_or, drop, sym, ap, subst, arith}
use Rattle.std.proofs.lemmas.List.{drop_more, drop_all}
use Rattle.drawing.specs.Drawing.{number_from}

-- the most that so many bytes write
abbrev pub roof : ℕ → ℕ
roof zero = 0
roof (suc i) = roof i * 10 + 255

roof_grows : (i j : ℕ) → roof i ≤ roof (j + i)
roof_grows i zero = let e : i ≡ zero + i = omega arith in subst (λ k. roof i ≤ roof k) e (omega arith)
roof_grows i (suc j) =
    let h = roof_grows i j in
    let e : suc (j + i) ≡ suc j + i = omega arith in
    let more : roof i ≤ roof (suc (j + i)) = omega (arith, h) in
    subst (λ k. roof i ≤ roof k) e more

pub roof_low : (i : ℕ) → i ≤ 6 → roof i ≤ 28333305
roof_low i l = let e : 6 - i + i ≡ 6 = omega arith in subst (λ k. roof i ≤ roof k) e (roof_grows i (6 - i))

pub roof_on : (n i b : ℕ) → n ≤ roof i → b ≤ 255 → n * 10 + b ≤ roof (i + 1)
roof_on n i b l h = let e : suc i ≡ i + 1 = omega arith in let low : n * 10 + b ≤ roof (suc i) = omega arith in subst (λ k. n * 10 + b ≤ roof k) e low

pub value_on : (digits : List ℕ) (n i : ℕ) → i < length digits → number_from (n * 10 + (get_or digits i 0 - 48)) (drop (i + 1) digits) ≡ number_from n (drop i digits)
value_on digits n i l = sym (ap (number_from n) (drop_more digits i 0 l))

pub value_end : (digits : List ℕ) (n i : ℕ) → length digits ≤ i → number_from n (drop i digits) ≡ n
value_end digits n i l = ap (number_from n) (drop_all i digits l)
