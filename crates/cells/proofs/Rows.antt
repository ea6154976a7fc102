-- Bits and row numbers. Assumes nothing.
use Rattle.std.proofs.Common.{◌≡◌, ℕ, zero, suc, ◌+◌, ◌*◌, ◌/◌, ◌%◌, ◌^◌, ◌<◌, Bool, true, false, cond, eqb, sym, refl, ap, ◌∙◌, true≢false, mul_comm, pow-suc, div-one, arith}
use mathlib.Core.Bool.{false≢true}
use native.Mathlib.Nat.{div-div-eq-div-mul}
use Rattle.cells.specs.Tables.{bit, row}

lowest : (n : ℕ) → n / 2 ^ 0 % 2 ≡ n % 2
lowest n = ap (λ (m : ℕ). m % 2) (div-one n)

-- bit i + 1 of n is bit i of its half
pub bit_suc : (n i : ℕ) → bit n (suc i) ≡ bit (n / 2) i
bit_suc n i =
    ap (λ (m : ℕ). eqb (m % 2) 1) (ap (λ (m : ℕ). n / m) (pow-suc 2 i ∙ mul_comm (2 ^ i) 2) ∙ sym (div-div-eq-div-mul n 2 (2 ^ i)))

same_digit : (a b : ℕ) → a < 2 → b < 2 → eqb a 1 ≡ eqb b 1 → a ≡ b
same_digit zero zero ha hb e = refl
same_digit zero (suc zero) ha hb e = absurd (false≢true e)
same_digit zero (suc (suc b)) ha hb e = absurd (omega arith)
same_digit (suc zero) zero ha hb e = absurd (true≢false e)
same_digit (suc zero) (suc zero) ha hb e = refl
same_digit (suc zero) (suc (suc b)) ha hb e = absurd (omega arith)
same_digit (suc (suc a)) b ha hb e = absurd (omega arith)

same_lowest : (a b : ℕ) → bit a 0 ≡ bit b 0 → a % 2 ≡ b % 2
same_lowest a b e =
    same_digit (a % 2) (b % 2) (omega arith) (omega arith)
    (ap (λ (m : ℕ). eqb m 1) (sym (lowest a)) ∙ e ∙ ap (λ (m : ℕ). eqb m 1) (lowest b))

-- a number below 2 ^ n is its bits below n
pub same_bits : (n a b : ℕ) → a < 2 ^ n → b < 2 ^ n → ((i : ℕ) → i < n → bit a i ≡ bit b i) → a ≡ b
same_bits zero a b ha hb same = omega arith
same_bits (suc n) a b ha hb same =
    let low : a % 2 ≡ b % 2 = same_lowest a b (same 0 (omega arith)) in
    let high : a / 2 ≡ b / 2 = same_bits n (a / 2) (b / 2) (omega arith) (omega arith) (λ i h. sym (bit_suc a i) ∙ same (suc i) (omega arith) ∙ bit_suc b i) in
    omega arith

pub row_below : (n : ℕ) (value : ℕ → Bool) → row n value < 2 ^ n
row_below zero value = omega arith
row_below (suc n) value = weighed (value n) (row_below n value)
  where
    weighed : (v : Bool) → row n value < 2 ^ n → row n value + cond v (2 ^ n) 0 < 2 ^ suc n
    weighed true h = omega arith
    weighed false h = omega arith

weight : (v : Bool) (w : ℕ) → cond v (2 * w) 0 ≡ 2 * cond v w 0
weight true w = refl
weight false w = refl

-- pin 0 aside, the row number is twice that of the other pins
row_shift : (n : ℕ) (value : ℕ → Bool) → row (suc n) value ≡ cond (value 0) 1 0 + 2 * row n (λ i. value (suc i))
row_shift zero value = omega arith
row_shift (suc n) value =
    let less = row_shift n value in
    let w : cond (value (suc n)) (2 ^ suc n) 0 ≡ 2 * cond (value (suc n)) (2 ^ n) 0 = ap (λ (m : ℕ). cond (value (suc n)) m 0) (pow-suc 2 n ∙ mul_comm (2 ^ n) 2) ∙ weight (value (suc n)) (2 ^ n) in
    omega arith

bit_lowest : (v : Bool) (m : ℕ) → bit (cond v 1 0 + 2 * m) 0 ≡ v
bit_lowest true m = ap (λ (k : ℕ). eqb k 1) {y = 1} (lowest (1 + 2 * m) ∙ omega arith)
bit_lowest false m = ap (λ (k : ℕ). eqb k 1) {y = 0} (lowest (0 + 2 * m) ∙ omega arith)

half : (v : Bool) (m : ℕ) → (cond v 1 0 + 2 * m) / 2 ≡ m
half true m = omega arith
half false m = omega arith

-- a pin's bit in the row number of the pins' values is its value
pub bit_row : (n : ℕ) (value : ℕ → Bool) (i : ℕ) → i < n → bit (row n value) i ≡ value i
bit_row zero value i h = absurd (omega arith)
bit_row (suc n) value zero h =
    ap (λ (m : ℕ). bit m 0) (row_shift n value) ∙ bit_lowest (value 0) (row n (λ j. value (suc j)))
bit_row (suc n) value (suc i) h =
    bit_suc (row (suc n) value) i
    ∙ ap (λ (m : ℕ). bit m i) (ap (λ (m : ℕ). m / 2) (row_shift n value) ∙ half (value 0) (row n (λ j. value (suc j))))
    ∙ bit_row n (λ j. value (suc j)) i (omega arith)

-- a row is the row number of its bits
pub row_of_bits : (n a : ℕ) (value : ℕ → Bool) → a < 2 ^ n → ((i : ℕ) → i < n → bit a i ≡ value i) → a ≡ row n value
row_of_bits n a value below same =
    same_bits n a (row n value) below (row_below n value) (λ i h. same i h ∙ sym (bit_row n value i h))
