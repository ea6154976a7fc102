-- Truth tables, and when some of the pins force the output. Assumes nothing.
--     table        the outputs of a cell: bit r is the output in row r
--     count        the number of pins; pins are numbered from 0
--     row          the number of a row: pin i has weight 2 ^ i in it
--     some         a set of pins, by a test of the pin
use Rattle.std.specs.Prelude.{◌≡◌, ℕ, zero, suc, ◌+◌, ◌/◌, ◌%◌, ◌^◌, ◌<◌, Bool, true, cond, not, ◌&&◌, ◌||◌, ◌==◌}
use Rattle.std.specs.Bool.{beq}

-- bit `i` of `n`, counted from 0
abbrev pub bit : ℕ → ℕ → Bool
bit n i = (n / 2 ^ i) % 2 == 1

-- the row number of so many pin values; also the number whose lowest bits are these
abbrev pub row : ℕ → (ℕ → Bool) → ℕ
row zero value = 0
row (suc i) value = row i value + cond (value i) (2 ^ i) 0

-- `other` agrees with `row` at some of the pins
abbrev pub Agrees : (ℕ → Bool) → ℕ → ℕ → ℕ → Type 0
Agrees some count row other = (pin : ℕ) → pin < count → some pin ≡ true → bit other pin ≡ bit row pin

-- some of the pins force the output in `row`: every row that agrees with them has the same output
abbrev pub Forces : (ℕ → Bool) → ℕ → ℕ → ℕ → Type 0
Forces some table count row = (other : ℕ) → other < 2 ^ count → Agrees some count row other → bit table other ≡ bit table row

-- the output is the same in all rows
abbrev pub OneOutput : ℕ → ℕ → Type 0
OneOutput table count = (row other : ℕ) → row < 2 ^ count → other < 2 ^ count → bit table other ≡ bit table row

-- the same, computed

-- every number below `n` passes the test
abbrev pub every_below : ℕ → (ℕ → Bool) → Bool
every_below zero test = true
every_below (suc n) test = test n && every_below n test

abbrev pub implies : Bool → Bool → Bool
implies a b = not a || b

abbrev pub agrees : (ℕ → Bool) → ℕ → ℕ → ℕ → Bool
agrees some count row other = every_below count (λ pin. implies (some pin) (beq (bit other pin) (bit row pin)))

abbrev pub forces : (ℕ → Bool) → ℕ → ℕ → ℕ → Bool
forces some table count row = every_below (2 ^ count) (λ other. implies (agrees some count row other) (beq (bit table other) (bit table row)))
