-- The plain gates: what they put out in each row, their tables, and the words that name them. Assumes nothing.
--     pins     the number of pins; pins are numbered from 0, and bit i of a row number is the value of pin i
use Rattle.std.specs.Prelude.{ℕ, zero, suc, ◌^◌, Bool, false, cond, not, ◌&&◌, List, Some, None, codes, Option, nat_le}
use Rattle.std.specs.Bool.{beq}
use Rattle.cells.specs.Tables.{bit, row, every_below}
use Rattle.families.specs.Tables.{Tables}
use Rattle.lines.specs.Limits.{max_pins}
use Rattle.names.specs.Names.{same_word}
use Rattle.gates.specs.declared.gate.Gate.{Gate}
use Rattle.gates.specs.declared.gate.Gate.TheVariants.{Buf, Not, And, Nand, Or, Nor, Xor, Xnor}

-- every pin is 1 in the row
abbrev pub all_ones : ℕ → ℕ → Bool
all_ones pins r = every_below pins (bit r)

-- every pin is 0 in the row
abbrev pub all_zeros : ℕ → ℕ → Bool
all_zeros pins r = every_below pins (λ pin. not (bit r pin))

-- an odd number of the pins are 1 in the row
abbrev pub odd_ones : ℕ → ℕ → Bool
odd_ones zero r = false
odd_ones (suc pin) r = not (beq (bit r pin) (odd_ones pin r))

-- the output of a gate with so many pins in a row
abbrev pub output : Gate → ℕ → ℕ → Bool
output Buf pins r = bit r 0
output Not pins r = not (bit r 0)
output And pins r = all_ones pins r
output Nand pins r = not (all_ones pins r)
output Or pins r = not (all_zeros pins r)
output Nor pins r = all_zeros pins r
output Xor pins r = odd_ones pins r
output Xnor pins r = not (odd_ones pins r)

-- the fewest and the most pins of a gate
abbrev pub fewest : Gate → ℕ
fewest Buf = 1
fewest Not = 1
fewest And = 2
fewest Nand = 2
fewest Or = 2
fewest Nor = 2
fewest Xor = 2
fewest Xnor = 2

abbrev pub most : Gate → ℕ
most Buf = 1
most Not = 1
most And = max_pins
most Nand = max_pins
most Or = max_pins
most Nor = max_pins
most Xor = max_pins
most Xnor = max_pins

-- the number whose bit r, for each row r, is the output in row r
abbrev pub outputs : Gate → ℕ → ℕ
outputs gate pins = row (2 ^ pins) (output gate pins)

-- the table of a gate with so many pins, if it can have them
abbrev pub gate_table : Gate → ℕ → Option ℕ
gate_table gate pins = cond (nat_le (fewest gate) pins && nat_le pins (most gate)) (Some (outputs gate pins)) None

-- the cell word that names a gate
abbrev pub gate_word : Gate → List ℕ
gate_word Buf = codes "buf"
gate_word Not = codes "not"
gate_word And = codes "and"
gate_word Nand = codes "nand"
gate_word Or = codes "or"
gate_word Nor = codes "nor"
gate_word Xor = codes "xor"
gate_word Xnor = codes "xnor"

-- the gate that a cell word names, if any
abbrev pub gate_named : List ℕ → Option Gate
gate_named word =
    cond (same_word word (codes "buf")) (Some Buf)
    (cond (same_word word (codes "not")) (Some Not)
    (cond (same_word word (codes "and")) (Some And)
    (cond (same_word word (codes "nand")) (Some Nand)
    (cond (same_word word (codes "or")) (Some Or)
    (cond (same_word word (codes "nor")) (Some Nor)
    (cond (same_word word (codes "xor")) (Some Xor)
    (cond (same_word word (codes "xnor")) (Some Xnor) None)))))))

abbrev pub table_of : Option Gate → ℕ → Option ℕ
table_of None pins = None
table_of (Some gate) pins = gate_table gate pins

-- the tables of the plain family
abbrev pub plain_tables : Tables
plain_tables word pins = table_of (gate_named word) pins
