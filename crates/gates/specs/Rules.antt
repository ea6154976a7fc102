-- What is proved of the plain gates: their tables' bits are their outputs, and the two rules by which they settle. Assumes nothing: these are statements.
--     a pin controls   it has the value that alone fixes the gate's output: 0 for and and nand, 1 for or and nor
--     time pin         the time at which the pin settles
use Rattle.std.specs.Prelude.{◌≡◌, ℕ, ◌^◌, ◌<◌, ◌≤◌, Bool, true, false, List, Some, ◌≢◌}
use Rattle.std.specs.Bool.{beq}
use Rattle.times.specs.Kind.{Kind}
use Rattle.cells.specs.Deciding.{decide}
use Rattle.cells.specs.Firsts.{FirstPassing, at_or_after}
use Rattle.cells.specs.Tables.{bit}
use Rattle.gates.specs.declared.gate.Gate.{Gate}
use Rattle.gates.specs.declared.gate.Gate.TheVariants.{Buf, Not, And, Nand, Or, Nor, Xor, Xnor}
use Rattle.gates.specs.Gates.{output, fewest, most, gate_named, plain_tables}

-- a table for a word and a number of pins, by what a gate means
pub record PlainTable (word : List ℕ) (pins table : ℕ) : Type 0 where
  -- the word names a gate
  pub gate : Gate
  pub named : gate_named word ≡ Some gate
  -- the gate can have so many pins
  pub enough : fewest gate ≤ pins
  pub few : pins ≤ most gate
  -- in each row the table has the gate's output
  pub outputs : (r : ℕ) → r < 2 ^ pins → bit table r ≡ output gate pins r

-- every table that the plain family assigns is such a table
abbrev pub PlainOutputs : Type 0
PlainOutputs = (word : List ℕ) (pins table : ℕ) → plain_tables word pins ≡ Some table → PlainTable word pins table

-- the plain family assigns a table to every word that names a gate, and every number of pins that the gate can have
abbrev pub PlainAssigns : Type 0
PlainAssigns = (word : List ℕ) (pins : ℕ) (gate : Gate) → gate_named word ≡ Some gate → fewest gate ≤ pins → pins ≤ most gate → (table : ℕ) × (plain_tables word pins ≡ Some table)

-- `at` is the time of the pin that settles last
abbrev pub LatestPin : {Time : Type 0} → Kind Time → ℕ → (ℕ → Time) → Time → Type 0
LatestPin kind pins time at = FirstPassing (at_or_after kind) (λ pin. true) time pins at

-- of the pins that have the value in the row r, `at` is the time of the one that settles first
abbrev pub EarliestPin : {Time : Type 0} → Kind Time → ℕ → ℕ → (ℕ → Time) → Bool → Time → Type 0
EarliestPin kind pins r time value at = FirstPassing kind.at_or_before (λ pin. beq (bit r pin) value) time pins at

-- the two rules for a gate with a controlling value
pub record TwoRules {Time : Type 0} (kind : Kind Time) (pins r : ℕ) (time : ℕ → Time) (value : Bool) (at : Time) : Type 0 where
  -- where a pin controls, the earliest such pin
  pub controlled : (pin : ℕ) → pin < pins → bit r pin ≡ value → EarliestPin kind pins r time value at
  -- where no pin does, the latest pin
  pub uncontrolled : ((pin : ℕ) → pin < pins → bit r pin ≢ value) → LatestPin kind pins time at

-- the rule by which a gate's pins decide its output in the row r at the time `at`
abbrev pub Rule : {Time : Type 0} → Kind Time → ℕ → ℕ → (ℕ → Time) → Gate → Time → Type 0
Rule kind pins r time Buf at = time 0 ≡ at
Rule kind pins r time Not at = time 0 ≡ at
Rule kind pins r time And at = TwoRules kind pins r time false at
Rule kind pins r time Nand at = TwoRules kind pins r time false at
Rule kind pins r time Or at = TwoRules kind pins r time true at
Rule kind pins r time Nor at = TwoRules kind pins r time true at
Rule kind pins r time Xor at = LatestPin kind pins time at
Rule kind pins r time Xnor at = LatestPin kind pins time at

-- the force rule, at the tables that the plain family assigns, is those rules
abbrev pub PlainGatesSettle : {Time : Type 0} → Kind Time → Type 0
PlainGatesSettle {Time} kind =
    (word : List ℕ) (pins table r : ℕ) (time : ℕ → Time) (gate : Gate) → plain_tables word pins ≡ Some table → gate_named word ≡ Some gate → r < 2 ^ pins
    → Rule kind pins r time gate (decide kind table pins r time)
