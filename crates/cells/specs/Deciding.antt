-- When the pins of a cell decide its output, and what is proved of that. Assumes nothing.
--     time pin     the time at which the pin settles
--     decide       the time at which the pins decide the output in a row
use Rattle.std.specs.Prelude.{◌≡◌, ℕ, ◌^◌, ◌<◌, Bool, true, List, Option, slice_index_or}
use Rattle.std.specs.Option.{unwrap_or}
use Rattle.times.specs.Kind.{Kind, NoLater}
use Rattle.cells.specs.Firsts.{FirstPassing, first_among, only_if}
use Rattle.cells.specs.Tables.{Forces, OneOutput, forces}

-- the pins settled at or before a time
abbrev pub settled_by : {Time : Type 0} → Kind Time → (ℕ → Time) → Time → ℕ → Bool
settled_by kind time at pin = kind.at_or_before (time pin) at

-- the pins decide the output in `row` at the time `at`
pub record Decided {Time : Type 0} (kind : Kind Time) (table count row : ℕ) (time : ℕ → Time) (at : Time) : Type 0 where
  -- it is a pin's time
  pub pin : ℕ
  pub present : pin < count
  pub pin_time : time pin ≡ at
  -- the pins settled by then force the output
  pub forced : Forces (settled_by kind time at) table count row
  -- no earlier pin time does
  pub least : (other : ℕ) → other < count → Forces (settled_by kind time (time other)) table count row → NoLater kind at (time other)

-- the same, computed

-- a pin's time, where the pins settled by then force the output
abbrev pub forcing_time : {Time : Type 0} → Kind Time → ℕ → ℕ → ℕ → (ℕ → Time) → ℕ → Option Time
forcing_time kind table count row time pin = only_if (forces (settled_by kind time (time pin)) table count row) (time pin)

-- the least such pin time; the start where there is no pin
unfoldable pub decide : {Time : Type 0} → Kind Time → ℕ → ℕ → ℕ → (ℕ → Time) → Time
decide kind table count row time = unwrap_or (first_among kind.at_or_before (forcing_time kind table count row time) count) kind.start

-- times by number, from a list; the start past its end
abbrev pub listed : {Time : Type 0} → Kind Time → List Time → ℕ → Time
listed kind times number = slice_index_or times number kind.start

-- the theorems, for a kind of time

-- the computed time is one at which the pins decide
abbrev pub DecideDecides : {Time : Type 0} → Kind Time → Type 0
DecideDecides {Time} kind = (table count row : ℕ) (time : ℕ → Time) → row < 2 ^ count → 0 < count → Decided kind table count row time (decide kind table count row time)

-- the pins decide at one time only
abbrev pub DecidedOnce : {Time : Type 0} → Kind Time → Type 0
DecidedOnce {Time} kind = (table count row : ℕ) (time : ℕ → Time) (a b : Time) → Decided kind table count row time a → Decided kind table count row time b → a ≡ b

-- pins that settle no later decide no later
abbrev pub EarlierDecidesNoLater : {Time : Type 0} → Kind Time → Type 0
EarlierDecidesNoLater {Time} kind =
    (table count row : ℕ) (early late : ℕ → Time) (a b : Time) → ((pin : ℕ) → pin < count → NoLater kind (early pin) (late pin))
    → Decided kind table count row early a → Decided kind table count row late b → NoLater kind a b

-- a table with one output for all rows is decided by its earliest pin
abbrev pub OneOutputDecidesFirst : {Time : Type 0} → Kind Time → Type 0
OneOutputDecidesFirst {Time} kind =
    (table count row : ℕ) (time : ℕ → Time) → OneOutput table count → row < 2 ^ count → 0 < count
    → FirstPassing kind.at_or_before (λ pin. true) time count (decide kind table count row time)
