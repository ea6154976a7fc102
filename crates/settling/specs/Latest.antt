-- Latest times of a network's lines under a setting, which decides some of the inputs. Assumes nothing.
--     setting number             the value that the input of that number is decided to have, or None
--     late number                the latest times of the line of that number, at 0 and at 1
--     LatestRule .. value ..     the line's latest time at a value follows its rule, given those of the lines at its pins
--     LatestTimes .. late        every line's latest times follow their rules
--     latest .. lines setting    the same, worked out from line 0 on
--     cut kind bound late        the latest time is missing or before the bound
--     Under .. upto setting work   the work places hold the latest times of the lines below a number under the setting
--     Worked .. upto work        they do so under some setting or other
--     stays changed driver       the line is a cell's, and no line at a pin of it has changed
use Rattle.std.specs.Prelude.{◌≡◌, ℕ, ◌^◌, ◌<◌, Bool, true, false, cond, not, ◌&&◌, List, [], length, is_some, Some, None, Option, ◌≢◌, slice_index_or}
use Rattle.std.specs.Bool.{beq}
use Rattle.std.specs.Option.{unwrap_or}
use Rattle.lines.specs.declared.line.Cell.{Cell}
use Rattle.lines.specs.declared.line.Driver.{Driver}
use Rattle.lines.specs.declared.line.Driver.TheVariants.{Input, Output}
use Rattle.lines.specs.declared.line.Line.{Line}
use Rattle.lines.specs.Lines.{line_at, feeder, inputs, delay_at, Lawful}
use Rattle.times.specs.Kind.{Kind, NoLater}
use Rattle.cells.specs.Tables.{bit, every_below}
use Rattle.cells.specs.Firsts.{first_among, only_if, at_or_after}
use Rattle.cells.specs.Deciding.{Decided, decide}
use Rattle.settling.specs.declared.latest.Latest.{Latest}
use Rattle.settling.specs.Settle.{input_time, worked_out, settled, settled_line}

abbrev pub latest_at : {Time : Type 0} → Latest Time → Bool → Option Time
latest_at latest value = cond value latest.one latest.zero

-- an undecided input has its settle time at both values; a decided one at its value, and none at the other
abbrev pub InputLatest : {Time : Type 0} → Kind Time → Bool → Line → Option Bool → Bool → Option Time → Type 0
InputLatest kind tied line None value late = late ≡ Some (input_time kind tied line value)
InputLatest kind tied line (Some decided) value late = (decided ≡ value → late ≡ Some (input_time kind tied line value)) × ((decided ≢ value) → late ≡ None)

-- the latest time of a pin at its value in a row
abbrev pub latest_pin : {Time : Type 0} → (ℕ → Latest Time) → Cell → ℕ → ℕ → Option Time
latest_pin late cell row pin = latest_at (late (feeder cell pin)) (bit row pin)

-- a row of a cell gives a time for a value
pub record RowGives {Time : Type 0} (kind : Kind Time) (late : ℕ → Latest Time) (line : Line) (cell : Cell) (value : Bool) (row : ℕ) (time : Time) : Type 0 where
  pub present : row < 2 ^ cell.count
  -- it has that output, and each pin has a latest time at its value in it
  pub output_is : bit cell.table row ≡ value
  pub pin_times : ℕ → Time
  pub pins_have : (pin : ℕ) → pin < cell.count → latest_pin late cell row pin ≡ Some (pin_times pin)
  -- with those times the pins decide by the force rule, and the delay follows
  pub from : Time
  pub decided : Decided kind cell.table cell.count row pin_times from
  pub time_is : time ≡ kind.after from (delay_at line value)

-- the greatest time that a row gives for the value; none with no such row
abbrev pub OutputLatest : {Time : Type 0} → Kind Time → (ℕ → Latest Time) → Line → Cell → Bool → Option Time → Type 0
OutputLatest {Time} kind late line cell value None = (row : ℕ) (time : Time) → RowGives kind late line cell value row time → ⊥
OutputLatest {Time} kind late line cell value (Some greatest) =
    ((row : ℕ) × RowGives kind late line cell value row greatest) × ((row : ℕ) (time : Time) → RowGives kind late line cell value row time → NoLater kind time greatest)

abbrev pub LatestRule : {Time : Type 0} → Kind Time → (ℕ → Bool) → (ℕ → Option Bool) → (ℕ → Latest Time) → ℕ → Line → Driver → Bool → Type 0
LatestRule kind tied setting late number line Input value = InputLatest kind (tied number) line (setting number) value (latest_at (late number) value)
LatestRule kind tied setting late number line (Output cell) value = OutputLatest kind late line cell value (latest_at (late number) value)

-- every line's latest times follow their rules
abbrev pub LatestTimes : {Time : Type 0} → Kind Time → (ℕ → Bool) → List Line → (ℕ → Option Bool) → (ℕ → Latest Time) → Type 0
LatestTimes kind tied lines setting late =
    (number : ℕ) → number < length lines → (value : Bool) → LatestRule kind tied setting late number (line_at lines number) (line_at lines number).driver value

-- the same, computed

abbrev pub no_latest : {Time : Type 0} → Latest Time
no_latest = record { zero = None; one = None }

abbrev pub latest_line : {Time : Type 0} → List (Latest Time) → ℕ → Latest Time
latest_line known number = slice_index_or known number no_latest

-- the setting leaves the input a value
abbrev pub allowed : Option Bool → Bool → Bool
allowed None value = true
allowed (Some decided) value = beq decided value

abbrev pub latest_input : {Time : Type 0} → Kind Time → Bool → Line → Option Bool → Bool → Option Time
latest_input kind tied line decided value = only_if (allowed decided value) (input_time kind tied line value)

-- the row has the output, and each pin has a latest time at its value in the row
abbrev pub possible : {Time : Type 0} → (ℕ → Latest Time) → Cell → Bool → ℕ → Bool
possible late cell value row =
    beq (bit cell.table row) value && every_below cell.count (λ pin. is_some (latest_pin late cell row pin))

-- when the row is decided, with the latest times of its pins
abbrev pub latest_row : {Time : Type 0} → Kind Time → (ℕ → Latest Time) → Cell → ℕ → Time
latest_row kind late cell row =
    decide kind cell.table cell.count row (λ pin. unwrap_or (latest_pin late cell row pin) kind.start)

-- the latest time that a row gives for a value, if it can
abbrev pub latest_by_row : {Time : Type 0} → Kind Time → (ℕ → Latest Time) → Line → Cell → Bool → ℕ → Option Time
latest_by_row kind late line cell value row =
    only_if (possible late cell value row) (kind.after (latest_row kind late cell row) (delay_at line value))

-- the greatest that a row gives
abbrev pub latest_output : {Time : Type 0} → Kind Time → (ℕ → Latest Time) → Line → Cell → Bool → Option Time
latest_output kind late line cell value = first_among (at_or_after kind) (latest_by_row kind late line cell value) (2 ^ cell.count)

abbrev pub both_values : {Time : Type 0} → (Bool → Option Time) → Latest Time
both_values at = record { zero = at false; one = at true }

-- the latest times of a line, by its number, and by the latest times of the lines below it
abbrev pub latest_driver : {Time : Type 0} → Kind Time → (ℕ → Bool) → (ℕ → Option Bool) → ℕ → (ℕ → Latest Time) → Line → Driver → Latest Time
latest_driver kind tied setting number late line Input = both_values (latest_input kind (tied number) line (setting number))
latest_driver kind tied setting number late line (Output cell) = both_values (latest_output kind late line cell)

abbrev pub latest_step : {Time : Type 0} → Kind Time → (ℕ → Bool) → (ℕ → Option Bool) → List (Latest Time) → Line → Latest Time
latest_step kind tied setting known line = latest_driver kind tied setting (length known) (latest_line known) line line.driver

-- the latest times of every line
unfoldable pub latest : {Time : Type 0} → Kind Time → (ℕ → Bool) → List Line → (ℕ → Option Bool) → List (Latest Time)
latest kind tied lines setting = worked_out (latest_step kind tied setting) [] lines

-- a setting as the code has it: for each input its value, decided or not
abbrev pub in_setting : List (Option Bool) → ℕ → Option Bool
in_setting values input = slice_index_or values input None

abbrev pub Under : {Time : Type 0} → Kind Time → (ℕ → Bool) → List Line → ℕ → (ℕ → Option Bool) → List (Latest Time) → Type 0
Under kind tied lines upto setting work = (number : ℕ) → number < upto → latest_line work number ≡ latest_line (latest kind tied lines setting) number

abbrev pub Worked : {Time : Type 0} → Kind Time → (ℕ → Bool) → List Line → ℕ → List (Latest Time) → Type 0
Worked kind tied lines upto work = (setting : ℕ → Option Bool) × Under kind tied lines upto setting work

abbrev pub pins_stay : List Bool → Cell → Bool
pins_stay changed cell = every_below cell.count (λ pin. not (slice_index_or changed (feeder cell pin) false))

abbrev pub stays : List Bool → Driver → Bool
stays changed Input = false
stays changed (Output cell) = pins_stay changed cell

-- the theorems, for a kind of time

-- the rules give the latest times: those that follow them are the ones worked out
abbrev pub RulesGiveLatest : {Time : Type 0} → Kind Time → Type 0
RulesGiveLatest {Time} kind =
    (tied : ℕ → Bool) (lines : List Line) (setting : ℕ → Option Bool) → Lawful lines
    → LatestTimes kind tied lines setting (latest_line (latest kind tied lines setting))
    × ((late : ℕ → Latest Time) → LatestTimes kind tied lines setting late → (number : ℕ) → number < length lines → late number ≡ latest_line (latest kind tied lines setting) number)

-- the vector has the values that the setting decides
abbrev pub AgreesWith : ℕ → (ℕ → Option Bool) → (ℕ → Bool) → Type 0
AgreesWith count setting vector = (input : ℕ) → input < count → allowed (setting input) (vector input) ≡ true

-- the setting decides every input, as the vector does
abbrev pub DecidesAll : ℕ → (ℕ → Option Bool) → (ℕ → Bool) → Type 0
DecidesAll count setting vector = (input : ℕ) → input < count → setting input ≡ Some (vector input)

-- for every vector that agrees with the setting, a line has a latest time at its final value, and settles at or before it
abbrev pub LatestBounds : {Time : Type 0} → Kind Time → Type 0
LatestBounds {Time} kind =
    (tied : ℕ → Bool) (lines : List Line) (setting : ℕ → Option Bool) (vector : ℕ → Bool) → Lawful lines → AgreesWith (inputs lines) setting vector → (line : ℕ) → line < length lines
    → (late : Time) × (latest_at (latest_line (latest kind tied lines setting) line) (settled_line kind (settled kind tied lines vector) line).value ≡ Some late)
    × NoLater kind (settled_line kind (settled kind tied lines vector) line).time late

-- where the setting decides every input, the latest time at the final value is the settle time, and there is none at the other value
abbrev pub LatestExact : {Time : Type 0} → Kind Time → Type 0
LatestExact kind =
    (tied : ℕ → Bool) (lines : List Line) (setting : ℕ → Option Bool) (vector : ℕ → Bool) → Lawful lines → DecidesAll (inputs lines) setting vector → (line : ℕ) → line < length lines
    → (latest_at (latest_line (latest kind tied lines setting) line) (settled_line kind (settled kind tied lines vector) line).value ≡ Some (settled_line kind (settled kind tied lines vector) line).time)
    × (latest_at (latest_line (latest kind tied lines setting) line) (not (settled_line kind (settled kind tied lines vector) line).value) ≡ None)

-- a latest time is missing or before the bound
abbrev pub cut : {Time : Type 0} → Kind Time → Time → Option Time → Bool
cut kind bound None = true
cut kind bound (Some late) = not (kind.at_or_before bound late)

-- where a setting is cut for a line, value and bound, no vector that agrees with it settles the line at the value at or after the bound
abbrev pub CutHidesNone : {Time : Type 0} → Kind Time → Type 0
CutHidesNone {Time} kind =
    (tied : ℕ → Bool) (lines : List Line) (setting : ℕ → Option Bool) (vector : ℕ → Bool) (bound : Time) → Lawful lines → AgreesWith (inputs lines) setting vector → (line : ℕ) → line < length lines
    → cut kind bound (latest_at (latest_line (latest kind tied lines setting) line) (settled_line kind (settled kind tied lines vector) line).value) ≡ true
    → NoLater kind bound (settled_line kind (settled kind tied lines vector) line).time → ⊥

-- an uncut setting that decides every input is a vector that settles the line at the value at or after the bound
abbrev pub UncutIsFound : {Time : Type 0} → Kind Time → Type 0
UncutIsFound {Time} kind =
    (tied : ℕ → Bool) (lines : List Line) (setting : ℕ → Option Bool) (vector : ℕ → Bool) (bound : Time) (value : Bool) → Lawful lines → DecidesAll (inputs lines) setting vector → (line : ℕ) → line < length lines
    → cut kind bound (latest_at (latest_line (latest kind tied lines setting) line) value) ≡ false
    → ((settled_line kind (settled kind tied lines vector) line).value ≡ value) × NoLater kind bound (settled_line kind (settled kind tied lines vector) line).time
