-- Final values and settle times of a network's lines under a vector. Assumes nothing.
--     tied number                 whether the input of that number is tied
--     vector number               the value of the input of that number
--     all number                  the final value and settle time of the line of that number
--     LineRule .. all number ..   the line follows its rule, given how the lines at its pins settle
--     Settles .. lines vector all   every line follows its rule
--     settled .. lines vector     the same, worked out from line 0 on
use Rattle.std.specs.Prelude.{◌≡◌, ℕ, ◌<◌, ◌≤◌, Bool, false, List, [], ◌∷◌, ◌++◌, length, is_some, None, Option, slice_index_or}
use Rattle.lines.specs.declared.line.Cell.{Cell}
use Rattle.lines.specs.declared.line.Driver.{Driver}
use Rattle.lines.specs.declared.line.Driver.TheVariants.{Input, Output}
use Rattle.lines.specs.declared.line.Line.{Line}
use Rattle.lines.specs.Lines.{line_at, feeder, delay_at, Lawful}
use Rattle.times.specs.Kind.{Kind, NoLater}
use Rattle.cells.specs.Tables.{bit, row}
use Rattle.cells.specs.Deciding.{Decided, decide, listed}
use Rattle.settling.specs.declared.settle.Settled.{Settled}

-- the settle time of an input at a value: the start followed by its delay, tied or not
abbrev pub input_time : {Time : Type 0} → Kind Time → Bool → Line → Bool → Time
input_time kind tied line value = kind.after kind.start (delay_at line value)

-- the row number of a cell's pins, where each line has its value
abbrev pub pin_row : (ℕ → Bool) → Cell → ℕ
pin_row value cell = row cell.count (λ pin. value (feeder cell pin))

abbrev pub values_of : {Time : Type 0} → (ℕ → Settled Time) → ℕ → Bool
values_of all number = (all number).value

abbrev pub times_of : {Time : Type 0} → (ℕ → Settled Time) → ℕ → Time
times_of all number = (all number).time

-- an input has the value given, and settles at its input time
pub record InputSettles {Time : Type 0} (kind : Kind Time) (tied : Bool) (line : Line) (given : Bool) (settled : Settled Time) : Type 0 where
  pub value_is : settled.value ≡ given
  pub time_is : settled.time ≡ input_time kind tied line settled.value

-- a cell has the output of its table in the row of its pins' values; its pins decide that by the force rule, and its delay follows
pub record CellSettles {Time : Type 0} (kind : Kind Time) (all : ℕ → Settled Time) (line : Line) (cell : Cell) (settled : Settled Time) : Type 0 where
  pub value_is : settled.value ≡ bit cell.table (pin_row (values_of all) cell)
  pub from : Time
  pub decided : Decided kind cell.table cell.count (pin_row (values_of all) cell) (λ pin. times_of all (feeder cell pin)) from
  pub time_is : settled.time ≡ kind.after from (delay_at line settled.value)

abbrev pub LineRule : {Time : Type 0} → Kind Time → (ℕ → Bool) → (ℕ → Bool) → (ℕ → Settled Time) → ℕ → Line → Driver → Type 0
LineRule kind tied vector all number line Input = InputSettles kind (tied number) line (vector number) (all number)
LineRule kind tied vector all number line (Output cell) = CellSettles kind all line cell (all number)

-- every line follows its rule
abbrev pub Settles : {Time : Type 0} → Kind Time → (ℕ → Bool) → List Line → (ℕ → Bool) → (ℕ → Settled Time) → Type 0
Settles kind tied lines vector all =
    (number : ℕ) → number < length lines → LineRule kind tied vector all number (line_at lines number) (line_at lines number).driver

-- the same, computed

-- what is known of each line, worked out from line 0 on: `step` answers for a line from what is known of those below it
abbrev pub worked_out : {Known : Type 0} → (List Known → Line → Known) → List Known → List Line → List Known
worked_out step known [] = known
worked_out step known (line ∷ lines) = worked_out step (known ++ (step known line ∷ [])) lines

-- what is read past the last line, which no lawful cell does
abbrev pub nothing_settled : {Time : Type 0} → Kind Time → Settled Time
nothing_settled kind = record { value = false; time = kind.start }

abbrev pub settled_line : {Time : Type 0} → Kind Time → List (Settled Time) → ℕ → Settled Time
settled_line kind known number = slice_index_or known number (nothing_settled kind)

-- how a cell settles, by the row of its pins' values and their times
abbrev pub settle_cell : {Time : Type 0} → Kind Time → Line → Cell → ℕ → (ℕ → Time) → Settled Time
settle_cell kind line cell row time = record {
  value = bit cell.table row;
  time = kind.after (decide kind cell.table cell.count row time) (delay_at line (bit cell.table row));
}

-- how a line settles, by its number, and by how the lines below it settle
abbrev pub settle_driver : {Time : Type 0} → Kind Time → (ℕ → Bool) → (ℕ → Bool) → ℕ → (ℕ → Settled Time) → Line → Driver → Settled Time
settle_driver kind tied vector number all line Input = record { value = vector number; time = input_time kind (tied number) line (vector number) }
settle_driver kind tied vector number all line (Output cell) = settle_cell kind line cell (pin_row (values_of all) cell) (λ pin. times_of all (feeder cell pin))

abbrev pub settle_line : {Time : Type 0} → Kind Time → (ℕ → Bool) → (ℕ → Bool) → List (Settled Time) → Line → Settled Time
settle_line kind tied vector known line = settle_driver kind tied vector (length known) (settled_line kind known) line line.driver

-- the final value and settle time of every line
unfoldable pub settled : {Time : Type 0} → Kind Time → (ℕ → Bool) → List Line → (ℕ → Bool) → List (Settled Time)
settled kind tied lines vector = worked_out (settle_line kind tied vector) [] lines

-- as the code has them

-- values by number, of the inputs or of the lines
abbrev pub in_vector : List Bool → ℕ → Bool
in_vector values number = slice_index_or values number false

-- the tied inputs, by the ties: for each input its value, or None where it is untied
abbrev pub tied_by : List (Option Bool) → ℕ → Bool
tied_by ties number = is_some (slice_index_or ties number None)

-- lines by number, from a buffer of values and one of times
abbrev pub as_settled : {Time : Type 0} → Kind Time → List Bool → List Time → ℕ → Settled Time
as_settled kind values times number = record { value = in_vector values number; time = listed kind times number }

abbrev pub settled_value : {Time : Type 0} → Settled Time → Bool
settled_value line = line.value

abbrev pub settled_time : {Time : Type 0} → Settled Time → Time
settled_time line = line.time

-- the theorems, for a kind of time

-- the rules give one way to settle: values and times that follow them are the ones worked out
abbrev pub RulesGiveSettled : {Time : Type 0} → Kind Time → Type 0
RulesGiveSettled {Time} kind =
    (tied : ℕ → Bool) (lines : List Line) (vector : ℕ → Bool) → Lawful lines
    → Settles kind tied lines vector (settled_line kind (settled kind tied lines vector))
    × ((all : ℕ → Settled Time) → Settles kind tied lines vector all → (number : ℕ) → number < length lines → all number ≡ settled_line kind (settled kind tied lines vector) number)

-- the same line, with a delay no greater
pub record ShorterLine (short long : Line) : Type 0 where
  pub same_driver : short.driver ≡ long.driver
  pub no_greater : (value : Bool) → delay_at short value ≤ delay_at long value

-- the same lines, with delays no greater
pub record Shorter (short long : List Line) : Type 0 where
  pub as_many : length short ≡ length long
  pub each : (number : ℕ) → number < length long → ShorterLine (line_at short number) (line_at long number)

-- with delays no greater, every line has the same final value and settles no later; the only one that rests on the law of longer delays
abbrev pub ShorterSettlesNoLater : {Time : Type 0} → Kind Time → Type 0
ShorterSettlesNoLater kind =
    (tied : ℕ → Bool) (short long : List Line) (vector : ℕ → Bool) → Lawful short → Lawful long → Shorter short long → (line : ℕ) → line < length long
    → ((settled_line kind (settled kind tied short vector) line).value ≡ (settled_line kind (settled kind tied long vector) line).value)
    × NoLater kind (settled_line kind (settled kind tied short vector) line).time (settled_line kind (settled kind tied long vector) line).time
