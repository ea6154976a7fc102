-- A network searched for late vectors. Vectors and settings are lists, input 0 first; the ties are a setting. Assumes nothing.
--     final_value, settle_time     of a line, under a vector
--     Late, NoneLate              the line settles to the value at or after the bound; no agreeing vector does that to it
--     latest_time, cuts            a line's latest time for a value under a setting; the setting is cut by it
--     seek_search, worst_search    the two searches
use Rattle.std.specs.Prelude.{◌≡◌, ℕ, Bool, true, false, List, Option}
use Rattle.lines.specs.declared.line.Line.{Line}
use Rattle.times.specs.Kind.{Kind, NoLater}
use Rattle.cells.specs.Firsts.{first, at_or_after}
use Rattle.settling.specs.declared.latest.Latest.{Latest}
use Rattle.settling.specs.declared.settle.Settled.{Settled}
use Rattle.settling.specs.Settle.{settled, settled_line, in_vector, tied_by}
use Rattle.settling.specs.Latest.{latest, latest_line, latest_at, in_setting, cut}
use Rattle.search.specs.Search.{Vector, Setting, Agrees, Outcome, first_vector}
use Rattle.search.specs.Worst.{Reached, worst_vector}

-- how a line settles under a vector: its final value and its settle time
abbrev pub line_settled : {Time : Type 0} → Kind Time → List Line → Setting → ℕ → Vector → Settled Time
line_settled kind lines ties line v = settled_line kind (settled kind (tied_by ties) lines (in_vector v)) line

abbrev pub final_value : {Time : Type 0} → Kind Time → List Line → Setting → ℕ → Vector → Bool
final_value kind lines ties line v = (line_settled kind lines ties line v).value

abbrev pub settle_time : {Time : Type 0} → Kind Time → List Line → Setting → ℕ → Vector → Time
settle_time kind lines ties line v = (line_settled kind lines ties line v).time

-- under the vector the line has that final value, and settles at the bound or later
pub record Late {Time : Type 0} (kind : Kind Time) (lines : List Line) (ties : Setting) (line : ℕ) (value : Bool) (bound : Time) (v : Vector) : Type 0 where
  pub final_is : final_value kind lines ties line v ≡ value
  pub not_before : NoLater kind bound (settle_time kind lines ties line v)

-- no vector that agrees with the ties is late
abbrev pub NoneLate : {Time : Type 0} → Kind Time → List Line → Setting → ℕ → Bool → Time → Type 0
NoneLate kind lines ties line value bound = (v : Vector) → Agrees v ties → Late kind lines ties line value bound v → ⊥

-- a line's latest times under a setting, at 0 and at 1
abbrev pub line_latest : {Time : Type 0} → Kind Time → List Line → Setting → ℕ → Setting → Latest Time
line_latest kind lines ties line setting = latest_line (latest kind (tied_by ties) lines (in_setting setting)) line

abbrev pub latest_time : {Time : Type 0} → Kind Time → List Line → Setting → ℕ → Bool → Setting → Option Time
latest_time kind lines ties line value setting = latest_at (line_latest kind lines ties line setting) value

-- a setting is cut when the latest time is missing or before the bound
abbrev pub cuts : {Time : Type 0} → Kind Time → List Line → Setting → ℕ → Bool → Time → Setting → Bool
cuts kind lines ties line value bound setting = cut kind bound (latest_time kind lines ties line value setting)

-- the search for a vector that settles the line to the value at or after the bound
abbrev pub seek_search : {Time : Type 0} → Kind Time → List Line → Setting → ℕ → Bool → Time → Outcome
seek_search kind lines ties line value bound = first_vector (cuts kind lines ties line value bound) ties

-- a line's latest time under a setting, at either value: the later of the two
abbrev pub latest_of_both : {Time : Type 0} → Kind Time → List Line → Setting → ℕ → Setting → Option Time
latest_of_both kind lines ties line setting = first (at_or_after kind) (latest_time kind lines ties line false setting) (latest_time kind lines ties line true setting)

-- the search for the greatest settle time
abbrev pub worst_search : {Time : Type 0} → Kind Time → List Line → Setting → ℕ → Option (Reached Time)
worst_search kind lines ties line = worst_vector kind.at_or_before (latest_of_both kind lines ties line) ties
