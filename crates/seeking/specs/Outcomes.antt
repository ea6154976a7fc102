-- What the code of a search answers and leaves. Assumes nothing.
use Rattle.std.specs.Prelude.{◌≡◌, ℕ, List, Some, None, Option}
use Rattle.lines.specs.declared.line.Line.{Line}
use Rattle.times.specs.Kind.{Kind}
use Rattle.search.specs.Search.{Vector, Setting, Outcome}
use Rattle.search.specs.Walk.{left_at}
use Rattle.seeking.specs.Seeking.{settle_time}

-- the line's settle time under the vector found
abbrev pub time_found : {Time : Type 0} → Kind Time → List Line → Setting → ℕ → Option Vector → Option Time
time_found kind lines ties line (Some w) = Some (settle_time kind lines ties line w)
time_found kind lines ties line None = None

-- the time and looks answered, and the setting left: all inputs as in the vector found, or else the ties
pub record LookedFor {Time : Type 0} (kind : Kind Time) (lines : List Line) (ties : Setting) (line : ℕ) (outcome : Outcome) (after : Setting) (found : Option Time) (looks : ℕ) : Type 0 where
  pub found_is : found ≡ time_found kind lines ties line outcome.found
  pub setting_is : after ≡ left_at outcome.found ties
  pub looks_are : looks ≡ outcome.looks
