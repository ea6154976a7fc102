-- What the searches of a network come to, for a kind of time. Assumes nothing: these are statements.
use Rattle.std.specs.Prelude.{◌≡◌, ℕ, ◌<◌, Bool, List, length, Some}
use Rattle.lines.specs.declared.line.Line.{Line}
use Rattle.lines.specs.Lines.{Lawful, inputs}
use Rattle.times.specs.Kind.{Kind}
use Rattle.search.specs.Search.{Setting, Searched}
use Rattle.search.specs.Worst.{Reached, Worst}
use Rattle.seeking.specs.Seeking.{Late, seek_search, worst_search, settle_time}

-- the search of a network shows the first late vector, or nothing exactly where there is none
abbrev pub SeekStands : {Time : Type 0} → Kind Time → Type 0
SeekStands {Time} kind =
    (lines : List Line) (ties : Setting) (line : ℕ) (value : Bool) (bound : Time) → Lawful lines → length ties ≡ inputs lines → line < length lines
    → Searched (Late kind lines ties line value bound) ties (seek_search kind lines ties line value bound)

-- the search for the worst shows the greatest settle time and the first vector that reaches it
abbrev pub WorstStands : {Time : Type 0} → Kind Time → Type 0
WorstStands {Time} kind =
    (lines : List Line) (ties : Setting) (line : ℕ) → Lawful lines → length ties ≡ inputs lines → line < length lines
    → (r : Reached Time) × (worst_search kind lines ties line ≡ Some r) × Worst kind.at_or_before (settle_time kind lines ties line) ties r.at r.time
