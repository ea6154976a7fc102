-- The run that answers a sheet: one call for each line form, and what its replies tell. Assumes nothing.
--     AsksWorst forms calls       a worst for each form, with places for all inputs and lines
--     Reaches lines forms replies each reply shows its form's worst vector
use Rattle.std.specs.Prelude.{◌≡◌, ℕ, List, [], ◌∷◌, length, Ok}
use Rattle.lines.specs.declared.line.Line.{Line}
use Rattle.lines.specs.Limits.{max_inputs, max_lines}
use Rattle.settling.specs.declared.latest.Latest.{Latest}
use Rattle.times.specs.declared.ticks.Ticks.{Ticks}
use Rattle.search.specs.Search.{Vector}
use Rattle.turns.specs.declared.answers.Greatest.{Greatest}
use Rattle.turns.specs.Asked.{Asked, Told, worst, told_worst}
use Rattle.turns.specs.Plain.{written}
use Rattle.report.specs.Answers.{LineForm, IsWorst}

pub data AsksWorst : List LineForm → List (Asked Ticks) → Type 0 where
  no_call : AsksWorst [] []
  a_call : {forms : List LineForm} {calls : List (Asked Ticks)} (form : LineForm) (vector : List ℕ) (work : List (Latest Ticks))
      → length vector ≡ max_inputs → length work ≡ max_lines → AsksWorst forms calls → AsksWorst (form ∷ forms) (worst form.number vector work ∷ calls)

pub data Reaches (lines : List Line) : List LineForm → List (Told Ticks) → Type 0 where
  no_reply : Reaches lines [] []
  a_reply : {forms : List LineForm} {replies : List (Told Ticks)} (form : LineForm) (greatest : Greatest Ticks) (w : Vector) (vector : List ℕ) (work : List (Latest Ticks))
      → IsWorst lines form.number w greatest.time → Reaches lines forms replies
      → Reaches lines (form ∷ forms) (told_worst (Ok greatest) (written w vector) work ∷ replies)
