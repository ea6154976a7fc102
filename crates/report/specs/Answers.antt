-- What is printed of a sheet: from its bytes to the bytes of the answer. Assumes nothing.
--     line_forms s            the line forms of a sheet that drew s: the cells that have names, in the order of their numbers
--     Printed lines forms     for each form the greatest settle time over all vectors, and the first vector that reaches it
use Rattle.std.specs.Prelude.{ℕ, suc, List, [], ◌∷◌, ◌++◌, drop, replicate, Some, None, Option}
use Rattle.families.specs.Tables.{Tables}
use Rattle.lines.specs.declared.line.Line.{Line}
use Rattle.lines.specs.Lines.{inputs}
use Rattle.network.specs.Sketches.{Sketch}
use Rattle.times.specs.declared.ticks.Ticks.{Ticks}
use Rattle.times.specs.Kinds.{ticks_kind}
use Rattle.drawing.specs.Drawing.{Answer}
use Rattle.drawing.specs.Reading.{Reading}
use Rattle.search.specs.Search.{Vector, Setting}
use Rattle.search.specs.Worst.{Worst}
use Rattle.seeking.specs.Seeking.{settle_time}
use Rattle.report.specs.Texts.{refused_text, worst_text}

pub record LineForm : Type 0 where
  pub number : ℕ
  pub name : List ℕ

-- the lines that have names, where the lines are numbered from there on
abbrev pub named_from : ℕ → List (Option (List ℕ)) → List LineForm
named_from number [] = []
named_from number (None ∷ names) = named_from (suc number) names
named_from number (Some name ∷ names) = record { number = number; name = name } ∷ named_from (suc number) names

-- the inputs come first
abbrev pub line_forms : Sketch → List LineForm
line_forms s = named_from (inputs s.lines) (drop (inputs s.lines) s.names)

-- no input is tied
abbrev pub untied : List Line → Setting
untied lines = replicate (inputs lines) None

-- t is the line's greatest settle time over all vectors, and w the first vector that reaches it
abbrev pub IsWorst : List Line → ℕ → Vector → Ticks → Type 0
IsWorst lines line w t = Worst ticks_kind.at_or_before (settle_time ticks_kind lines (untied lines) line) (untied lines) w t

pub data Printed (lines : List Line) : List LineForm → List ℕ → Type 0 where
  nothing : Printed lines [] []
  one_more : {forms : List LineForm} {out : List ℕ} (form : LineForm) (w : Vector) (t : Ticks)
      → IsWorst lines form.number w t → Printed lines forms out → Printed lines (form ∷ forms) (worst_text form.name t.ticks w ++ out)

-- the refusal of the sheet, or its line forms
pub data Answered (family : Tables) (sheet : List ℕ) : List ℕ → Type 0 where
  refused_so : {number place : ℕ} → Reading family sheet (Answer.refused number place) → Answered family sheet (refused_text number place)
  drawn_so : {s : Sketch} {out : List ℕ} → Reading family sheet (Answer.done s) → Printed s.lines (line_forms s) out → Answered family sheet out
