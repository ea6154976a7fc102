-- A text and its answer: the length first, then 1 and 7 by place, then what its forms draw. Assumes nothing.
use Rattle.std.specs.Prelude.{◌≡◌, ℕ, List, Ok, Err, Result}
use Rattle.families.specs.Tables.{Tables}
use Rattle.network.specs.Sketches.{Sketch, empty}
use Rattle.sheets.specs.Sheet.{max_sheet}
use Rattle.sheets.specs.Verdicts.{Verdict, Judged}
use Rattle.drawing.specs.declared.fault.SheetFault.{SheetFault}
use Rattle.drawing.specs.Drawing.{Answer, draw_sheet}
use Rattle.drawing.specs.Faults.{refused_by}

-- the answer to a text of which that is said
abbrev pub answer_to : Tables → Verdict → Answer Sketch
answer_to family Verdict.too_long = Answer.refused 6 max_sheet
answer_to family (Verdict.broken place) = Answer.refused 1 place
answer_to family (Verdict.too_deep place) = Answer.refused 7 place
answer_to family (Verdict.sheet forms) = draw_sheet family forms

pub record Reading (family : Tables) (text : List ℕ) (answer : Answer Sketch) : Type 0 where
  pub verdict : Verdict
  pub judged : Judged text verdict
  pub follows : answer ≡ answer_to family verdict

-- the text has no other answer
abbrev pub OnlyAnswer : Tables → List ℕ → Answer Sketch → Type 0
OnlyAnswer family text answer = (other : Answer Sketch) → Reading family text other → other ≡ answer

-- what a draft holds where a text was read into it: what the text draws, or nothing beside the refusal
abbrev pub SheetRead : Tables → List ℕ → Result (Unit {0}) SheetFault → Sketch → Type 0
SheetRead family text (Ok _) after = Reading family text (Answer.done after)
SheetRead family text (Err fault) after = Reading family text (refused_by fault) × (after ≡ empty)
