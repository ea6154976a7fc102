-- What is printed of replies, in their order. Assumes nothing.
use Rattle.std.specs.Prelude.{◌≡◌, ℕ, List, [], ◌∷◌, ◌++◌, take, Ok, Err}
use Rattle.times.specs.declared.ticks.Ticks.{Ticks}
use Rattle.turns.specs.Asked.{Told, told_settle, told_seek, told_worst, told_change}
use Rattle.turns.specs.Plain.{bits}
use Rattle.network.specs.Sketches.{Sketch}
use Rattle.report.specs.Answers.{Printed, line_forms}
use Rattle.report.specs.Texts.{worst_text}

-- an accepted worst, of a network with so many inputs, under the name of its line; nothing of any other reply
abbrev pub told_form : ℕ → List ℕ → Told Ticks → List ℕ
told_form inputs name (told_worst (Ok greatest) vector work) = worst_text name greatest.time.ticks (bits (take inputs vector))
told_form inputs name (told_worst (Err fault) vector work) = []
told_form inputs name (told_settle outcome values times) = []
told_form inputs name (told_seek outcome vector work) = []
told_form inputs name (told_change outcome) = []

abbrev pub told_forms : ℕ → List (List ℕ) → List (Told Ticks) → List ℕ
told_forms inputs [] replies = []
told_forms inputs (name ∷ names) [] = []
told_forms inputs (name ∷ names) (reply ∷ replies) = told_form inputs name reply ++ told_forms inputs names replies

-- the line forms of a network, at the end of what was there
pub record FormsAdded (s : Sketch) (before after : List ℕ) : Type 0 where
  pub text : List ℕ
  pub printed : Printed s.lines (line_forms s) text
  pub added : after ≡ before ++ text
