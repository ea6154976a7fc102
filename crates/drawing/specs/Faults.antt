-- The refusals of a sheet: the number and the place of each. Assumes nothing.
use Rattle.std.specs.Prelude.{ℕ, Ok, Err, Result}
use Rattle.network.specs.Refusals.{number}
use Rattle.network.specs.declared.fault.DraftFault.{DraftFault}
use Rattle.grammar.specs.Faults.{fault_number, fault_place}
use Rattle.drawing.specs.declared.fault.Placed.{Placed}
use Rattle.drawing.specs.declared.fault.SheetFault.{SheetFault}
use Rattle.drawing.specs.declared.fault.SheetFault.TheVariants.{Grammar, NoLine, Draft}
use Rattle.drawing.specs.Drawing.{Answer}

pub record Refusal : Type 0 where
  pub number : ℕ
  pub place : ℕ

-- the grammar's and the draft's faults keep their own numbers; 3 is a name of no line
abbrev pub refusal : SheetFault → Refusal
refusal (Grammar fault) = record { number = fault_number fault; place = fault_place fault }
refusal (NoLine place) = record { number = 3; place = place }
refusal (Draft fault place) = record { number = number fault; place = place }

abbrev pub refused_by : {X : Type 0} → SheetFault → Answer X
refused_by fault = Answer.refused (refusal fault).number (refusal fault).place

-- what a call that drew x, or refused, has answered
abbrev pub answered : {X : Type 0} → Result (Unit {0}) SheetFault → X → Answer X
answered (Ok _) x = Answer.done x
answered (Err fault) x = refused_by fault

-- a result of the draft, its refusal beside its place
abbrev pub placed : {X : Type 0} → ℕ → Result X DraftFault → Result X Placed
placed place (Ok x) = Ok x
placed place (Err fault) = Err (record { fault = fault; place = place })
