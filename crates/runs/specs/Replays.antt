-- A run of calls from the opening on. Assumes nothing.
--     ReplayWrong     the numbers that fit: the buffer of ceilings has two places for each line, the room one for each reply
--     Replayed         refused with the smallest number that fits, or each reply is right where none fits
use Rattle.std.specs.Prelude.{ℕ, ◌*◌, ◌<◌, List, [], map, length, Ok, Err, vec_items, Result, Vec}
use Rattle.std.specs.declared.alloc.Global.{Global}
use Rattle.lines.specs.declared.line.Line.{Line}
use Rattle.network.specs.Least.{Least, NothingWrong}
use Rattle.times.specs.Kind.{Kind}
use Rattle.turns.specs.declared.calls.Call.{Call}
use Rattle.turns.specs.declared.calls.Reply.{Reply}
use Rattle.turns.specs.declared.fault.StudyFault.{StudyFault}
use Rattle.turns.specs.Asked.{asked, told}
use Rattle.turns.specs.Plain.{opened}
use Rattle.turns.specs.Refusals.{number}
use Rattle.turns.specs.Runs.{Run}

pub data ReplayWrong (lines ceilings room calls : ℕ) : ℕ → Type 0 where
  few_ceilings : ceilings < 2 * lines → ReplayWrong lines ceilings room calls 14
  few_replies : room < calls → ReplayWrong lines ceilings room calls 14

abbrev pub Replayed : {Time : Type 0} → Kind Time → List Line → ℕ → ℕ → List (Call Time) → Result (Vec (Reply Time) Global) StudyFault → Type 0
Replayed kind lines ceilings room calls (Ok replies) =
    NothingWrong (ReplayWrong (length lines) ceilings room (length calls)) × Run kind (opened lines) [] (map asked calls) (map told (vec_items replies))
Replayed kind lines ceilings room calls (Err fault) = Least (ReplayWrong (length lines) ceilings room (length calls)) (number fault)
