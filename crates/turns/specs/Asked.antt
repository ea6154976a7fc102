-- A call and its reply by what they hold: numbers, times, and the places of the buffers as lists. Assumes nothing.
--     Asked            a call as it is made
--     Told             what it answers, and what its buffers hold then
--     asked, told      a call and a reply of the code, by what they hold
use Rattle.std.specs.Prelude.{ℕ, Bool, List, vec_items, Result}
use Rattle.settling.specs.declared.latest.Latest.{Latest}
use Rattle.seeking.specs.declared.seek.Looked.{Looked}
use Rattle.turns.specs.declared.answers.Greatest.{Greatest}
use Rattle.turns.specs.declared.calls.Call.{Call}
use Rattle.turns.specs.declared.calls.Call.TheVariants.{Settle, Seek, Worst, Shorten, Lengthen, Tie, Untie}
use Rattle.turns.specs.declared.calls.Reply.{Reply}
use Rattle.turns.specs.declared.calls.Reply.TheVariants.{Settled, Sought, Reached, Changed}
use Rattle.turns.specs.declared.fault.StudyFault.{StudyFault}

pub data Asked (Time : Type 0) : Type 0 where
  settle : (vector : List ℕ) (values : List Bool) (times : List Time) → Asked Time
  seek : (line value : ℕ) (bound : Time) (vector : List ℕ) (work : List (Latest Time)) → Asked Time
  worst : (line : ℕ) (vector : List ℕ) (work : List (Latest Time)) → Asked Time
  shorten : (line delay : ℕ) → Asked Time
  lengthen : (line delay : ℕ) → Asked Time
  tie : (line value : ℕ) → Asked Time
  untie : (line : ℕ) → Asked Time

pub data Told (Time : Type 0) : Type 0 where
  told_settle : (outcome : Result (Unit {0}) StudyFault) (values : List Bool) (times : List Time) → Told Time
  told_seek : (outcome : Result (Looked Time) StudyFault) (vector : List ℕ) (work : List (Latest Time)) → Told Time
  told_worst : (outcome : Result (Greatest Time) StudyFault) (vector : List ℕ) (work : List (Latest Time)) → Told Time
  told_change : (outcome : Result (Unit {0}) StudyFault) → Told Time

abbrev pub asked : {Time : Type 0} → Call Time → Asked Time
asked (Settle vector values times) = settle (vec_items vector) (vec_items values) (vec_items times)
asked (Seek line value bound vector work) = seek line value bound (vec_items vector) (vec_items work)
asked (Worst line vector work) = worst line (vec_items vector) (vec_items work)
asked (Shorten line delay) = shorten line delay
asked (Lengthen line delay) = lengthen line delay
asked (Tie line value) = tie line value
asked (Untie line) = untie line

abbrev pub told : {Time : Type 0} → Reply Time → Told Time
told (Settled outcome values times) = told_settle outcome (vec_items values) (vec_items times)
told (Sought outcome vector work) = told_seek outcome (vec_items vector) (vec_items work)
told (Reached outcome vector work) = told_worst outcome (vec_items vector) (vec_items work)
told (Changed outcome) = told_change outcome
