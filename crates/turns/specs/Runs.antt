-- Runs of calls in any order, whichever are refused. Assumes nothing.
--     changed_by plain asked       what an accepted call makes of the plain study
--     After opened calls plain     the plain study after some calls, the latest first; no reply has a part in it
--     Run .. past calls replies    the replies to calls made one after another, when some turns are past
use Rattle.std.specs.Prelude.{◌≡◌, ℕ, List, [], ◌∷◌, map, Some, None}
use Rattle.network.specs.Least.{NothingWrong}
use Rattle.times.specs.Kind.{Kind}
use Rattle.turns.specs.Asked.{Asked, settle, seek, worst, shorten, lengthen, tie, untie, Told}
use Rattle.turns.specs.Answers.{Past, Answers}
use Rattle.turns.specs.Plain.{Plain, delayed, tied, is_one}
use Rattle.turns.specs.Refusals.{Wrong}

abbrev pub changed_by : {Time : Type 0} → Plain → Asked Time → Plain
changed_by plain (settle vector values times) = plain
changed_by plain (seek line value bound vector work) = plain
changed_by plain (worst line vector work) = plain
changed_by plain (shorten line delay) = delayed plain line delay
changed_by plain (lengthen line delay) = delayed plain line delay
changed_by plain (tie line value) = tied plain line (Some (is_one value))
changed_by plain (untie line) = tied plain line None

-- a call is refused where a number fits it, and changes nothing; it is accepted where none fits
pub data After {Time : Type 0} (opened : Plain) : List (Asked Time) → Plain → Type 0 where
  at_first : After opened [] opened
  refused : {calls : List (Asked Time)} {plain : Plain} {asked : Asked Time}
      → After opened calls plain → (number : ℕ) → Wrong plain asked number → After opened (asked ∷ calls) plain
  accepted : {calls : List (Asked Time)} {plain : Plain} {asked : Asked Time}
      → After opened calls plain → NothingWrong (Wrong plain asked) → After opened (asked ∷ calls) (changed_by plain asked)

-- the calls determine the plain study
abbrev pub AfterOnce : Type 0 → Type 0
AfterOnce Time = (opened : Plain) (calls : List (Asked Time)) (a b : Plain) → After opened calls a → After opened calls b → a ≡ b

abbrev pub calls_in : {Time : Type 0} → Past Time → List (Asked Time)
calls_in past = map (λ turn. turn.call) past

-- each reply answers its call on the plain study after the calls before it
pub data Run {Time : Type 0} (kind : Kind Time) (opened : Plain) : Past Time → List (Asked Time) → List (Told Time) → Type 0 where
  ended : {past : Past Time} → Run kind opened past [] []
  goes_on : {past : Past Time} {plain : Plain} {call : Asked Time} {reply : Told Time} {calls : List (Asked Time)} {replies : List (Told Time)}
      → After opened (calls_in past) plain → Answers kind plain past call reply
      → Run kind opened (record { call = call; reply = reply } ∷ past) calls replies → Run kind opened past (call ∷ calls) (reply ∷ replies)
