-- The refusals of a study: their numbers, and which numbers fit a call. They depend on the plain study, the call's own
-- arguments, and how many places its buffers have. Assumes nothing.
--     number fault         the number of a refusal
--     Wrong plain asked    the numbers that fit a call on a plain study
--     Checked Wrong r      no number fits, or the smallest that does
use Rattle.std.specs.Prelude.{◌≡◌, ℕ, ◌<◌, ◌≤◌, Bool, List, length, Some, None, Ok, Err, Result, ◌≢◌, slice_index, slice_index_or}
use Rattle.lines.specs.Limits.{max_delay}
use Rattle.lines.specs.Lines.{line_at}
use Rattle.network.specs.Least.{Least, NothingWrong}
use Rattle.turns.specs.declared.fault.StudyFault.{StudyFault}
use Rattle.turns.specs.declared.fault.StudyFault.TheVariants.{DelayAbove, NoLine, NoBit, TieAgainst, NoSuchChange, ShortBuffer}
use Rattle.turns.specs.Asked.{Asked, settle, seek, worst, shorten, lengthen, tie, untie}
use Rattle.turns.specs.Plain.{Plain, byte}

-- the number of each refusal
abbrev pub number : StudyFault → ℕ
number DelayAbove = 5
number NoLine = 10
number NoBit = 11
number TieAgainst = 12
number NoSuchChange = 13
number ShortBuffer = 14

abbrev pub Checked : {X : Type 0} → (ℕ → Type 0) → Result X StudyFault → Type 0
Checked Wrong (Ok _) = NothingWrong Wrong
Checked Wrong (Err fault) = Least Wrong (number fault)

-- settle: the vector is as long as the inputs, its bytes are 0 and 1 and have the value of each tied input, and each buffer
-- has a place for each line
pub data SettleWrong (plain : Plain) (vector : List ℕ) (values times : ℕ) : ℕ → Type 0 where
  not_as_long : (length vector ≢ length plain.ties) → SettleWrong plain vector values times 11
  no_bit : (input : ℕ) → input < length vector → 1 < slice_index vector input → SettleWrong plain vector values times 11
  against_tie : (input : ℕ) (value : Bool) → slice_index_or plain.ties input None ≡ Some value → (slice_index vector input ≢ byte value) → SettleWrong plain vector values times 12
  few_values : values < length plain.lines → SettleWrong plain vector values times 14
  few_times : times < length plain.lines → SettleWrong plain vector values times 14

-- seek: the line is present, the value is 0 or 1, the vector's buffer has a place for each input and the work's for each line
pub data SeekWrong (plain : Plain) (line value room work : ℕ) : ℕ → Type 0 where
  no_line : length plain.lines ≤ line → SeekWrong plain line value room work 10
  no_bit : 1 < value → SeekWrong plain line value room work 11
  short_vector : room < length plain.ties → SeekWrong plain line value room work 14
  few_work : work < length plain.lines → SeekWrong plain line value room work 14

-- worst: the line is present, and the buffers have their places
pub data WorstWrong (plain : Plain) (line room work : ℕ) : ℕ → Type 0 where
  no_line : length plain.lines ≤ line → WorstWrong plain line room work 10
  short_vector : room < length plain.ties → WorstWrong plain line room work 14
  few_work : work < length plain.lines → WorstWrong plain line room work 14

-- shorten: the delay is not above the greatest, the line is present, its present delay is not less
pub data ShortenWrong (plain : Plain) (line delay : ℕ) : ℕ → Type 0 where
  delay_above : max_delay < delay → ShortenWrong plain line delay 5
  no_line : length plain.lines ≤ line → ShortenWrong plain line delay 10
  more : line < length plain.lines → (line_at plain.lines line).delay < delay → ShortenWrong plain line delay 13

-- lengthen: the same, but the present delay is less
pub data LengthenWrong (plain : Plain) (line delay : ℕ) : ℕ → Type 0 where
  delay_above : max_delay < delay → LengthenWrong plain line delay 5
  no_line : length plain.lines ≤ line → LengthenWrong plain line delay 10
  same_or_less : line < length plain.lines → delay ≤ (line_at plain.lines line).delay → LengthenWrong plain line delay 13

-- tie: the line is present, the value is 0 or 1, and the line is an input without a tie
pub data TieWrong (plain : Plain) (line value : ℕ) : ℕ → Type 0 where
  no_line : length plain.lines ≤ line → TieWrong plain line value 10
  no_bit : 1 < value → TieWrong plain line value 11
  a_cell : line < length plain.lines → length plain.ties ≤ line → TieWrong plain line value 12
  tied_already : (at : Bool) → slice_index_or plain.ties line None ≡ Some at → TieWrong plain line value 12

-- untie: the line is present and has a tie
pub data UntieWrong (plain : Plain) (line : ℕ) : ℕ → Type 0 where
  no_line : length plain.lines ≤ line → UntieWrong plain line 10
  without_tie : line < length plain.lines → slice_index_or plain.ties line None ≡ None → UntieWrong plain line 12

abbrev pub Wrong : {Time : Type 0} → Plain → Asked Time → ℕ → Type 0
Wrong plain (settle vector values times) = SettleWrong plain vector (length values) (length times)
Wrong plain (seek line value bound vector work) = SeekWrong plain line value (length vector) (length work)
Wrong plain (worst line vector work) = WorstWrong plain line (length vector) (length work)
Wrong plain (shorten line delay) = ShortenWrong plain line delay
Wrong plain (lengthen line delay) = LengthenWrong plain line delay
Wrong plain (tie line value) = TieWrong plain line value
Wrong plain (untie line) = UntieWrong plain line
