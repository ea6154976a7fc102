-- A study and the turns that it has had since it was opened. Assumes nothing.
--     plain_of, ceilings_of     its plain study; its ceilings, two places for each line
--     OpenWrong                the numbers that fit opening it
--     Tests fault wrong r       one test of a call
--     DelayAt .. r              a line's present delay, or why it cannot be changed
--     Stands .. past study      it stands as these turns left it
--     Promises .. call reply    what a call promises, whatever turns the study has had
--     Keeps before after r      what every call keeps
use Rattle.std.specs.Prelude.{◌≡◌, ℕ, ◌+◌, ◌*◌, ◌<◌, ◌≤◌, Bool, true, false, List, ◌∷◌, length, take, is_ok, Some, None, Ok, Err, vec_items, vec_len, Option, Result, slice_index_or}
use Rattle.lines.specs.Limits.{max_delay}
use Rattle.lines.specs.Lines.{line_at}
use Rattle.network.specs.Least.{Least}
use Rattle.times.specs.Kind.{Kind}
use Rattle.seeking.specs.Seeking.{NoneLate}
use Rattle.turns.specs.declared.fault.StudyFault.{StudyFault}
use Rattle.turns.specs.Answers.{Past, Known, Answers}
use Rattle.turns.specs.Asked.{Asked, Told}
use Rattle.turns.specs.Plain.{Plain, is_one}
use Rattle.turns.specs.Refusals.{number, ShortenWrong, LengthenWrong}
use Rattle.turns.specs.Runs.{After, calls_in}
use Rattle.study.specs.declared.study.Study.{Study}

-- the ties of the inputs stand in the first places
abbrev pub plain_of : {Time : Type 0} → Study Time → Plain
plain_of study = record { lines = vec_items study.lines; ties = take study.inputs study.ties }

abbrev pub ceilings_of : {Time : Type 0} → Study Time → List (Option Time)
ceilings_of study = vec_items study.ceilings

-- the place of a line's ceiling for a value, given as its byte
abbrev pub place : ℕ → ℕ → ℕ
place line value = 2 * line + value

abbrev pub ceiling : {Time : Type 0} → Study Time → ℕ → ℕ → Option Time
ceiling study line value = slice_index_or (ceilings_of study) (place line value) None

-- a ceiling is there and at or before a bound
abbrev pub covers : {Time : Type 0} → Kind Time → Time → Option Time → Bool
covers kind bound None = false
covers kind bound (Some at) = kind.at_or_before at bound

-- refused so exactly where this is wrong
abbrev pub Tests : StudyFault → Type 0 → Result (Unit {0}) StudyFault → Type 0
Tests fault Wrong (Ok _) = Wrong → ⊥
Tests fault Wrong (Err found) = (found ≡ fault) × Wrong

-- a line's present delay, where a delay that fits is asked for it; or the smallest number that fits a shorten and a lengthen to it
abbrev pub DelayAt : Plain → ℕ → ℕ → Result ℕ StudyFault → Type 0
DelayAt plain line delay (Ok at) = (delay ≤ max_delay) × (line < length plain.lines) × (at ≡ (line_at plain.lines line).delay)
DelayAt plain line delay (Err fault) = Least (ShortenWrong plain line delay) (number fault) × Least (LengthenWrong plain line delay) (number fault)

-- opening: the buffer of ceilings has two places for each line
pub data OpenWrong (lines places : ℕ) : ℕ → Type 0 where
  few_ceilings : places < 2 * lines → OpenWrong lines places 14

-- the first places hold nothing any more; further places stay
pub record Cleared {Time : Type 0} (places : ℕ) (before after : List (Option Time)) : Type 0 where
  pub as_long : length after ≡ length before
  pub none : (at : ℕ) → at < places → slice_index_or after at None ≡ None
  pub further : (at : ℕ) → places ≤ at → slice_index_or after at None ≡ slice_index_or before at None

-- the plain study is the one after the calls, and the ceilings say what is known from the turns
pub record Stands {Time : Type 0} (kind : Kind Time) (opened : Plain) (past : Past Time) (study : Study Time) : Type 0 where
  pub plain : After opened (calls_in past) (plain_of study)
  -- a ceiling is known, and what is known is below a ceiling
  pub ceiling_known : (line value : ℕ) (bound : Time) → line < length (plain_of study).lines → value ≤ 1 → ceiling study line value ≡ Some bound → Known kind past line value bound
  pub known_covered : (line value : ℕ) (bound : Time) → Known kind past line value bound → covers kind bound (ceiling study line value) ≡ true
  -- what is known is of a line that is present, and still true
  pub known_present : (line value : ℕ) (bound : Time) → Known kind past line value bound → (line < length (plain_of study).lines) × (value ≤ 1)
  pub known_none_late : (line value : ℕ) (bound : Time) → Known kind past line value bound → NoneLate kind (plain_of study).lines (plain_of study).ties line (is_one value) bound

-- after any turns the reply answers the call on the plain study after their calls, and the study stands for one turn more
abbrev pub Promises : {Time : Type 0} → Kind Time → Study Time → Study Time → Asked Time → Told Time → Type 0
Promises {Time} kind before after call reply =
    (opened plain : Plain) (past : Past Time) → Stands kind opened past before → After opened (calls_in past) plain
    → Answers kind plain past call reply × Stands kind opened (record { call = call; reply = reply } ∷ past) after

-- a study as it was, in each of its fields
pub record Unchanged {Time : Type 0} (before after : Study Time) : Type 0 where
  pub lines : after.lines ≡ before.lines
  pub inputs : after.inputs ≡ before.inputs
  pub ties : after.ties ≡ before.ties
  pub ceilings : after.ceilings ≡ before.ceilings

-- places of the ceilings' buffer past the two for each line stay, and a refused call leaves the study as it was
pub record Keeps {Time X : Type 0} (before after : Study Time) (outcome : Result X StudyFault) : Type 0 where
  pub further : (at : ℕ) → 2 * vec_len before.lines ≤ at → slice_index_or (ceilings_of after) at None ≡ slice_index_or (ceilings_of before) at None
  pub refused : is_ok outcome ≡ false → Unchanged before after
