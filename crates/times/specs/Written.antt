-- How times are written. Assumes nothing.
use Rattle.std.specs.Prelude.{◌≡◌, ℕ, ◌^◌, ◌<◌, ◌↔◌, ◌==◌, List, ◌∷◌, ◌++◌, length, Option, Some, None, Result, IsErrOf}
use Rattle.std.specs.Fmt.{decimal}
use Rattle.std.specs.List.{position_or_len, before_first, after_first}
use Rattle.std.specs.Result.{OkIff}
use Rattle.std.specs.Str.Parse.{IsNumeral, digits_value, without_leading_plus}
use lib.Chars.{codes}
use Rattle.times.specs.declared.ticks.Ticks.{Ticks}
use Rattle.times.specs.declared.staged.Staged.{Staged}
use Rattle.times.specs.declared.staged.StagedError.{StagedError}
use Rattle.times.specs.declared.staged.StagedError.TheVariants.{NoStages, Number}

-- the byte of `:`
abbrev pub colon : ℕ
colon = 58

-- as `5`
abbrev pub ticks_text : Ticks → List ℕ
ticks_text t = decimal t.ticks

-- as `10:3`
abbrev pub staged_text : Staged → List ℕ
staged_text t = decimal t.ticks ++ (colon ∷ decimal t.stages)

-- the number that decimal digits write, which a `+` may lead
abbrev pub number_of : List ℕ → ℕ
number_of text = digits_value 10 (without_leading_plus text)

-- such digits, of a number that fits so many bits
abbrev pub IsNumber : ℕ → List ℕ → Type 0
IsNumber bits text = IsNumeral 10 (without_leading_plus text) × (number_of text < 2 ^ bits)

-- what is read as ticks
abbrev pub ReadsTicks : {E : Type 0} → List ℕ → Result Ticks E → Type 0
ReadsTicks text read = OkIff read (IsNumber 64 text) (record { ticks = number_of text })

-- the place of the first colon, or the length where there is none
abbrev pub colon_place : List ℕ → ℕ
colon_place text = position_or_len (λ b. b == colon) text

-- what stands before and behind it
abbrev pub ticks_part : List ℕ → List ℕ
ticks_part text = before_first (λ b. b == colon) text

abbrev pub stages_part : List ℕ → List ℕ
stages_part text = after_first (λ b. b == colon) text

-- ticks, a colon and stages
pub record IsStaged (text : List ℕ) : Type 0 where
  pub has_colon : colon_place text < length text
  pub ticks : IsNumber 64 (ticks_part text)
  pub stages : IsNumber 32 (stages_part text)

-- what is read as ticks and stages; the error that is left, `Number`, comes in each other case
pub record ReadsStaged (text : List ℕ) (read : Result Staged StagedError) : Type 0 where
  pub time : OkIff read (IsStaged text) (record { ticks = number_of (ticks_part text); stages = number_of (stages_part text) })
  pub no_stages : IsErrOf read NoStages ↔ (colon_place text ≡ length text)

-- what tells that stages are missing; the library leaves open what it tells of a number
abbrev pub staged_error_text : StagedError → Option (List ℕ)
staged_error_text NoStages = Some (codes "a time has no stages")
staged_error_text (Number _) = None
