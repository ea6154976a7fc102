-- What is said of a text: the length first, then 1 and 7 by place; otherwise it is a sheet, with its forms. Assumes nothing.
use Rattle.std.specs.Prelude.{◌≡◌, ℕ, ◌<◌, ◌≤◌, List, length}
use Rattle.sheets.specs.Sheet.{max_sheet, max_depth, Form, LawfulForms, sheet_depth, sheet_text, Broken, TooDeep}

pub data Verdict : Type 0 where
  -- 6, at the first byte that a sheet cannot have
  too_long : Verdict
  -- 1, at its place
  broken : (place : ℕ) → Verdict
  -- 7, at its place
  too_deep : (place : ℕ) → Verdict
  sheet : List Form → Verdict

pub data Judged (text : List ℕ) : Verdict → Type 0 where
  is_too_long : max_sheet < length text → Judged text too_long
  is_broken : length text ≤ max_sheet → (place : ℕ) → Broken text place → Judged text (broken place)
  is_too_deep : length text ≤ max_sheet → (place : ℕ) → TooDeep text place → Judged text (too_deep place)
  is_sheet : length text ≤ max_sheet → (forms : List Form) → LawfulForms forms → sheet_depth forms ≤ max_depth → sheet_text forms ≡ text → Judged text (sheet forms)

-- no text has two verdicts: the forms of a sheet, and the place of a refusal, are determined by the bytes
abbrev pub OneVerdict : Type 0
OneVerdict = (text : List ℕ) (a b : Verdict) → Judged text a → Judged text b → a ≡ b
