-- The refusals of a text: what is said of it, the number and the place. Assumes nothing.
use Rattle.std.specs.Prelude.{ℕ}
use Rattle.sheets.specs.Sheet.{max_sheet}
use Rattle.sheets.specs.Verdicts.{Verdict}
use Rattle.grammar.specs.declared.fault.GrammarFault.{GrammarFault}
use Rattle.grammar.specs.declared.fault.GrammarFault.TheVariants.{TooLong, Broken, TooDeep}

abbrev pub verdict : GrammarFault → Verdict
verdict TooLong = Verdict.too_long
verdict (Broken place) = Verdict.broken place
verdict (TooDeep place) = Verdict.too_deep place

abbrev pub fault_number : GrammarFault → ℕ
fault_number TooLong = 6
fault_number (Broken place) = 1
fault_number (TooDeep place) = 7

-- a text that is too long is refused at the first byte that a sheet cannot have
abbrev pub fault_place : GrammarFault → ℕ
fault_place TooLong = max_sheet
fault_place (Broken place) = place
fault_place (TooDeep place) = place
