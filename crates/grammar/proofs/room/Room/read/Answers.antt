use Rattle.std.proofs.Common.{◌≡◌, ℕ, List, ◌++◌, IsErrAnd, Ok, Err, Result, sym, ap, ◌∙◌, subst}
use Rattle.sheets.specs.Verdicts.{Judged}
use Rattle.sheets.specs.Words.{sheet_words}
use Rattle.grammar.specs.declared.fault.GrammarFault.{GrammarFault}
use Rattle.grammar.specs.declared.word.Words.{Words}
use Rattle.grammar.specs.Faults.{verdict}
use Rattle.grammar.specs.Sheets.{ReadsSheet}
use Rattle.grammar.specs.Views.{views}
use Rattle.grammar.proofs.Forms.{judged_fault}
use Rattle.grammar.proofs.room.Room.read.Goals as goal

refused : (text : List ℕ) (r : Result Words GrammarFault) (f : GrammarFault) → IsErrAnd r (λ g. g ≡ f) → Judged text (verdict f) → ReadsSheet text r
refused text (Ok words) f e h = absurd e
refused text (Err g) f e h = subst (λ k. Judged text (verdict k)) (sym e) h

pub returns-then-sheet-gt-MAX_SHEET : goal.returns-then-sheet-gt-MAX_SHEET
returns-then-sheet-gt-MAX_SHEET c = Judged.is_too_long c.if-sheet-gt-MAX_SHEET.true

pub returns-in_err-list : goal.returns-in_err-list
returns-in_err-list c =
    let f = c.in_err-list.field-0.0 in
    refused c.args.sheet.now _ f c.from_residual.ensures.1 (judged_fault c.args.sheet.now f c.if-sheet-gt-MAX_SHEET.false c.in_err-list.ensures)

pub returns : goal.returns
returns c =
    let all = c.in_ok-list.ensures in
    (all.forms, Judged.is_sheet c.if-sheet-gt-MAX_SHEET.false all.forms all.lawful all.shallow (sym all.read), all.kept ∙ ap (λ v. views v ++ sheet_words 0 all.forms) c.clear.ensures.items)
