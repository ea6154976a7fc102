-- What is said of a text gives its answer, and it has no other. Assumes nothing.
use Rattle.std.proofs.Common.{◌≡◌, ℕ, ◌≤◌, true, false, List, IsErrAnd, Ok, Err, Result, sym, refl, ap, ◌∙◌, MatchResult}
use Rattle.std.specs.Result.{is_err}
use Rattle.std.proofs.lemmas.Bool.{false≢true}
use Rattle.families.specs.Tables.{Tables}
use Rattle.network.specs.Sketches.{Sketch, empty}
use Rattle.sheets.specs.Sheet.{max_depth, Form, LawfulForms, sheet_depth, sheet_text}
use Rattle.sheets.specs.Verdicts.{Verdict, Judged}
use Rattle.sheets.proofs.OneVerdict.{one_verdict}
use Rattle.grammar.specs.Faults.{verdict}
use Rattle.grammar.specs.declared.fault.GrammarFault.{GrammarFault}
use Rattle.grammar.specs.declared.fault.GrammarFault.TheVariants.{TooLong, Broken, TooDeep}
use Rattle.drawing.specs.declared.fault.SheetFault.{SheetFault}
use Rattle.drawing.specs.declared.fault.SheetFault.TheVariants.{Grammar}
use Rattle.drawing.specs.Drawing.{Answer, draw_sheet}
use Rattle.drawing.specs.Faults.{refused_by, answered}
use Rattle.drawing.specs.Reading.{answer_to, Reading, OnlyAnswer, SheetRead}

only_answer : (family : Tables) (text : List ℕ) (answer : Answer Sketch) → Reading family text answer → OnlyAnswer family text answer
only_answer family text answer h other k = k.follows ∙ ap (answer_to family) (one_verdict text k.verdict h.verdict k.judged h.judged) ∙ sym h.follows

-- what was read is the only answer
pub read_only : (family : Tables) (text : List ℕ) (r : Result (Unit {0}) SheetFault) (after : Sketch) → SheetRead family text r after → OnlyAnswer family text (answered r after)
read_only family text (Ok u) after h = only_answer family text _ h
read_only family text (Err f) after h = only_answer family text _ h.0

-- what a text that is a sheet has
abbrev OfSheet : List ℕ → Verdict → Type 0
OfSheet text Verdict.too_long = Unit {0}
OfSheet text (Verdict.broken place) = Unit {0}
OfSheet text (Verdict.too_deep place) = Unit {0}
OfSheet text (Verdict.sheet forms) = LawfulForms forms × (sheet_depth forms ≤ max_depth) × (sheet_text forms ≡ text)

pub sheet_of : (text : List ℕ) (v : Verdict) → Judged text v → OfSheet text v
sheet_of text v (Judged.is_too_long l) = tt
sheet_of text v (Judged.is_broken l place b) = tt
sheet_of text v (Judged.is_too_deep l place b) = tt
sheet_of text v (Judged.is_sheet l forms lawful shallow written) = (lawful, shallow, written)

-- a text that the grammar refuses
grammar_answer : (family : Tables) (f : GrammarFault) → refused_by (Grammar f) ≡ answer_to family (verdict f)
grammar_answer family TooLong = refl
grammar_answer family (Broken place) = refl
grammar_answer family (TooDeep place) = refl

pub grammar_broke : (family : Tables) (text : List ℕ) (r : Result (Unit {0}) SheetFault) (f : GrammarFault) (after : Sketch) → IsErrAnd r (λ y. y ≡ Grammar f) → Judged text (verdict f) → after ≡ empty → SheetRead family text r after
grammar_broke family text (Ok u) f after e judged none = absurd e
grammar_broke family text (Err y) f after e judged none = (record { verdict = verdict f; judged = judged; follows = ap refused_by e ∙ grammar_answer family f }, none)

-- what a draft holds after a refusal, or after none
pub left_err : (r : Result (Unit {0}) SheetFault) (drawn after : Sketch) → is_err r ≡ true → after ≡ empty → MatchResult r (λ _. after ≡ drawn) (λ _. after ≡ empty)
left_err (Ok x) drawn after e h = absurd (false≢true e)
left_err (Err f) drawn after e h = h

pub left_ok : (r : Result (Unit {0}) SheetFault) (drawn after : Sketch) → is_err r ≡ false → after ≡ drawn → MatchResult r (λ _. after ≡ drawn) (λ _. after ≡ empty)
left_ok (Ok x) drawn after e h = h
left_ok (Err f) drawn after e h = absurd (false≢true (sym e))

pub read_drawn : (family : Tables) (text : List ℕ) (forms : List Form) (r : Result (Unit {0}) SheetFault) (drawn after : Sketch) → Judged text (Verdict.sheet forms) → answered r drawn ≡ draw_sheet family forms → MatchResult r (λ _. after ≡ drawn) (λ _. after ≡ empty) → SheetRead family text r after
read_drawn family text forms (Ok x) drawn after j e h = record { verdict = Verdict.sheet forms; judged = j; follows = ap Answer.done h ∙ e }
read_drawn family text forms (Err f) drawn after j e h = (record { verdict = Verdict.sheet forms; judged = j; follows = e }, h)
