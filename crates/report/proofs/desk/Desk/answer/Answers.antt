use Rattle.std.proofs.Common.{◌≡◌, ℕ, List, [], ◌++◌, vec_items, sym, ap, ◌∙◌, subst}
use Rattle.std.proofs.lemmas.List.{nil_from_length}
use Rattle.report.specs.Answers.{Answered, refused_so, drawn_so, Printed, line_forms}
use Rattle.report.specs.Texts.{refused_text}
use Rattle.report.specs.declared.forms.Forms.{Forms}
use Rattle.report.proofs.Sealing.{drawn_seals}
use Rattle.report.proofs.desk.Desk.answer.Goals as goal

-- a desk's text is blank
blank : (forms : Forms) → vec_items forms.text.bytes ≡ []
blank forms = nil_from_length (vec_items forms.text.bytes) (sym forms.text.bytes.ok.0 ∙ forms.blank)

pub seal-requires : goal.seal-requires
seal-requires g c = drawn_seals _ _ _ c.in-Ok.ensures.read

pub returns-in-Err : goal.returns-in-Err
returns-in-Err g c =
    let Here : List ℕ → Type 0 = λ text. Answered (g.F.Family.assigns c.args.family.now) c.args.sheet.now text in
    let text = c.push_refused.ensures.items ∙ (λ i. blank c.args.self.forms i ++ refused_text (c.number.ensures i) (c.place.ensures i)) in
    subst Here (sym text) (refused_so c.in-Err.ensures.read.0)

pub returns-in-Ok : goal.returns-in-Ok
returns-in-Ok g c =
    let Here : List ℕ → Type 0 = λ text. Answered (g.F.Family.assigns c.args.family.now) c.args.sheet.now text in
    let forms = c.answer-text.ensures in
    let text = forms.added ∙ ap (λ l. l ++ forms.text) (blank c.args.self.forms) in
    let printed = subst (λ s. Printed s.lines (line_forms s) forms.text) c.seal.ensures forms.printed in
    subst Here (sym text) (drawn_so c.in-Ok.ensures.read printed)
