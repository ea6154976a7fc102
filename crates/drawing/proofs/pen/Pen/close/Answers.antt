use Rattle.std.proofs.Common.{sym, ap, ◌∙◌, subst}
use Rattle.names.specs.Kept.{bytes_of}
use Rattle.network.specs.Drafts.{sketch, CellAdd}
use Rattle.drawing.specs.Drawing.{Answer}
use Rattle.drawing.specs.Fits.{Ready}
use Rattle.drawing.specs.Pens.{opened, open_stack, picture}
use Rattle.drawing.specs.Pictures.{with_cells, label, draw_close}
use Rattle.drawing.proofs.Steps.{cell_refused, cell_added}
use Rattle.drawing.proofs.Turns.{placed_ok, draft_broke, close_by}
use Rattle.drawing.proofs.pen.Pen.close.Goals as goal

pub returns-in_default : goal.returns-in_default
returns-in_default g c =
    let p = picture c.args.self.now (sketch c.args.draft.now) in
    let none = c.in_default.ensures in
    ap (draw_close (g.F.Family.assigns c.args.family.now) p) none.0 ∙ ap (λ v. Answer.done (with_cells p v)) (none.0 ∙ sym none.1)

pub returns-in_err-line : goal.returns-in_err-line
returns-in_err-line g c =
    let fam = g.F.Family.assigns c.args.family.now in
    let s = sketch c.args.draft.now in
    let form = bytes_of c.args.self.now.name in
    let cell = c.in-Some.cell in
    let word = bytes_of cell.word in
    let pins = cell.pins.items in
    let around = open_stack c.pop.new.self in
    let ready = subst (Ready s form) c.in-Some.ensures c.requires in
    let named = subst (λ v. CellAdd fam c.args.draft.now c.add_cell.new.self v c.as_bytes-word.result.now cell.delay c.as_slice-pins.result.now c.add_cell.result) c.label.ensures c.add_cell.ensures in
    let worded = subst (λ v. CellAdd fam c.args.draft.now c.add_cell.new.self (label form around) v cell.delay c.as_slice-pins.result.now c.add_cell.result) c.as_bytes-word.ensures named in
    let added = subst (λ v. CellAdd fam c.args.draft.now c.add_cell.new.self (label form around) word cell.delay v c.add_cell.result) c.as_slice-pins.ensures.value worded in
    draft_broke c.add_cell.result cell.place c.in_err-line.field-0.0 c.from_residual.result _ _ (sym c.at.ensures ∙ c.in_err-line.was) c.from_residual.ensures.1
    (λ f e. close_by fam (picture c.args.self.now s) (opened cell) around _ _ c.in-Some.ensures (cell_refused fam cell.place (label form around) word cell.delay pins s _ ready.3 ready.0 ready.1 ready.2
    (subst (CellAdd fam c.args.draft.now c.add_cell.new.self (label form around) word cell.delay pins) e added).0))

pub returns : goal.returns
returns g c =
    let fam = g.F.Family.assigns c.args.family.now in
    let s = sketch c.args.draft.now in
    let form = bytes_of c.args.self.now.name in
    let cell = c.in-Some.cell in
    let word = bytes_of cell.word in
    let pins = cell.pins.items in
    let around = open_stack c.pop.new.self in
    let named = subst (λ v. CellAdd fam c.args.draft.now c.add_cell.new.self v c.as_bytes-word.result.now cell.delay c.as_slice-pins.result.now c.add_cell.result) c.label.ensures c.add_cell.ensures in
    let worded = subst (λ v. CellAdd fam c.args.draft.now c.add_cell.new.self (label form around) v cell.delay c.as_slice-pins.result.now c.add_cell.result) c.as_bytes-word.ensures named in
    let added = subst (λ v. CellAdd fam c.args.draft.now c.add_cell.new.self (label form around) word cell.delay v c.add_cell.result) c.as_slice-pins.ensures.value worded in
    let ok = placed_ok c.add_cell.result cell.place c.in_ok-line.line (sym c.at.ensures ∙ c.in_ok-line.was) in
    let made = subst (CellAdd fam c.args.draft.now c.add_cell.new.self (label form around) word cell.delay pins) ok added in
    close_by fam (picture c.args.self.now s) (opened cell) around _ _ c.in-Some.ensures (cell_added fam cell.place (label form around) word cell.delay pins s _ _ made)
    ∙ ap (λ v. Answer.done (record { sketch = sketch c.add_cell.new.self; name = form; open_cells = v })) (sym c.add_pin.ensures)
