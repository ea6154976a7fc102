use Rattle.std.proofs.Common.{◌≡◌, ℕ, List, Option, sym, refl, ◌∙◌, rules, arith}
use Rattle.std.proofs.lemmas.Result.{err_from_is_err_and}
use Rattle.network.specs.Sketches.{Sketch, with_cell}
use Rattle.network.proofs.Refused.{slow_then, cell_word, cell_label, cell_no_table, cell_delay, cell_full, cell_pin, cell_fine}
use Rattle.network.proofs.draft.Draft.add_cell.Goals as goal

pub returns-then-not-is_cell_word : goal.returns-then-not-is_cell_word
returns-then-not-is_cell_word g c = (cell_word _ _ _ _ _ _ (sym c.if-not-is_cell_word.ensures), refl)

pub returns-in_err-kept : goal.returns-in_err-kept
returns-in_err-kept g c =
    let p = err_from_is_err_and c.from_residual.result c.from_residual.ensures.1 in
    rw (p.1, p.2) (cell_label _ _ _ _ _ _ (sym c.if-not-is_cell_word.ensures) _ c.in_err-kept.ensures.checked, refl)

pub returns-in_default : goal.returns-in_default
returns-in_default g c = (cell_no_table _ _ _ _ _ _ (sym c.if-not-is_cell_word.ensures) c.in_ok-kept.ensures.checked (sym c.in_default.ensures), refl)

pub returns-in_err-check_delay : goal.returns-in_err-check_delay
returns-in_err-check_delay g c =
    let p = err_from_is_err_and c.from_residual-in_err-check_delay.result c.from_residual-in_err-check_delay.ensures.1 in
    rw (p.1, p.2) (cell_delay _ _ _ _ _ _ (sym c.if-not-is_cell_word.ensures) c.in_ok-kept.ensures.checked _ (sym c.in-Some.ensures) _ c.in_err-check_delay.ensures, refl)

pub returns-then-line-ge-MAX_LINES : goal.returns-then-line-ge-MAX_LINES
returns-then-line-ge-MAX_LINES g c = (cell_full _ _ _ _ _ _ (sym c.if-not-is_cell_word.ensures) c.in_ok-kept.ensures.checked _ (sym c.in-Some.ensures) c.in_ok-check_delay.ensures (omega arith), refl)

pub returns-then-not-are_below : goal.returns-then-not-are_below
returns-then-not-are_below g c = (cell_pin _ _ _ _ _ _ (sym c.if-not-is_cell_word.ensures) c.in_ok-kept.ensures.checked _ (sym c.in-Some.ensures) c.in_ok-check_delay.ensures (omega arith) _ c.if-not-are_below.ensures.1 (omega (arith, c.if-not-are_below.ensures.2)), refl)

pub push_cell-requires : goal.push_cell-requires
push_cell-requires g c =
    let law = g.met.F.Family.lawful c.args.family.now c.args.word.now _ _ (sym c.in-Some.ensures) in
    record {
      room = omega arith;
      some = law.some_pins;
      few = law.few_pins;
      lower = λ pin h. omega (arith, c.if-not-are_below.ensures pin h);
      fits = law.fits;
      slow = omega (arith, slow_then _ c.in_ok-check_delay.ensures);
    }

-- the line that was added, by its name and delay
added : (s : Sketch) (table : ℕ) (pins : List ℕ) {name own : Option (List ℕ)} {given delay : ℕ} → name ≡ own → given ≡ delay → with_cell s name table given pins ≡ with_cell s own table delay pins
added s table pins e f = cc

pub returns : goal.returns
returns g c =
    record {
      asked = cell_fine _ _ _ _ _ _ (sym c.if-not-is_cell_word.ensures) c.in_ok-kept.ensures.checked _ (sym c.in-Some.ensures) c.in_ok-check_delay.ensures (omega arith) (λ pin h. omega (arith, c.if-not-are_below.ensures pin h));
      table = c.in-Some.table;
      assigned = sym c.in-Some.ensures;
      number = omega arith;
      sketch = c.push_cell.ensures ∙ added _ _ _ c.in_ok-kept.ensures.kept (search rules);
    }
