use Rattle.std.proofs.Common.{◌≡◌, ◌^◌, ◌<◌, ◌≤◌, not, true, is_some, sym, ap, ◌∙◌, arith}
use Rattle.std.proofs.lemmas.Bool.{true≢false, not-false, eqb-false, ltb-true, ltb-false}
use Rattle.std.proofs.lemmas.Bool.Decides.{Decides-at}
use Rattle.names.specs.Names.{lawful_name}
use Rattle.library.specs.Entries.{name_of, assigned}
use Rattle.library.specs.Laws.{repeated_decides}
use Rattle.library.proofs.checking.is_bad.Goals as goal
use Rattle.library.proofs.checking.is_bad.Goals.{then-not-is_name, else-not-is_name, then-entry-eq0, else-entry-eq0, then-entry-gt-MAX_PINS, else-entry-gt-MAX_PINS}

-- each test before the last one fails, or the joined ones would hold
pub returns-else-not-fits : goal.returns-else-not-fits
returns-else-not-fits c =
    let entry = c.args.entry.now in
    let earlier = c.args.earlier.now in
    let found = c.is_some.ensures ∙ ap is_some (c.look_up.ensures ∙ ap (λ v. assigned earlier v entry.pins) c.as_bytes-name.ensures) in
    elim c.if-entry-gt-MAX_PINS.branch [
      | then-entry-gt-MAX_PINS w ↦ absurd (true≢false (sym w.if-entry-gt-MAX_PINS.true ∙ sym w.value-is ∙ c.if-not-fits.false))
      | else-entry-gt-MAX_PINS w ↦
          elim c.if-entry-eq0.branch [
            | then-entry-eq0 x ↦ absurd (true≢false (sym x.if-entry-eq0.true ∙ sym x.value-is ∙ w.if-entry-gt-MAX_PINS.false))
            | else-entry-eq0 x ↦
                elim c.if-not-is_name.branch [
                  | then-not-is_name y ↦ absurd (true≢false (sym (ap not y.if-not-is_name.true) ∙ sym y.value-is ∙ x.if-entry-eq0.false))
                  | else-not-is_name y ↦
                      let fit : entry.table < 2 ^ (2 ^ entry.pins) = ltb-true _ _ (sym w.fits.ensures ∙ not-false _ (sym w.value-is ∙ c.if-not-fits.false)) in
                      let few : entry.pins ≤ 4 = ltb-false _ _ (sym x.value-is ∙ w.if-entry-gt-MAX_PINS.false) in
                      let some : 1 ≤ entry.pins = omega (arith, eqb-false entry.pins 0 (sym y.value-is ∙ x.if-entry-eq0.false)) in
                      let lawful : lawful_name (name_of entry) ≡ true = ap lawful_name (sym c.as_bytes-name.ensures) ∙ sym c.is_name.ensures ∙ y.if-not-is_name.false in
                      Decides-at _ _ found (repeated_decides earlier entry lawful some few fit)
                ]
          ]
    ]
