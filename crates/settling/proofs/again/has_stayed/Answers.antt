use Rattle.std.proofs.Common.{◌≡◌, ℕ, ◌<◌, Bool, true, false, not, length, take, get_or, length-take, slice_index_or, sym, ap, ◌∙◌, subst, rules, arith}
use borrow.Author.Tests.{tests}
use Rattle.std.proofs.lemmas.Iterator.{cases_from_all, YieldsList-from_slice}
use Rattle.std.proofs.lemmas.Iterator.Adapters.{serves_from_places}
use Rattle.std.proofs.lemmas.List.{get_or-take, get_or_default}
use Rattle.lines.specs.declared.line.Cell.{Cell}
use Rattle.lines.specs.Lines.{feeder, LawfulDriver, LawfulCell}
use Rattle.cells.proofs.Forcing.{every_walked_list}
use Rattle.settling.specs.Latest.{stays}
use Rattle.settling.proofs.again.has_stayed.Goals as goal

-- what is read at a place among the lines at the pins is below the cell's own number
read_below : (cell : Cell) (number line pin : ℕ) → LawfulCell number cell → pin < length (take cell.count cell.pins) → line ≡ get_or (take cell.count cell.pins) pin line → line < number
read_below cell number line pin lawful inside is =
    let near : pin < cell.count = omega (arith, length-take cell.count cell.pins) in
    omega (arith, is ∙ get_or_default (take cell.count cell.pins) pin line 0 inside ∙ get_or-take cell.count cell.pins pin 0 near, lawful.lower pin near)

pub all-requires-clause-callable : goal.all-requires-clause-callable
all-requires-clause-callable c =
    let cell = c.in-Output.cell in
    let lawful = (subst (LawfulDriver c.requires.driver.0 c.args.number) c.in-Output.is c.requires.driver.1).1 in
    serves_from_places (YieldsList-from_slice (take cell.count cell.pins) cc) (λ x q k. search rules) (λ x k h e.
    let o : x.now < length c.args.changed.now = omega (arith, read_below cell c.args.number x.now k lawful h e, c.requires.below) in
    search (rules, o))

pub returns-in-Output : goal.returns-in-Output
returns-in-Output c =
    let cell = c.in-Output.cell in
    let lawful = (subst (LawfulDriver c.requires.driver.0 c.args.number) c.in-Output.is c.requires.driver.1).1 in
    let same : ℕ → Bool = λ line. not (slice_index_or c.args.changed.now line false) in
    every_walked_list (take cell.count cell.pins) cell.count same (λ pin. same (feeder cell pin)) c.all.result (omega (arith, lawful.few_pins)) (λ pin p. ap same (get_or-take cell.count cell.pins pin 0 p))
    (cases_from_all _ _ _ (λ line. same line ≡ true) (λ line. same line ≡ false) c.all.ensures.ran (YieldsList-from_slice (take cell.count cell.pins) cc) (λ x q k. search (rules, tests)) (λ x q k. search (rules, tests)))
    ∙ ap (stays c.args.changed.now) (sym c.in-Output.is)
