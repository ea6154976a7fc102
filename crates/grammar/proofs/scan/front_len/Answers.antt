use Rattle.std.proofs.Common.{take, ◌∙◌, subst, sym, rules}
use Rattle.std.proofs.lemmas.Iterator.{YieldsList-from_slice, YieldsList-from_take}
use Rattle.std.proofs.lemmas.Iterator.Consumers.{count_from_yields_List}
use Rattle.std.proofs.lemmas.Iterator.Search.{YieldsList-from_take_while}
use Rattle.std.proofs.lemmas.List.Folds.{length-prefix_len}
use Rattle.grammar.specs.Fronts.{Front}
use Rattle.grammar.proofs.Fronts.{front_of}
use Rattle.grammar.proofs.scan.front_len.Goals as goal

pub returns-clause-front : goal.returns-clause-front
returns-clause-front g c = λ passes computes.
    let s = c.args.s.now in
    let most = c.args.most in
    let given = rw (sym c.take.ensures.source) at (YieldsList-from_slice {s = c.iter.result} s c.iter.ensures.rest) in
    let few = rw (sym c.take_while.ensures.source) at (YieldsList-from_take most given c.take.ensures.count) in
    let count = count_from_yields_List c.take_while.result c.count.result c.count.ensures.ran (YieldsList-from_take_while _ passes few c.take_while.ensures.closure c.take_while.ensures.done (λ x b q k. search (rules, computes))) ∙ length-prefix_len passes (take most s) in
    subst (Front passes most s) (sym count) (front_of passes most s)
