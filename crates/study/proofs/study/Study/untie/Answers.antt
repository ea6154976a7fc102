use Rattle.std.proofs.Common.{◌*◌, None, sym, ap, arith, rules}
use Rattle.std.proofs.lemmas.List.{with_items_is}
use Rattle.std.proofs.lemmas.Result.{err_from_is_err_and}
use Rattle.search.specs.Search.{Setting}
use Rattle.turns.specs.Answers.{Answers}
use Rattle.turns.specs.Asked.{untie}
use Rattle.turns.proofs.Accepted.{untie_input}
use Rattle.study.proofs.Places.{ties_long, take_set, cleared_moved}
use Rattle.study.proofs.Stepping.{unchanged_self, keeps_refused, refused_change, accepted_untie, keeps_cleared}
use Rattle.study.proofs.study.Study.untie.Goals as goal

pub returns-in_err-check_untie : goal.returns-in_err-check_untie
returns-in_err-check_untie g c =
    let p = err_from_is_err_and c.from_residual.result c.from_residual.ensures.1 in
    let study = c.args.self.now in
    rw (p.1, p.2)
    (record {
      promise = refused_change g.T.Time.kind g.met.T.Time.lawful study study (untie c.args.line) _ (λ past. Answers.to_untie) c.in_err-check_untie.ensures (unchanged_self study);
      keeps = keeps_refused study study _ (unchanged_self study);
    })

pub offset_bounds-self-line : goal.offset_bounds-self-line
offset_bounds-self-line g c =
    let study = c.args.self.now in
    omega (arith, untie_input _ _ c.in_ok-check_untie.ensures, ties_long study, study.few)

pub bounds-self-line : goal.bounds-self-line
bounds-self-line g c =
    let study = c.args.self.now in
    omega (arith, untie_input _ _ c.in_ok-check_untie.ensures, ties_long study, study.few)

pub returns : goal.returns
returns g c =
    let study = c.args.self.now in
    let none = c.in_ok-check_untie.ensures in
    let changed = ap (λ (ties : Setting). record { lines = study.lines.items; ties = ties }) (take_set study.inputs study.ties c.args.line None (omega (arith, untie_input _ _ none, ties_long study))) in
    let cleared = cleared_moved (2 * c.len.result) (2 * study.lines.len) _ _ _ _ (ap (λ n. 2 * n) (search rules)) c.deref_mut.ensures.value (sym (with_items_is c.args.self.now.ceilings c.clear.new.places (omega arith))) c.clear.ensures in
    record {
      promise = accepted_untie g.T.Time.kind g.met.T.Time.lawful study _ c.args.line tt none changed cleared;
      keeps = keeps_cleared study _ tt cleared;
    }
