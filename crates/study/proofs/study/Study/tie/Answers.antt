use Rattle.std.proofs.Common.{Some, refl, ap, arith}
use Rattle.std.proofs.lemmas.Result.{err_from_is_err_and}
use Rattle.search.specs.Search.{Setting}
use Rattle.turns.specs.Answers.{Answers}
use Rattle.turns.specs.Asked.{tie}
use Rattle.turns.specs.Plain.{is_one}
use Rattle.turns.proofs.Accepted.{tie_input}
use Rattle.study.proofs.Places.{ties_long, take_set}
use Rattle.study.proofs.Stepping.{unchanged_self, keeps_refused, refused_change, accepted_tie, keeps_ceilings}
use Rattle.study.proofs.study.Study.tie.Goals as goal

pub returns-in_err-check_tie : goal.returns-in_err-check_tie
returns-in_err-check_tie g c =
    let p = err_from_is_err_and c.from_residual.result c.from_residual.ensures.1 in
    let study = c.args.self.now in
    rw (p.1, p.2)
    (record {
      promise = refused_change g.T.Time.kind g.met.T.Time.lawful study study (tie c.args.line c.args.value) _ (λ past. Answers.to_tie) c.in_err-check_tie.ensures (unchanged_self study);
      keeps = keeps_refused study study _ (unchanged_self study);
    })

pub offset_bounds-self-line : goal.offset_bounds-self-line
offset_bounds-self-line g c =
    let study = c.args.self.now in
    omega (arith, tie_input _ _ _ c.in_ok-check_tie.ensures, ties_long study, study.few)

pub bounds-self-line : goal.bounds-self-line
bounds-self-line g c =
    let study = c.args.self.now in
    omega (arith, tie_input _ _ _ c.in_ok-check_tie.ensures, ties_long study, study.few)

pub returns : goal.returns
returns g c =
    let study = c.args.self.now in
    let none = c.in_ok-check_tie.ensures in
    let changed = ap (λ (ties : Setting). record { lines = study.lines.items; ties = ties }) (take_set study.inputs study.ties c.args.line (Some (is_one c.args.value)) (omega (arith, tie_input _ _ _ none, ties_long study))) in
    record {
      promise = accepted_tie g.T.Time.kind g.met.T.Time.lawful study _ c.args.line c.args.value tt none changed refl;
      keeps = keeps_ceilings study _ tt refl;
    }
