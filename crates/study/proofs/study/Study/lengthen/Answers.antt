use Rattle.std.proofs.Common.{◌≡◌, ◌*◌, List, take, set, sym, refl, ap, ◌∙◌, subst, arith, rules}
use Rattle.std.proofs.lemmas.List.{get_or_read_under, with_items_is}
use Rattle.std.proofs.lemmas.Result.{err_from_is_err_and}
use Rattle.lines.specs.declared.line.Line.{Line}
use Rattle.lines.specs.Lines.{no_line, Lawful, inputs}
use Rattle.turns.specs.Answers.{Answers}
use Rattle.turns.specs.Asked.{lengthen}
use Rattle.turns.specs.Plain.{with_delay}
use Rattle.turns.proofs.Accepted.{lengthen_fits, lengthen_present}
use Rattle.turns.proofs.Findings.{inputs_delay}
use Rattle.study.proofs.Places.{lawful_with, cleared_moved}
use Rattle.study.proofs.Stepping.{unchanged_self, keeps_refused, refused_change, accepted_lengthen, keeps_cleared}
use Rattle.study.proofs.study.Study.lengthen.Goals as goal

pub returns-in_err-check_lengthen : goal.returns-in_err-check_lengthen
returns-in_err-check_lengthen g c =
    let p = err_from_is_err_and c.from_residual.result c.from_residual.ensures.1 in
    let study = c.args.self.now in
    rw (p.1, p.2)
    (record {
      promise = refused_change g.T.Time.kind g.met.T.Time.lawful study study (lengthen c.args.line c.args.delay) _ (λ past. Answers.to_lengthen) c.in_err-check_lengthen.ensures (unchanged_self study);
      keeps = keeps_refused study study _ (unchanged_self study);
    })

pub index_mut-requires : goal.index_mut-requires
index_mut-requires g c = omega (arith, lengthen_present _ _ _ c.in_ok-check_lengthen.ensures)

pub invariant_of-self : goal.invariant_of-self
invariant_of-self g c =
    let study = c.args.self.now in
    let line = c.args.line in
    let delay = c.args.delay in
    let none = c.in_ok-check_lengthen.ensures in
    let seen = get_or_read_under _ _ _ _ no_line c.index_mut.ensures.value (lengthen_present _ _ _ none) refl in
    let put : set study.lines.items line (record { driver = c.index_mut.result.now.driver; delay = delay }) ≡ with_delay study.lines.items line delay = rw seen in
    record {
      lawful = subst (λ (lines : List Line). ∥ Lawful lines ∥₁) (sym put) (lawful_with study.lines.items line delay (lengthen_fits _ _ _ none) study.lawful);
      counted = study.counted ∙ sym (ap inputs put ∙ inputs_delay study.lines.items line delay);
      few = search rules;
      most = search rules;
      whole = search rules;
      room = search rules;
    }

pub returns : goal.returns
returns g c =
    let study = c.args.self.now in
    let line = c.args.line in
    let delay = c.args.delay in
    let none = c.in_ok-check_lengthen.ensures in
    let seen = get_or_read_under _ _ _ _ no_line c.index_mut.ensures.value (lengthen_present _ _ _ none) refl in
    let put : set study.lines.items line (record { driver = c.index_mut.result.now.driver; delay = delay }) ≡ with_delay study.lines.items line delay = rw seen in
    let changed = ap (λ (lines : List Line). record { lines = lines; ties = take study.inputs study.ties }) put in
    let cleared = cleared_moved (2 * c.len.result) (2 * study.lines.len) _ _ _ _ (ap (λ n. 2 * n) (search rules)) c.deref_mut.ensures.value (sym (with_items_is c.args.self.now.ceilings c.clear.new.places (omega arith))) c.clear.ensures in
    record {
      promise = accepted_lengthen g.T.Time.kind g.met.T.Time.lawful study _ line delay tt none changed cleared;
      keeps = keeps_cleared study _ tt cleared;
    }
