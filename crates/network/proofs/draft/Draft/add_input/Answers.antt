use Rattle.std.proofs.Common.{vec_items, refl, ap, ◌∙◌, arith}
use Rattle.network.specs.Sketches.{with_input}
use Rattle.network.specs.Drafts.{sketch}
use Rattle.lines.proofs.Lawfuls.{inputs_few}
use Rattle.std.proofs.lemmas.Result.{err_from_is_err_and}
use Rattle.network.proofs.Refused.{lawful_then, short_name, slow_then, few_then, only_then, spare_then, input_name, input_delay, input_room, input_fine}
use Rattle.network.proofs.draft.Draft.add_input.Goals as goal

pub returns-in_err-check_name : goal.returns-in_err-check_name
returns-in_err-check_name c =
    let p = err_from_is_err_and c.from_residual.result c.from_residual.ensures.1 in
    rw (p.1, p.2) (input_name _ _ _ _ c.in_err-check_name.ensures, refl)

pub returns-in_err-check_delay : goal.returns-in_err-check_delay
returns-in_err-check_delay c =
    let p = err_from_is_err_and c.from_residual-in_err-check_delay.result c.from_residual-in_err-check_delay.ensures.1 in
    rw (p.1, p.2) (input_delay _ _ _ c.in_ok-check_name.ensures _ c.in_err-check_delay.ensures, refl)

pub returns-in_err-check_input : goal.returns-in_err-check_input
returns-in_err-check_input c =
    let p = err_from_is_err_and c.from_residual-in_err-check_input.result c.from_residual-in_err-check_input.ensures.1 in
    rw (p.1, p.2) (input_room _ _ _ c.in_ok-check_name.ensures c.in_ok-check_delay.ensures _ c.in_err-check_input.ensures, refl)

pub of-requires : goal.of-requires
of-requires c = short_name _ (lawful_then _ _ c.in_ok-check_name.ensures)

pub push_input-requires : goal.push_input-requires
push_input-requires c =
    let few = few_then (sketch c.args.self.now) c.in_ok-check_input.ensures in
    let only = only_then (sketch c.args.self.now) c.in_ok-check_input.ensures in
    let most = inputs_few (vec_items c.args.self.now.lines) in
    record { few = omega arith; room = omega (arith, spare_then (sketch c.args.self.now) c.in_ok-check_input.ensures); only = omega arith; slow = slow_then _ c.in_ok-check_delay.ensures }

pub returns : goal.returns
returns c =
    record {
      asked = input_fine _ _ _ c.in_ok-check_name.ensures c.in_ok-check_delay.ensures c.in_ok-check_input.ensures;
      number = omega arith;
      sketch = c.push_input.ensures ∙ ap (λ v. with_input (sketch c.args.self.now) v c.args.delay) c.of.ensures;
    }
