use Rattle.std.proofs.Common.{◌≡◌, ◌+◌, ◌-◌, ◌≤◌, ◌++◌, length, get_or, take, drop, None, vec_items, sym, ap, ◌∙◌, subst, arith}
use Rattle.std.proofs.lemmas.List.{get_or-drop, length-drop, length-map, length-take, take_all}
use Rattle.lines.specs.Lines.{inputs}
use Rattle.network.specs.Drafts.{sealed}
use Rattle.network.specs.Sketches.{name_bytes}
use Rattle.report.specs.Answers.{named_from}
use Rattle.report.specs.Planned.{named_one, PlansFor}
use Rattle.report.proofs.PlanLaws.{plans_none, plans_on, planned_long}
use Rattle.report.proofs.FormLaws.{named_more, named_few}
use Rattle.report.proofs.plan.Plan.ask_all.Goals as goal

pub loop-line-init : goal.loop-line-init
loop-line-init c =
    let n = inputs (sealed c.args.network.now).lines in
    let rest = drop n (sealed c.args.network.now).names in
    let none : c.input_count-line.result - n ≡ 0 = omega (arith, c.input_count-line.ensures) in
    subst (λ k. PlansFor (named_from n (take k rest)) c.args.self.now) (sym none) (plans_none c.args.self.now c.requires)

pub ask_named-requires : goal.ask_named-requires
ask_named-requires c =
    let network = c.args.network.now in
    let n = inputs (sealed network).lines in
    let rest = drop n (sealed network).names in
    let k = c.loop-line.line - n in
    omega (arith, planned_long (named_from n (take k rest)) c.loop-line.self c.loop-line.invariant, named_few n (take k rest), length-take k rest, c.loop-line.self.shared, c.loop-line-test.true, c.line_count-line-end.ensures, network.lines.ok.0, network.sizes.1)

pub loop-line-preserved : goal.loop-line-preserved
loop-line-preserved c =
    let network = c.args.network.now in
    let n = inputs (sealed network).lines in
    let names = (sealed network).names in
    let rest = drop n names in
    let line = c.loop-line.line in
    let low : n ≤ line = omega (arith, c.loop-line.auto.line, c.input_count-line.ensures) in
    let on : line - n + 1 ≡ line + 1 - n = omega arith in
    let back : n + (line - n) ≡ line = omega arith in
    let named : get_or rest (line - n) None ≡ name_bytes c.name_of.result = get_or-drop n names (line - n) None ∙ ap (λ k. get_or names k None) back ∙ sym c.name_of.ensures in
    let forms = named_from n (take (line - n) rest) in
    let more : forms ++ named_one line (name_bytes c.name_of.result) ≡ named_from n (take (line + 1 - n) rest) = ap (λ k. forms ++ named_one k (name_bytes c.name_of.result)) (sym back) ∙ ap (λ o. forms ++ named_one (n + (line - n)) o) (sym named) ∙ sym (named_more n rest (line - n)) ∙ ap (λ k. named_from n (take k rest)) on in
    subst (λ fs. PlansFor fs c.ask_named.new.self) more (plans_on forms c.loop-line.self c.ask_named.new.self line (name_bytes c.name_of.result) c.loop-line.invariant c.ask_named.ensures)

pub returns : goal.returns
returns c =
    let network = c.args.network.now in
    let n = inputs (sealed network).lines in
    let names = (sealed network).names in
    let all : length (drop n names) ≤ c.loop-line.line - n = omega (arith, length-drop n names, length-map (vec_items network.names) name_bytes, network.names.ok.0, network.lines.ok.0, network.sizes.0, c.line_count-line-end.ensures, c.loop-line-test.false) in
    subst (λ fs. PlansFor (named_from n fs) c.loop-line.self) (take_all (c.loop-line.line - n) (drop n names) all) c.loop-line.invariant
