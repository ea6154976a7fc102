-- The line forms of a network are among its lines, and the replies as many as the forms. Assumes nothing.
use Rattle.std.proofs.Common.{◌≡◌, ℕ, suc, ◌+◌, ◌≤◌, List, [], ◌∷◌, length, drop, Some, None, vec_items, Option, sym, refl, ap, ◌∙◌, arith}
use Rattle.std.proofs.lemmas.List.{length-drop, length-map}
use Rattle.lines.specs.declared.line.Line.{Line}
use Rattle.lines.specs.Lines.{inputs}
use Rattle.lines.proofs.Lawfuls.{inputs_few}
use Rattle.network.specs.declared.network.Network.{Network}
use Rattle.network.specs.Drafts.{sealed}
use Rattle.network.specs.Sketches.{Sketch, name_bytes}
use Rattle.names.specs.Kept.{bytes_of}
use Rattle.times.specs.declared.ticks.Ticks.{Ticks}
use Rattle.times.specs.Kinds.{ticks_kind}
use Rattle.turns.specs.Asked.{Told}
use Rattle.turns.specs.Plain.{opened}
use Rattle.turns.specs.Runs.{Run}
use Rattle.report.specs.Answers.{LineForm, named_from, line_forms}
use Rattle.report.specs.Plans.{Reaches, no_reply, a_reply}
use Rattle.report.specs.declared.plan.Plan.{Plan}
use Rattle.report.specs.Planned.{PlansFor, asked_in}
use Rattle.report.proofs.Running.{Present, none_there, one_there, Bounded, none_asked, run_reaches}

present_from : (count number : ℕ) (names : List (Option (List ℕ))) → number + length names ≤ count → Present count (named_from number names)
present_from count number [] h = none_there
present_from count number (None ∷ names) h = present_from count (suc number) names (omega arith)
present_from count number (Some name ∷ names) h = one_there _ (omega arith) (present_from count (suc number) names (omega arith))

pub forms_present : (s : Sketch) → length s.names ≡ length s.lines → Present (length s.lines) (line_forms s)
forms_present s e = present_from (length s.lines) (inputs s.lines) (drop (inputs s.lines) s.names) (omega (arith, length-drop (inputs s.lines) s.names, inputs_few s.lines, e))

pub as_many : (lines : List Line) (forms : List LineForm) (replies : List (Told Ticks)) → Reaches lines forms replies → length replies ≡ length forms
as_many lines [] [] no_reply = refl
as_many lines [] (r ∷ replies) h = elim h [ ]
as_many lines (f ∷ forms) [] h = elim h [ ]
as_many lines (f ∷ forms) (r ∷ replies) (a_reply form greatest w vector work worst more) = ap suc (as_many lines forms replies more)

bounded : (network : Network) → Bounded (vec_items network.lines)
bounded network = record {
  few_lines = omega (arith, network.sizes.1, network.lines.ok.0);
  few_inputs = omega (arith, network.sizes.2, network.counted);
}

-- the run of a plan reaches the worst of each form
pub plan_reaches : (network : Network) (plan : Plan) (replies : List (Told Ticks)) → PlansFor (line_forms (sealed network)) plan → Run ticks_kind (opened (vec_items network.lines)) [] (asked_in plan) replies
    → Reaches (vec_items network.lines) (line_forms (sealed network)) replies
plan_reaches network plan replies plans run =
    let named = length-map (vec_items network.names) name_bytes ∙ (let e : length (vec_items network.names) ≡ length (vec_items network.lines) = omega (arith, network.names.ok.0, network.lines.ok.0, network.sizes.0) in e) in
    run_reaches (vec_items network.lines) (line_forms (sealed network)) (asked_in plan) replies [] (bounded network) (forms_present (sealed network) named) none_asked plans.asks run

-- a reply for each name
pub replies_beside : (network : Network) (plan : Plan) (replies : List (Told Ticks)) → PlansFor (line_forms (sealed network)) plan → Run ticks_kind (opened (vec_items network.lines)) [] (asked_in plan) replies
    → length (vec_items plan.names) ≡ length replies
replies_beside network plan replies plans run =
    sym (length-map (vec_items plan.names) bytes_of) ∙ ap length plans.names ∙ length-map (line_forms (sealed network)) (λ form. form.name) ∙ sym (as_many (vec_items network.lines) (line_forms (sealed network)) replies (plan_reaches network plan replies plans run))
