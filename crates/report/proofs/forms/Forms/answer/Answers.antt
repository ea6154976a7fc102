use Rattle.std.proofs.Common.{◌≡◌, ℕ, ◌*◌, ◌≤◌, ◌++◌, map, vec_items, ap, ◌∙◌, arith}
use Rattle.std.proofs.lemmas.List.{length-map}
use Rattle.lines.specs.Limits.{max_lines}
use Rattle.lines.specs.Lines.{inputs}
use Rattle.names.specs.Kept.{bytes_of}
use Rattle.network.specs.Drafts.{sealed}
use Rattle.runs.specs.Replays.{ReplayWrong, few_ceilings, few_replies}
use Rattle.turns.specs.Asked.{told}
use Rattle.report.specs.Answers.{line_forms}
use Rattle.report.specs.Told.{told_forms}
use Rattle.report.proofs.FormLaws.{reaches_printed}
use Rattle.report.proofs.Presence.{plan_reaches, replies_beside}
use Rattle.report.proofs.forms.Forms.answer.Goals as goal

-- with buffers for the most lines nothing is wrong
nothing_wrong : (lines ceilings room calls n : ℕ) → lines ≤ max_lines → ceilings ≡ 2 * max_lines → max_lines ≤ room → calls ≤ max_lines → ReplayWrong lines ceilings room calls n → ⊥
nothing_wrong lines ceilings room calls n l d r k (few_ceilings few) = omega arith
nothing_wrong lines ceilings room calls n l d r k (few_replies few) = omega arith

pub unreachable-requires : goal.unreachable-requires
unreachable-requires c =
    let network = c.args.network in
    let plan = c.ask_all.new.self in
    nothing_wrong _ _ _ _ _ (omega (arith, network.sizes.1, network.lines.ok.0)) c.args.self.doubled c.args.self.replied (omega (arith, plan.shared, plan.calls.ok.0)) c.in_default.ensures.fits

pub push_replies-requires : goal.push_replies-requires
push_replies-requires c =
    let network = c.args.network in
    let plan = c.ask_all.new.self in
    let replies = c.in-Ok.replies in
    let even = replies_beside network plan (map told (vec_items replies)) c.ask_all.ensures c.in-Ok.ensures.1 ∙ length-map (vec_items replies) told in
    record {
      room = omega (arith, c.args.self.blank, plan.shared, plan.beside, plan.names.ok.0, replies.ok.0, even);
      few = omega (arith, c.input_count-inputs.ensures, network.counted, network.sizes.2);
    }

pub returns : goal.returns
returns c =
    let network = c.args.network in
    let plan = c.ask_all.new.self in
    let replies = map told (vec_items c.in-Ok.replies) in
    let reaches = plan_reaches network plan replies c.ask_all.ensures c.in-Ok.ensures.1 in
    let names = ap (λ l. map bytes_of l) c.deref.ensures.value ∙ c.ask_all.ensures.names in
    record {
      text = told_forms (inputs (vec_items network.lines)) (map (λ form. form.name) (line_forms (sealed network))) replies;
      printed = reaches_printed (vec_items network.lines) (line_forms (sealed network)) replies reaches;
      added = c.push_replies.ensures ∙ (λ i. vec_items c.args.self.text.bytes ++ told_forms (c.input_count-inputs.ensures i) (names i) replies);
    }
