use Rattle.std.proofs.Common.{rules, ◌≡◌, [], ◌++◌, map, vec_items, sym, refl, ap, ◌∙◌, ⊎_elim, append_assoc, append-nil, arith}
use Rattle.std.proofs.lemmas.List.{nil_from_length}
use Rattle.names.specs.Kept.{bytes_of}
use Rattle.turns.specs.Asked.{told}
use Rattle.report.specs.Told.{told_form, told_forms}
use Rattle.report.proofs.FormLaws.{told_none}
use Rattle.report.proofs.text.Text.push_replies.Goals as goal

pub loop-reply-init : goal.loop-reply-init
loop-reply-init c = (refl, search rules)

pub push_reply-requires-clause-room : goal.push_reply-requires-clause-room
push_reply-requires-clause-room c = omega (arith, c.loop-reply.invariant.1, c.in-Some.ensures.steps.0.1)

pub loop-reply-preserved : goal.loop-reply-preserved
loop-reply-preserved c =
    let steps = c.in-Some.ensures.steps in
    let rest = told_forms c.args.inputs (map bytes_of c.next.new.self.b.rest.now) (map told c.next.new.self.a.rest.items) in
    let form = told_form c.args.inputs (bytes_of c.in-Some.name.now) (told c.in-Some.reply) in
    let out = vec_items c.loop-reply.self.bytes in (
      ap (λ l. l ++ rest) c.push_reply.ensures.items ∙ append_assoc out form rest
          ∙ (λ j. out ++ told_forms c.args.inputs (map bytes_of (sym steps.1 j)) (map told (sym steps.0.0 j))) ∙ c.loop-reply.invariant.0,
      omega (arith, c.loop-reply.invariant.1, steps.0.1, c.push_reply.ensures.len),
    )

pub returns : goal.returns
returns c =
    let left = c.loop-reply.reply-iterator in
    let none : told_forms c.args.inputs (map bytes_of left.b.rest.now) (map told left.a.rest.items) ≡ [] =
    ⊎_elim
    (λ h. ap (λ rs. told_forms c.args.inputs (map bytes_of left.b.rest.now) (map told rs)) (nil_from_length left.a.rest.items (sym left.a.rest.ok.0 ∙ h.1.0)) ∙ told_none c.args.inputs (map bytes_of left.b.rest.now))
    (λ h. ap (λ ns. told_forms c.args.inputs (map bytes_of ns) (map told left.a.rest.items)) (nil_from_length left.b.rest.now h.1.0))
    c.in-None.ensures.steps in
    let gives = c.into_iter-reply-iterator.ensures.into_iter_gives in
    let zipped = c.zip-reply-items.ensures in
    let replies = ap (λ z. z.a.rest.items) gives ∙ ap (λ a. a.rest.items) zipped.first ∙ c.into_iter.ensures.rest in
    let names = ap (λ z. z.b.rest.now) gives ∙ zipped.second.0 in
    sym (append-nil (vec_items c.loop-reply.self.bytes)) ∙ ap (λ l. vec_items c.loop-reply.self.bytes ++ l) (sym none) ∙ c.loop-reply.invariant.0
    ∙ (λ j. vec_items c.args.self.now.bytes ++ told_forms c.args.inputs (map bytes_of (names j)) (map told (replies j)))
