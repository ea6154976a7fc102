use Rattle.std.proofs.Common.{◌≡◌, ◌+◌, ◌*◌, ◌≤◌, ◌++◌, map, vec_items, vec_len}
use Rattle.names.specs.Kept.{bytes_of}
use Rattle.turns.specs.Asked.{told}
use Rattle.report.specs.Texts.{max_form, max_answer}
use Rattle.report.specs.Told.{told_forms}
use Rattle.report.proofs.text.Text.push_replies.Given as goal

-- the text so far and the replies that are left make all of it, and there is room for them
abbrev pub invariant-loop-reply : goal.invariant-loop-reply
invariant-loop-reply l =
    (vec_items l.self.bytes ++ told_forms l.inputs (map bytes_of l.reply-iterator.b.rest.now) (map told l.reply-iterator.a.rest.items)
    ≡ vec_items l.initial.self.bytes ++ told_forms l.inputs (map bytes_of l.initial.reply-iterator.b.rest.now) (map told l.initial.reply-iterator.a.rest.items))
    × (vec_len l.self.bytes + max_form * l.reply-iterator.a.rest.len ≤ max_answer)
