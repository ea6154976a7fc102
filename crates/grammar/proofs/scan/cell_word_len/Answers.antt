use Rattle.std.proofs.Common.{sym, ap, ◌∙◌, ◌≡◌, true, false, drop, get_or, subst, inl, inr, arith}
use Rattle.names.specs.Names.{letter, name_byte, star}
use Rattle.std.proofs.lemmas.List.{take_rest}
use Rattle.grammar.proofs.Fronts.{rest_more, word_no, word_yes}
use Rattle.grammar.proofs.scan.cell_word_len.Goals as goal

pub returns-in-len1-up : goal.returns-in-len1-up
returns-in-len1-up c =
    let s = c.args.s.now in
    let n = c.front_len-n.result in
    let more = rest_more s _ n (take_rest s n) c.in-len1-up.len_at_least in
    word_yes s _ n c.front_len.result (c.front_len-n.ensures.front star (λ b r k. k)) more.0 (subst (λ v. letter (get_or v 0 0) ≡ true) more.1 (sym c.if-is_letter.ensures)) (take_rest _ 1 ∙ ap (drop 1) more.1) (c.front_len.ensures.front name_byte (λ b r k. k))

pub returns-in_default : goal.returns-in_default
returns-in_default c =
    word_no c.args.s.now c.front_len-n.result (c.front_len-n.ensures.front star (λ b r k. k)) (inl (omega (arith, c.in_default.len_below)))

pub returns-in_default-2 : goal.returns-in_default-2
returns-in_default-2 c =
    let s = c.args.s.now in
    let n = c.front_len-n.result in
    let more = rest_more s _ n (take_rest s n) c.in-len1-up.len_at_least in
    word_no s n (c.front_len-n.ensures.front star (λ b r k. k)) (inr (subst (λ v. letter (get_or v 0 0) ≡ false) more.1 (sym c.if-is_letter.ensures)))
