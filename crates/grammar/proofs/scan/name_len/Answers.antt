use Rattle.std.proofs.Common.{sym, inl, inr, arith}
use Rattle.names.specs.Names.{name_byte}
use Rattle.std.proofs.lemmas.List.{take_rest}
use Rattle.grammar.proofs.Fronts.{name_no, name_yes}
use Rattle.grammar.proofs.scan.name_len.Goals as goal

pub returns-in-len1-up : goal.returns-in-len1-up
returns-in-len1-up c =
    name_yes c.args.s.now _ c.front_len.result (omega (arith, c.in-len1-up.len_at_least)) (sym c.if-is_letter.ensures) (take_rest c.args.s.now 1) (c.front_len.ensures.front name_byte (λ b r k. k))

pub returns-in_default : goal.returns-in_default
returns-in_default c = name_no c.args.s.now (inl (omega (arith, c.in_default.len_below)))

pub returns-in_default-2 : goal.returns-in_default-2
returns-in_default-2 c = name_no c.args.s.now (inr (sym c.if-is_letter.ensures))
