use Rattle.std.proofs.Common.{sym, inl, inr, arith}
use Rattle.names.specs.Names.{digit}
use Rattle.std.proofs.lemmas.List.{take_rest}
use Rattle.grammar.proofs.Fronts.{delay_no, delay_zero, delay_more}
use Rattle.grammar.proofs.scan.delay_len.Goals as goal

pub returns-in-48 : goal.returns-in-48
returns-in-48 c = delay_zero c.args.s.now (omega (arith, c.in-48.len_at_least)) search

pub returns-in-len1-up : goal.returns-in-len1-up
returns-in-len1-up c =
    delay_more c.args.s.now _ c.front_len.result (omega (arith, c.in-len1-up.len_at_least)) (sym c.if-is_digit.ensures) (search) (take_rest c.args.s.now 1) (c.front_len.ensures.front digit (λ b r k. k))

pub returns-in_default : goal.returns-in_default
returns-in_default c = delay_no c.args.s.now (inl (omega (arith, c.in_default.len_below)))

pub returns-in_default-2 : goal.returns-in_default-2
returns-in_default-2 c = delay_no c.args.s.now (inr (sym c.if-is_digit.ensures))
