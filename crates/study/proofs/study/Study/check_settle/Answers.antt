use Rattle.std.proofs.Common.{sym, ◌∙◌, arith}
use Rattle.turns.specs.Refusals.{SettleWrong}
use Rattle.turns.proofs.Refused.{settle_11, settle_12, settle_14, settle_none}
use Rattle.study.proofs.Places.{ties_long}
use Rattle.study.proofs.study.Study.check_settle.Goals as goal

pub returns-then-vector-self : goal.returns-then-vector-self
returns-then-vector-self g c = settle_11 _ _ _ _ (SettleWrong.not_as_long (λ e. c.if-vector-self.true (e ∙ ties_long c.args.self.now)))

pub returns-then-not-all_bits : goal.returns-then-not-all_bits
returns-then-not-all_bits g c =
    let bad = c.all_bits.ensures.some c.if-not-all_bits.true in
    settle_11 _ _ _ _ (SettleWrong.no_bit bad.0 bad.1 bad.2)

pub returns-then-not-agrees : goal.returns-then-not-agrees
returns-then-not-agrees g c =
    let bad = c.agrees.ensures.some c.if-not-agrees.true in
    settle_12 _ _ _ _ (c.if-vector-self.false ∙ sym (ties_long c.args.self.now)) (c.all_bits.ensures.all c.if-not-all_bits.false) (SettleWrong.against_tie bad.0 bad.1.0 bad.1.1 bad.1.2)

pub returns-then-values-len : goal.returns-then-values-len
returns-then-values-len g c =
    settle_14 _ _ _ _ (c.if-vector-self.false ∙ sym (ties_long c.args.self.now)) (c.all_bits.ensures.all c.if-not-all_bits.false) (c.agrees.ensures.all c.if-not-agrees.false) (SettleWrong.few_values (omega arith))

pub returns-then-times-len : goal.returns-then-times-len
returns-then-times-len g c =
    settle_14 _ _ _ _ (c.if-vector-self.false ∙ sym (ties_long c.args.self.now)) (c.all_bits.ensures.all c.if-not-all_bits.false) (c.agrees.ensures.all c.if-not-agrees.false) (SettleWrong.few_times (omega arith))

pub returns : goal.returns
returns g c =
    settle_none _ _ _ _ (c.if-vector-self.false ∙ sym (ties_long c.args.self.now)) (c.all_bits.ensures.all c.if-not-all_bits.false) (c.agrees.ensures.all c.if-not-agrees.false) (omega arith) (omega arith)
