use Rattle.std.proofs.Common.{length, sym, ap, ◌∙◌, arith}
use Rattle.std.proofs.lemmas.List.{length-take-le}
use Rattle.std.proofs.lemmas.Result.{err_from_is_err_and}
use Rattle.turns.proofs.Accepted.{settle_as_long, settle_values, settle_times}
use Rattle.study.specs.Standing.{plain_of}
use Rattle.study.proofs.Places.{ties_long, lent}
use Rattle.study.proofs.Shown.{settle_shown}
use Rattle.study.proofs.Stepping.{unchanged_self, refused_settle, accepted_settle}
use Rattle.study.proofs.study.Study.settle.Goals as goal

pub returns-in_err-check_settle : goal.returns-in_err-check_settle
returns-in_err-check_settle g c =
    let p = err_from_is_err_and c.from_residual.result c.from_residual.ensures.1 in
    let study = c.args.self.now in
    rw (p.1, p.2)
    (refused_settle g.T.Time.kind g.met.T.Time.lawful study study c.args.vector.now c.args.values.now c.args.times.now _ c.in_err-check_settle.ensures (unchanged_self study))

pub read_bits-requires : goal.read_bits-requires
read_bits-requires g c =
    let study = c.args.self.now in
    let long = settle_as_long _ _ _ _ c.in_ok-check_settle.ensures in
    length-take-le study.inputs _ study.few ∙ sym (long ∙ ties_long study)

pub settle-requires-clause-values : goal.settle-requires-clause-values
settle-requires-clause-values g c = omega (arith, settle_values _ _ _ _ c.in_ok-check_settle.ensures, ap length c.tied.ensures.lines)

pub settle-requires-clause-times : goal.settle-requires-clause-times
settle-requires-clause-times g c = omega (arith, settle_times _ _ _ _ c.in_ok-check_settle.ensures, ap length c.tied.ensures.lines)

pub returns : goal.returns
returns g c =
    let study = c.args.self.now in
    let kind = g.T.Time.kind in
    accepted_settle kind g.met.T.Time.lawful study c.args.vector.now c.args.values.now _ c.args.times.now _ tt c.in_ok-check_settle.ensures
    (settle_shown kind _ (plain_of study) (lent study c.tied.result.lines.now c.tied.result.ties.now c.tied.ensures.lines c.tied.ensures.ties) c.args.vector.now _ c.read_bits.ensures c.args.values.now _ c.args.times.now _ c.settle.ensures.rules c.settle.ensures.values c.settle.ensures.times)
