use Rattle.std.proofs.Common.{◌≡◌, true, length, take, is_some, Some, None, Ok, sym, ap, ◌∙◌, subst, arith}
use Rattle.std.proofs.lemmas.List.{length-take-le}
use Rattle.std.proofs.lemmas.Result.{err_from_is_err_and}
use Rattle.search.specs.Worst.{best_of}
use Rattle.seeking.specs.Seeking.{latest_time}
use Rattle.turns.specs.Asked.{worst, told_worst}
use Rattle.turns.specs.Plain.{Plain}
use Rattle.turns.proofs.Accepted.{worst_present, worst_room, worst_work}
use Rattle.study.specs.Standing.{plain_of, Promises}
use Rattle.study.proofs.Places.{lawful_lines, ties_long, ties_counted, lent}
use Rattle.study.proofs.Shown.{vector_shown, worst_is, never_none, value_shown}
use Rattle.study.proofs.Stepping.{unchanged_self, refused_worst, accepted_worst}
use Rattle.study.proofs.study.Study.worst.Goals as goal

pub returns-in_err-check_worst : goal.returns-in_err-check_worst
returns-in_err-check_worst g c =
    let p = err_from_is_err_and c.from_residual.result c.from_residual.ensures.1 in
    let study = c.args.self.now in
    rw (p.1, p.2)
    (refused_worst g.T.Time.kind g.met.T.Time.lawful study study c.args.line c.args.vector.now c.args.work.now _ c.in_err-check_worst.ensures (unchanged_self study))

pub target-target-requires : goal.target-target-requires
target-target-requires g c = omega (arith, worst_present _ _ _ _ c.in_ok-check_worst.ensures, c.args.self.now.lines.ok.0)

pub worst_of-requires-clause-room : goal.worst_of-requires-clause-room
worst_of-requires-clause-room g c = omega (arith, ap length c.target-target.ensures.lines, worst_work _ _ _ _ c.in_ok-check_worst.ensures)

pub unreachable-requires : goal.unreachable-requires
unreachable-requires g c =
    let study = c.args.self.now in
    let kind = g.T.Time.kind in
    let target = c.target-target.result in
    let seen = lent study target.network.lines.now target.network.ties.now c.target-target.ensures.lines c.target-target.ensures.ties in
    never_none kind g.met.T.Time.lawful study.lines.items (take study.inputs study.ties) c.args.line (lawful_lines study) (ties_counted study) (worst_present _ _ _ _ c.in_ok-check_worst.ensures)
    (worst_is kind _ (plain_of study) seen _ c.args.line c.target-target.ensures.line None (ap (λ r. best_of r c.worst_of.new.at) (sym c.in_default.is) ∙ c.worst_of.ensures.worst))

pub latest_at-requires-clause-room : goal.latest_at-requires-clause-room
latest_at-requires-clause-room g c = omega (arith, ap length c.target-target.ensures.lines, worst_work _ _ _ _ c.in_ok-check_worst.ensures)

pub write_vector-requires : goal.write_vector-requires
write_vector-requires g c = omega (arith, worst_room _ _ _ _ c.in_ok-check_worst.ensures, ties_long c.args.self.now)

pub returns : goal.returns
returns g c =
    let study = c.args.self.now in
    let kind = g.T.Time.kind in
    let none = c.in_ok-check_worst.ensures in
    let present = worst_present _ _ _ _ none in
    let target = c.target-target.result in
    let seen = lent study target.network.lines.now target.network.ties.now c.target-target.ensures.lines c.target-target.ensures.ties in
    let at = c.worst_of.new.at in
    let many : length at ≡ study.inputs = c.worst_of.auto.at ∙ length-take-le study.inputs _ study.few in
    let reached = worst_is kind _ (plain_of study) seen _ c.args.line c.target-target.ensures.line (Some (record { at = at; time = c.in-Some.time })) (ap (λ r. best_of r at) (sym c.in-Some.is) ∙ c.worst_of.ensures.worst) in
    let value =
    c.is_some-value.ensures
    ∙ ap is_some (c.latest_at.ensures
    ∙ ap (λ (p : Plain). latest_time kind p.lines p.ties target.line true c.decide_all.new.setting) seen
    ∙ ap (λ k. latest_time kind study.lines.items (take study.inputs study.ties) k true c.decide_all.new.setting) c.target-target.ensures.line
    ∙ ap (latest_time kind study.lines.items (take study.inputs study.ties) c.args.line true) c.decide_all.ensures)
    ∙ value_shown kind g.met.T.Time.lawful study.lines.items (lawful_lines study) (take study.inputs study.ties) c.args.line present at (many ∙ study.counted) in
    subst (λ v. Promises kind study study (worst c.args.line c.args.vector.now c.args.work.now) (told_worst (Ok (record { time = c.in-Some.time; value = c.is_some-value.result })) v c.latest_at.new.work))
    (sym (vector_shown at c.decide_all.new.setting c.decide_all.ensures c.args.vector.now _ c.write_vector.ensures))
    (accepted_worst kind g.met.T.Time.lawful study c.args.line c.args.vector.now c.args.work.now c.latest_at.new.work (record { at = at; time = c.in-Some.time }) c.is_some-value.result none (omega arith) reached value)
