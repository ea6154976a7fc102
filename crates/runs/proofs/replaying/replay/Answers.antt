use Rattle.std.proofs.Common.{[], map, vec_items, sym, subst, arith}
use Rattle.std.proofs.lemmas.Result.{err_from_is_err_and}
use Rattle.study.specs.Standing.{Stands, OpenWrong}
use Rattle.turns.specs.Asked.{asked, told}
use Rattle.turns.specs.Plain.{Plain}
use Rattle.turns.specs.Runs.{Run}
use Rattle.runs.specs.Replays.{ReplayWrong}
use Rattle.runs.proofs.Running.{replay_14, replay_opening, replay_none}
use Rattle.runs.proofs.replaying.replay.Goals as goal

pub returns-in_err-check_open : goal.returns-in_err-check_open
returns-in_err-check_open g c =
    let p = err_from_is_err_and c.from_residual.result c.from_residual.ensures.1 in
    rw (p.1, p.2) (replay_opening _ _ _ _ _ _ c.args.network.lines.ok.0 c.deref.ensures.len _ c.in_err-check_open.ensures)

pub returns-then-capacity-len : goal.returns-then-capacity-len
returns-then-capacity-len g c = replay_14 _ _ _ _ (ReplayWrong.few_replies (omega (arith, c.args.calls.ok.0)))

pub open-study-requires : goal.open-study-requires
open-study-requires g c n w = c.in_ok-check_open.ensures n (subst (λ places. OpenWrong c.args.network.lines.len places n) (sym c.deref.ensures.len) w)

pub replies_of-requires : goal.replies_of-requires
replies_of-requires g c =
    record {
      opened = subst (λ (plain : Plain). Stands g.T.Time.kind plain [] c.open-study.result) (sym c.open-study.ensures.plain) c.open-study.ensures.stands;
      enough = omega arith;
    }

pub returns : goal.returns
returns g c = (
  replay_none _ _ _ _ _ _ c.args.network.lines.ok.0 c.deref.ensures.len c.in_ok-check_open.ensures (omega (arith, c.args.calls.ok.0)),
  subst (λ (plain : Plain). Run g.T.Time.kind plain [] (map asked (vec_items c.args.calls)) (map told (vec_items c.replies_of.result))) c.open-study.ensures.plain c.replies_of.ensures,
)
