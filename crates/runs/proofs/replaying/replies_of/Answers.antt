use Rattle.std.proofs.Common.{◌≡◌, List, [], ◌∷◌, ◌++◌, map, sym, refl, ◌∙◌, subst, arith}
use Rattle.std.proofs.lemmas.List.{nil_from_length}
use Rattle.study.specs.Standing.{plain_of}
use Rattle.turns.specs.Runs.{Run}
use Rattle.turns.specs.Asked.{asked, told}
use Rattle.runs.proofs.Running.{goes_on_more, all_gone, front_more, front_all}
use Rattle.runs.proofs.replaying.replies_of.Goals as goal

pub loop-call-init : goal.loop-call-init
loop-call-init g c =
    let becomes = c.into_iter-call-iterator.ensures.into_iter_gives in
    let none : c.args.room.replies.items ≡ [] = nil_from_length c.args.room.replies.items (sym c.args.room.replies.ok.0 ∙ c.args.room.empty) in
    ([], c.requires.opened, (λ calls tolds r. subst (λ (l : List _). Run g.T.Time.kind (plain_of c.args.study.now) [] calls (map told l ++ tolds)) (sym none) r), refl, omega (arith, c.requires.enough, c.args.room.empty, becomes.1))

pub push_reserved-requires : goal.push_reserved-requires
push_reserved-requires g c = omega (arith, c.loop-call.invariant.4, c.in-Some.ensures.steps.1)

pub loop-call-preserved : goal.loop-call-preserved
loop-call-preserved g c =
    let inv = c.loop-call.invariant in
    let pushed = c.push_reserved.ensures in
    let turn = c.perform.ensures.promise (plain_of c.args.study.now) (plain_of c.loop-call.study) inv.0 inv.1 inv.1.plain in (
      record { call = asked c.in-Some.call; reply = told c.perform.result } ∷ inv.0,
      turn.1,
      goes_on_more g.T.Time.kind (plain_of c.args.study.now) inv.0 c.loop-call.yielded c.loop-call.replies.items _ c.loop-call.study c.in-Some.call c.perform.result inv.1 inv.2 turn.0 pushed.items,
      front_more _ _ _ _ _ inv.3 c.in-Some.ensures.steps.0,
      omega (arith, inv.4, pushed.len, pushed.capacity, c.in-Some.ensures.steps.1),
    )

pub returns : goal.returns
returns g c =
    let inv = c.loop-call.invariant in
    let all = front_all _ _ _ inv.3 (sym c.loop-call.call-iterator.rest.ok.0 ∙ c.in-None.ensures.steps.0) in
    all_gone g.T.Time.kind (plain_of c.args.study.now) inv.0 c.loop-call.yielded _ c.loop-call.replies.items (all ∙ c.into_iter-call-iterator.ensures.into_iter_gives.0) inv.2
