use Rattle.std.proofs.Common.{◌-◌, not, is_some, Some, None, unwrap_or, sym, ap, ◌∙◌, arith, rules}
use Rattle.search.proofs.Turning.{over_length}
use Rattle.search.proofs.Passes.{starts, after_tied, after_open, after_one, after_zero}
use Rattle.search.proofs.walk.pass.Goals as goal

pub loop-i-init : goal.loop-i-init
loop-i-init c = starts c.args.ties.now c.args.setting.now c.requires

pub loop-i-preserved : goal.loop-i-preserved
loop-i-preserved c =
    after_tied c.args.ties.now c.args.setting.now c.loop-i.setting c.loop-i.i (c.loop-i.i - 1) None c.requires (omega arith) (omega arith) c.loop-i.invariant.0 c.loop-i.invariant.1
    (c.is_none.ensures ∙ ap not c.if-is_none.false)

pub returns-in-Some-false : goal.returns-in-Some-false
returns-in-Some-false c =
    let e = after_zero c.args.ties.now c.args.setting.now c.loop-i.setting c.loop-i.i (c.loop-i.i - 1) None c.requires (omega arith) (omega arith) c.loop-i.invariant.0 c.loop-i.invariant.1
    (c.is_none.ensures ∙ ap not c.if-is_none.true) (c.in-Some-false.is ∙ ap Some (search rules)) in
    record { answer = sym (ap is_some e); setting = sym (ap (λ o. unwrap_or o c.args.ties.now) e) }

pub loop-i-preserved-in-Some-true : goal.loop-i-preserved-in-Some-true
loop-i-preserved-in-Some-true c =
    after_one c.args.ties.now c.args.setting.now c.loop-i.setting c.loop-i.i (c.loop-i.i - 1) None c.requires (omega arith) (omega arith) c.loop-i.invariant.0 c.loop-i.invariant.1
    (c.is_none.ensures ∙ ap not c.if-is_none.true) (c.in-Some-true.is ∙ ap Some (search rules))

pub loop-i-preserved-in-None : goal.loop-i-preserved-in-None
loop-i-preserved-in-None c =
    after_open c.args.ties.now c.args.setting.now c.loop-i.setting c.loop-i.i (c.loop-i.i - 1) None c.requires (omega arith) (omega arith) c.loop-i.invariant.0 c.loop-i.invariant.1
    (c.is_none.ensures ∙ ap not c.if-is_none.true) c.in-None.is

pub bounds-ties-i : goal.bounds-ties-i
bounds-ties-i c = let long = over_length c.args.ties.now c.args.setting.now c.requires in omega arith
