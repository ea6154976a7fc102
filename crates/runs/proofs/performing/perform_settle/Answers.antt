use Rattle.std.proofs.Common.{arith}
use Rattle.std.proofs.lemmas.List.{with_items_is}
use Rattle.runs.proofs.Moved.{settle_moved}
use Rattle.runs.proofs.performing.perform_settle.Goals as goal

pub returns : goal.returns
returns g c =
    settle_moved g.T.Time.kind _ _ _ _ _ _ _ _ _ _ _ _ _ c.deref.ensures.value
    c.deref_mut.ensures.value (with_items_is c.args.values c.settle-outcome.new.values (omega arith))
    c.deref_mut-2.ensures.value (with_items_is c.args.times c.settle-outcome.new.times (omega arith))
    c.settle-outcome.ensures
