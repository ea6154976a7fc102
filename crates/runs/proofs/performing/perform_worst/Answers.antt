use Rattle.std.proofs.Common.{arith}
use Rattle.std.proofs.lemmas.List.{with_items_is}
use Rattle.runs.proofs.Moved.{worst_moved}
use Rattle.runs.proofs.performing.perform_worst.Goals as goal

pub returns : goal.returns
returns g c =
    worst_moved g.T.Time.kind _ _ _ _ _ _ _ _ _ _
    c.deref_mut.ensures.value (with_items_is c.args.vector c.worst-outcome.new.vector (omega arith))
    c.deref_mut-2.ensures.value (with_items_is c.args.work c.worst-outcome.new.work (omega arith))
    _ _ c.worst-outcome.ensures
