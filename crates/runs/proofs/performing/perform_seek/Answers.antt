use Rattle.std.proofs.Common.{arith}
use Rattle.std.proofs.lemmas.List.{with_items_is}
use Rattle.runs.proofs.Moved.{seek_moved}
use Rattle.runs.proofs.performing.perform_seek.Goals as goal

pub returns : goal.returns
returns g c =
    record {
      promise = seek_moved g.T.Time.kind _ _ _ _ _ _ _ _ _ _
          c.deref_mut.ensures.value (with_items_is c.args.vector c.seek-outcome.new.vector (omega arith))
          c.deref_mut-2.ensures.value (with_items_is c.args.work c.seek-outcome.new.work (omega arith))
          _ _ _ _ c.seek-outcome.ensures.promise;
      refused = λ e. c.seek-outcome.ensures.keeps.refused e;
    }
