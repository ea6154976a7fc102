use Rattle.std.proofs.Common.{sym, refl, ap}
use Rattle.turns.specs.Asked.{asked}
use Rattle.runs.proofs.Moved.{as_asked}
use Rattle.runs.proofs.performing.perform.Goals as goal

pub returns-in-Settle : goal.returns-in-Settle
returns-in-Settle g c =
    record {
      promise = as_asked g.T.Time.kind _ _ _ _ _ (ap asked (sym c.in-Settle.is)) c.perform_settle.ensures;
      refused = λ _. record { lines = refl; inputs = refl; ties = refl; ceilings = refl };
    }

pub returns-in-Seek : goal.returns-in-Seek
returns-in-Seek g c =
    record {
      promise = as_asked g.T.Time.kind _ _ _ _ _ (ap asked (sym c.in-Seek.is)) c.perform_seek.ensures.promise;
      refused = c.perform_seek.ensures.refused;
    }

pub returns-in-Worst : goal.returns-in-Worst
returns-in-Worst g c =
    record {
      promise = as_asked g.T.Time.kind _ _ _ _ _ (ap asked (sym c.in-Worst.is)) c.perform_worst.ensures;
      refused = λ _. record { lines = refl; inputs = refl; ties = refl; ceilings = refl };
    }
