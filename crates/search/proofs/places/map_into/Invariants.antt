use Rattle.std.proofs.Common.{◌≡◌, map}
use Rattle.std.proofs.Math.Seq.{paste}
use Rattle.search.proofs.places.map_into.Given as goal

-- the places below i are written
abbrev pub invariant-loop-i : goal.invariant-loop-i
invariant-loop-i g l =
    (by : g.row.A.Denot → g.row.B.Denot) → ((x : g.row.A.Denot) (y : g.row.B.Denot) → goal.F-post g l.f x y → y ≡ by x) → l.into ≡ paste l.initial.into 0 (map by l.from) l.i
