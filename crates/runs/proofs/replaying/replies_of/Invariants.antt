use Rattle.std.proofs.Common.{◌≡◌, ◌+◌, ◌≤◌, ◌++◌}
use Rattle.study.specs.Standing.{plain_of, Stands}
use Rattle.turns.specs.Answers.{Past}
use Rattle.runs.proofs.Running.{Goes_on}
use Rattle.runs.proofs.replaying.replies_of.Given as goal

-- the study has had the turns so far, each of them right; calls done and calls to come are all the calls; there is room for the rest
abbrev pub invariant-loop-call : goal.invariant-loop-call
invariant-loop-call g l =
    (past : Past g.row.T.Denot) × Stands g.T.Time.kind (plain_of l.initial.study) past l.study
    × Goes_on g.T.Time.kind (plain_of l.initial.study) past l.yielded l.replies.items
    × (l.yielded ++ l.call-iterator.rest.items ≡ l.initial.call-iterator.rest.items)
    × (l.replies.len + l.call-iterator.rest.len ≤ l.replies.cap)
