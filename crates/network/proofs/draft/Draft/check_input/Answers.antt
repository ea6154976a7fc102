use Rattle.std.proofs.Common.{arith}
use Rattle.network.proofs.Refused.{room_inputs, room_full, room_after, room_fine}
use Rattle.network.proofs.draft.Draft.check_input.Goals as goal
use Rattle.network.proofs.draft.Draft.check_input.Goals.{then-self-ge-MAX_INPUTS-via-then-self-ge-MAX_INPUTS, then-self-ge-MAX_INPUTS-via-else-self-ge-MAX_INPUTS+then-len-ge-MAX_LINES}

pub returns-then-self-ge-MAX_INPUTS : goal.returns-then-self-ge-MAX_INPUTS
returns-then-self-ge-MAX_INPUTS c =
    elim c.then-self-ge-MAX_INPUTS.branch [
      | then-self-ge-MAX_INPUTS-via-then-self-ge-MAX_INPUTS w ↦ room_inputs _ (omega (arith, w.if-self-ge-MAX_INPUTS.true))
      | then-self-ge-MAX_INPUTS-via-else-self-ge-MAX_INPUTS+then-len-ge-MAX_LINES w ↦ room_full _ (omega (arith, w.len.ensures, w.if-len-ge-MAX_LINES.true))
    ]

pub returns-then-self-len : goal.returns-then-self-len
returns-then-self-len c = room_after _ (omega arith) (omega arith) (omega arith)

pub returns : goal.returns
returns c = room_fine _ (omega arith) (omega arith) (omega arith)
