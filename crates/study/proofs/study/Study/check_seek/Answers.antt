use Rattle.std.proofs.Common.{⊎_elim, inl, inr}
use Rattle.std.proofs.lemmas.Result.{err_from_is_err_and}
use Rattle.turns.specs.Refusals.{SeekWrong}
use Rattle.turns.proofs.Accepted.{below_or, within_or}
use Rattle.turns.proofs.Refused.{seek_10, seek_11, seek_14, seek_none}
use Rattle.study.proofs.Tested.{refused_as, by_last}
use Rattle.study.proofs.study.Study.check_seek.Goals as goal

pub returns-in_err-check_line : goal.returns-in_err-check_line
returns-in_err-check_line g c =
    let p = err_from_is_err_and c.from_residual.result c.from_residual.ensures.1 in
    let refused = c.in_err-check_line.ensures in
    refused_as _ _ _ _ _ p.1 p.2 refused.0 (seek_10 _ _ _ _ _ refused.1)

pub returns-in_err-check_bit : goal.returns-in_err-check_bit
returns-in_err-check_bit g c =
    let p = err_from_is_err_and c.from_residual-in_err-check_bit.result c.from_residual-in_err-check_bit.ensures.1 in
    let refused = c.in_err-check_bit.ensures in
    refused_as _ _ _ _ _ p.1 p.2 refused.0 (seek_11 _ _ _ _ _ (below_or _ _ c.in_ok-check_line.ensures) refused.1)

pub returns : goal.returns
returns g c =
    let present = below_or _ _ c.in_ok-check_line.ensures in
    let bit = within_or _ _ c.in_ok-check_bit.ensures in
    by_last _ _ _ _ c.check_room.ensures
    (⊎_elim (λ short. seek_14 _ _ _ _ _ present bit (SeekWrong.short_vector short)) (λ few. seek_14 _ _ _ _ _ present bit (SeekWrong.few_work few)))
    (λ none. seek_none _ _ _ _ _ present bit (within_or _ _ (λ k. none (inl k))) (within_or _ _ (λ k. none (inr k))))
