use Rattle.sheets.proofs.OneVerdict.{one_verdict}
use Rattle.sheets.proofs.one_verdict.Goals as goal

pub returns : goal.returns
returns c = one_verdict
