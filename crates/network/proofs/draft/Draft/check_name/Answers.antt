use Rattle.std.proofs.Common.{sym}
use Rattle.network.proofs.Refused.{name_unlawful, name_taken, name_fine}
use Rattle.network.proofs.draft.Draft.check_name.Goals as goal

pub returns-then-not-is_name : goal.returns-then-not-is_name
returns-then-not-is_name c = name_unlawful _ _ (sym c.if-not-is_name.ensures)

pub returns-in-Some : goal.returns-in-Some
returns-in-Some c = name_taken _ _ (sym c.if-not-is_name.ensures) _ c.in-Some.ensures.first.named

pub returns-in-None : goal.returns-in-None
returns-in-None c = name_fine _ _ (sym c.if-not-is_name.ensures) c.in-None.ensures.first
