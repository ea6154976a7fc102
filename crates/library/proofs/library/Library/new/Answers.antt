use Rattle.library.specs.Laws.{by_entries}
use Rattle.library.proofs.library.Library.new.Goals as goal

pub returns-clause-law : goal.returns-clause-law
returns-clause-law c = by_entries _ c.requires
