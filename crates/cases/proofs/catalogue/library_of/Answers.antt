-- The library is of the entries that were checked.
use Rattle.std.proofs.Common.{subst}
use Rattle.library.specs.Entries.{NoneBad}
use Rattle.cases.proofs.catalogue.library_of.Goals as goal

pub new-requires : goal.new-requires
new-requires c = subst NoneBad c.deref.ensures.value c.in_ok-check_entries.ensures
