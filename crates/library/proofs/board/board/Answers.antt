use Rattle.std.proofs.Common.{sym, subst}
use Rattle.library.specs.Entries.{NoneBad}
use Rattle.library.specs.Laws.{board_good}
use Rattle.library.proofs.board.board.Goals as goal

pub new-requires : goal.new-requires
new-requires c = subst NoneBad (sym c.in_ok-entries.ensures.items) (board_good c.of.result c.of-2.result c.of.ensures c.of-2.ensures)
