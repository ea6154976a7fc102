use Rattle.search.proofs.Searching.{search_stands}
use Rattle.search.proofs.Turning.{turns_stand}
use Rattle.search.proofs.Worsts.{worst_stands}
use Rattle.search.proofs.stands.searching.Goals as goal

pub returns : goal.returns
returns g c = record { first = search_stands; turns = turns_stand; worst = worst_stands _ }
