use Rattle.check_disk.proofs.Goods.{good_whole, whole_good}
use Rattle.check_disk.proofs.laws.good_is_whole.Goals as goal

pub returns-clause-whole : goal.returns-clause-whole
returns-clause-whole g c = good_whole g.P.Pieces.format

pub returns-clause-good : goal.returns-clause-good
returns-clause-good g c = whole_good g.P.Pieces.format
