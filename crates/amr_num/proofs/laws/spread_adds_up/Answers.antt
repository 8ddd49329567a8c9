use Rattle.amr_num.proofs.Parts.{spread_adds_up}
use Rattle.amr_num.proofs.laws.spread_adds_up.Goals as goal

pub returns : goal.returns
returns c = spread_adds_up
