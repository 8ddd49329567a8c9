use Rattle.amr_num.proofs.Parts.{parts_add_up}
use Rattle.amr_num.proofs.laws.parts_add_up.Goals as goal

pub returns : goal.returns
returns c = parts_add_up
