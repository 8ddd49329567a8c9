use Rattle.morton_key.proofs.Placing.{one_block}
use Rattle.morton_key.proofs.laws.keys_are_of_one_block.Goals as goal

pub returns : goal.returns
returns c = one_block
