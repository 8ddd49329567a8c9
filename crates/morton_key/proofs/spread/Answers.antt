use Rattle.morton_key.proofs.Respacing.{spread_says}
use Rattle.morton_key.proofs.spread.Goals as goal

pub returns-clause-value : goal.returns-clause-value
returns-clause-value c = spread_says c.args.n c.requires
