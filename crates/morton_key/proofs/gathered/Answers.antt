use Rattle.morton_key.proofs.Respacing.{gather_says}
use Rattle.morton_key.proofs.gathered.Goals as goal

pub returns-clause-value : goal.returns-clause-value
returns-clause-value c = gather_says c.args.n
