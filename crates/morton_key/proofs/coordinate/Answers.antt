use Rattle.morton_key.proofs.Placing.{back_few}
use Rattle.morton_key.proofs.coordinate.Goals as goal

pub returns-clause-size : goal.returns-clause-size
returns-clause-size c = back_few c.args.level c.args.x c.requires.level c.requires.place
