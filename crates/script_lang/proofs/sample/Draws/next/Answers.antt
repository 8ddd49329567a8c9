use Rattle.script_lang.proofs.Drawing.{draw_next}
use Rattle.script_lang.proofs.sample.Draws.next.Goals as goal

pub returns-clause-last : goal.returns-clause-last
returns-clause-last c = draw_next c.args.self.now.last c.args.self.now.in_range
