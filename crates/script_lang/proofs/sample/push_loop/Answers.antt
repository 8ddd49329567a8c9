use Rattle.std.proofs.Common.{append_assoc}
use Rattle.script_lang.proofs.sample.push_loop.Goals as goal

pub returns : goal.returns
returns c = simp append_assoc c.write.ensures.bytes
