use Rattle.std.proofs.lemmas.Result.{IfOk-weaker}
use Rattle.std.specs.Option.{option_copied}
use Rattle.script_lang.proofs.Scripts.{script_in_limits, script_fits, given_within}
use Rattle.script_lang.proofs.reader.read_script.Goals as goal

pub returns-clause-limits : goal.returns-clause-limits
returns-clause-limits c = IfOk-weaker c.read.result _ _ (λ s h. script_in_limits (option_copied c.args.start) c.args.bytes.now _ (given_within c.args.start c.requires) h) c.read.ensures.script

pub returns-clause-lines : goal.returns-clause-lines
returns-clause-lines c = IfOk-weaker c.read.result _ _ (λ s h. script_fits (option_copied c.args.start) c.args.bytes.now _ h) c.read.ensures.script
