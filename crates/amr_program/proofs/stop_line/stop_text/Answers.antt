use Rattle.amr_program.proofs.StopLine.{stop_told}
use Rattle.amr_program.proofs.stop_line.stop_text.Goals as goal

pub returns : goal.returns
returns c = stop_told c.args.names.now c.args.line c.args.why c.begin-text.result c.push_word.new.self c.push_number.new.self c.push_text.new.self c.push_refusal.new.text c.end.new.self c.begin-text.ensures c.push_word.ensures c.push_number.ensures.text c.push_text.ensures c.push_refusal.ensures.text c.end.ensures
