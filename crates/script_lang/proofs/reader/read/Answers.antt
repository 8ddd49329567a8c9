use Rattle.std.proofs.Common.{length, sym, ap, ◌∙◌, arith}
use Rattle.std.proofs.lemmas.List.Sums.{count_by-le-length}
use Rattle.script_lang.proofs.Reading.{line_count, missing}
use Rattle.std.specs.Option.{option_copied}
use Rattle.mesh_model.specs.Language.Words.{is_line_end}
use Rattle.script_lang.proofs.reader.read.Goals as goal

pub read_lines-requires-clause-few : goal.read_lines-requires-clause-few
read_lines-requires-clause-few c =
    let n = line_count c.in_ok-lines.lines.items c.args.bytes.now c.in_ok-lines.ensures in
    let few = count_by-le-length is_line_end c.args.bytes.now in
    rw c.deref.ensures.value (omega arith)

pub overflow_cast-result : goal.overflow_cast-result
overflow_cast-result c =
    let n = line_count c.in_ok-lines.lines.items c.args.bytes.now c.in_ok-lines.ensures in
    let few = count_by-le-length is_line_end c.args.bytes.now in
    omega (arith, c.len.ensures)

pub returns-then-not-ended-clause-fault : goal.returns-then-not-ended-clause-fault
returns-then-not-ended-clause-fault c = missing (option_copied c.args.start) c.args.bytes.now c.in_ok-lines.lines.items c.read_lines.new.reading c.in_ok-read.read.items c.len.result (omega arith) c.in_ok-lines.ensures (rw (c.in_ok-reading.ensures.reading, c.deref.ensures.value) at c.in_ok-read.ensures.says) c.if-not-ended.true (c.len.ensures ∙ sym c.deref.ensures.len ∙ ap length c.deref.ensures.value)
