use Rattle.std.proofs.Common.{◌≡◌, ◌+◌, drop}
use Rattle.mesh_model.specs.Language.Grammar.{lines_say}
use Rattle.script_lang.specs.Answers.{texts, IsNarrow}
use Rattle.script_lang.proofs.Reading.{read_after}
use Rattle.script_lang.proofs.reader.read_lines.Given as goal

abbrev pub invariant-loop-line : goal.invariant-loop-line
invariant-loop-line l = record {
  read : read_after l.read.items (lines_say l.reading l.number (drop l.line-index (texts l.lines))) ≡ lines_say l.initial.reading 1 (texts l.lines);
  counted : l.number ≡ l.line-index + 1;
  narrow : IsNarrow l.reading.declared.shape;
}
