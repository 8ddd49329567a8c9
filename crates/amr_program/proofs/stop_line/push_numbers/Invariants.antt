use Rattle.std.proofs.Common.{◌≡◌, ◌+◌, ◌*◌, ◌≤◌, ◌++◌, length, map, take}
use Rattle.std.specs.Fmt.{signed_decimal}
use Rattle.amr_program.specs.Lines.{more_words}
use Rattle.amr_program.proofs.stop_line.push_numbers.Given as goal

abbrev pub invariant-loop-number : goal.invariant-loop-number
invariant-loop-number l = record {
  so_far : l.text ≡ l.fn.text ++ more_words (map signed_decimal (take l.number-index l.numbers));
  short : length l.text ≤ length l.fn.text + 21 * l.number-index;
}
