use Rattle.hex.proofs.HexLemmas.{length-encode_with}
use Rattle.hex.specs.Hex.{encode_with, lower_digits}
use Rattle.std.proofs.Common.{◌≡◌, ap, length, arith}
use Rattle.std.specs.Prelude.{string_bytes}
use Rattle.amr_program.proofs.lines.digest_text.Goals as goal

pub returns-in-Ok-clause-short : goal.returns-in-Ok-clause-short
returns-in-Ok-clause-short c =
    let e : length (string_bytes c.in-Ok.text) ≡ length (encode_with lower_digits c.args.digest.now) = ap length c.in-Ok.ensures in
    let twice = length-encode_with lower_digits c.args.digest.now in
    let digits = c.told-digest in
    omega (arith, e, twice, digits)
