use Rattle.std.proofs.Common.{FitsSigned, append_assoc, codes, decimal, w32}
use Rattle.std.proofs.lemmas.Int.{to_z-of_z}
use Rattle.std.specs.Fmt.{signed_decimal}
use Rattle.script_lang.proofs.Sampling.{round_text}
use Rattle.script_lang.proofs.sample.push_round.Goals as goal

pub returns : goal.returns
returns c =
    let reports = codes "total u\nnetflux\nprint size\nmark derefine where u below 1\nregrid\n" in
    let fits_x : FitsSigned w32 c.args.x = c.ranges.x in
    let fits_y : FitsSigned w32 c.args.y = c.ranges.y in
    let fits_z : FitsSigned w32 c.args.z = c.ranges.z in
    let written = simp (to_z-of_z, append_assoc) at c.write.ensures.bytes in
    rw (round_text (decimal c.args.threshold) (signed_decimal c.args.x) (signed_decimal c.args.y) (signed_decimal c.args.z) reports) written
