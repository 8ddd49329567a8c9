use Rattle.std.proofs.Common.{ap, arith}
use Rattle.std.proofs.lemmas.Grind.{common_steps}
use Rattle.amr_program.proofs.Parts.{shape_fits}
use Rattle.amr_program.proofs.run.run_lines.Goals as goal

pub unreachable-requires : goal.unreachable-requires
unreachable-requires g c =
    let fits = shape_fits c.args.origin c.requires.begins in
    let n = ap (λ s. s.n) c.shape-shape.ensures in
    let guards = ap (λ s. s.g) c.shape-shape.ensures in
    let cells_are = fits.cells in
    let guards_are = fits.guards in
    grind (arith, common_steps, n, guards, cells_are, guards_are)
