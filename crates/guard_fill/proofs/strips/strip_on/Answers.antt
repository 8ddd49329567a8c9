use Rattle.std.proofs.Common.{◌*◌, ◌^◌, ◌%◌, ◌≤◌, Bool, arith, subst, ap, ◌∙◌, ◌≡◌}
use Rattle.mesh_model.specs.Geometry.Coordinates.{is_periodic, roots}
use Rattle.mesh_model.proofs.GeometryLemmas.ShapeLimits.{roots_few}
use Rattle.guard_fill.specs.Strips.{IsReach}
use Rattle.guard_fill.proofs.AxisStrips.{few_blocks}
use Rattle.guard_fill.proofs.strips.strip_on.Goals as goal

pub returns : goal.returns
returns c =
    let s = c.args.shape.now in
    let a = c.args.axis in
    let b = c.args.block in
    let deep : b.level ≤ 10 = (let room = c.requires.block.level in let top = c.requires.shape.max in omega arith) in
    let many : c.roots.result * 2 ^ b.level % 4294967296 ≡ roots s a * 2 ^ b.level =
    ap (λ r. r * 2 ^ b.level % 4294967296) c.roots.ensures ∙ few_blocks (roots s a) b.level (roots_few c.requires.shape a) deep in
    subst (λ o. IsReach c.args.n c.args.g c.args.positions (is_periodic s a) (roots s a * 2 ^ b.level) o c.args.direction c.strip_of.result) c.block_on.ensures
    (subst (λ m. IsReach c.args.n c.args.g c.args.positions (is_periodic s a) m c.block_on.result c.args.direction c.strip_of.result) many
    (subst (λ (p : Bool). IsReach c.args.n c.args.g c.args.positions p (c.roots.result * 2 ^ b.level % 4294967296) c.block_on.result c.args.direction c.strip_of.result) c.is_periodic.ensures c.strip_of.ensures))
