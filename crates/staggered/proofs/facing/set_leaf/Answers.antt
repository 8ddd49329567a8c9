use Rattle.amr_num.specs.declared.Axis.{Axis}
use Rattle.amr_num.specs.declared.Axis.TheVariants.{X, Y, Z}
use Rattle.mesh_model.specs.Fields.Advect.{three}
use Rattle.staggered.specs.Facing.{IsEven}
use Rattle.staggered.proofs.UniformSet.{even_kept, more_faces, one_axis}
use Rattle.staggered.proofs.facing.set_leaf.Goals as goal

pub returns : goal.returns
returns g c =
    let n = g.row.N in
    let e = g.row.G in
    let bs = three c.args.fluxes in
    let node = c.args.node in
    let old = c.args.world.now in
    let first = c.set_axis.new.world in
    let second = c.set_axis-2.new.world in
    let last = c.set_axis-3.new.world in
    let each : (a : Axis) → IsEven n e last bs node a = elim [
      | X ↦ even_kept n e second last bs node X Z (λ is. cc) c.set_axis-3.ensures.only (even_kept n e first second bs node X Y (λ is. cc) c.set_axis-2.ensures.only c.set_axis.ensures.even)
      | Y ↦ even_kept n e second last bs node Y Z (λ is. cc) c.set_axis-3.ensures.only c.set_axis-2.ensures.even
      | Z ↦ c.set_axis-3.ensures.even
    ] in
    record {
      only = more_faces old first last node (one_axis old first X node c.set_axis.ensures.only) (more_faces first second last node (one_axis first second Y node c.set_axis-2.ensures.only) (one_axis second last Z node c.set_axis-3.ensures.only));
      fit = c.set_axis-3.ensures.fit;
      even = each;
    }
