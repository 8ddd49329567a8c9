use Rattle.amr_num.specs.declared.Axis.TheVariants.{X, Y, Z}
use Rattle.block_tree.specs.GridOf.{grid_of}
use Rattle.mesh_steps.proofs.Given.{as_named}
use Rattle.mesh_steps.proofs.circulations.leaf_sides.Goals as goal

pub returns : goal.returns
returns c =
    let g = grid_of c.args.tree.now in
    let b = c.args.block in
    elim [
      | X ↦ as_named g b c.leaf_faces-x.result X c.leaf_faces-x.ensures.axis c.leaf_faces-x.ensures.counts
      | Y ↦ as_named g b c.leaf_faces-y.result Y c.leaf_faces-y.ensures.axis c.leaf_faces-y.ensures.counts
      | Z ↦ as_named g b c.leaf_faces-z.result Z c.leaf_faces-z.ensures.axis c.leaf_faces-z.ensures.counts
    ]
