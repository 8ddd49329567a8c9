use Rattle.std.proofs.Common.{◌<◌, arith, sym, subst}
use Rattle.mesh_model.specs.Fields.Valid.{ValidMesh}
use Rattle.amr_engine.specs.EngineMesh.{mesh_of}
use Rattle.amr_engine.proofs.Made.{filled_is, filled_laid, filled_valid, tree_now}
use Rattle.amr_engine.proofs.Regions.{region_small}
use Rattle.amr_engine.proofs.ValidOut.{mesh_out}
use Rattle.amr_engine.proofs.engine.Engine.fill.Goals as goal

pub fill_leaves-requires : goal.fill_leaves-requires
fill_leaves-requires g c =
    let self = c.args.self.now in
    let valid = mesh_out (mesh_of self.names self.world self.outs.items self.marks) self.valid in (
      omega arith,
      (
        self.fit,
        (
          subst (λ m. c.args.var < m) (sym self.laid_out.cells) c.requires.variable,
          (
            region_small self.world.told.grid.shape (tree_now self.names self.world self.outs.items self.marks self.laid_out valid).shape c.args.fill.region c.requires.region,
            c.requires.value,
          ),
        ),
      ),
    )

pub invariant_of-self : goal.invariant_of-self
invariant_of-self g c =
    let self = c.args.self.now in
    let valid = mesh_out (mesh_of self.names self.world self.outs.items self.marks) self.valid in
    let only = c.fill_leaves.ensures.only in
    let after = filled_valid self.names self.world self.outs.items self.marks self.laid_out valid c.args.var c.args.fill c.fill_leaves.new.world c.requires.variable only c.fill_leaves.ensures.filled c.requires.region c.requires.value in
    record {
      room = c.args.self.now.room;
      named = c.args.self.now.named;
      fit = c.fill_leaves.ensures.fit;
      laid_out = filled_laid self.names self.world self.outs.items self.marks self.laid_out valid c.args.var c.args.fill c.fill_leaves.new.world c.requires.variable only c.fill_leaves.ensures.filled after;
      valid = ∣ subst ValidMesh (sym (filled_is self.names self.world self.outs.items self.marks self.laid_out valid c.args.var c.args.fill c.fill_leaves.new.world c.requires.variable only c.fill_leaves.ensures.filled after)) after ∣₁;
    }

pub returns-clause-mesh : goal.returns-clause-mesh
returns-clause-mesh g c =
    let self = c.args.self.now in
    let valid = mesh_out (mesh_of self.names self.world self.outs.items self.marks) self.valid in
    let only = c.fill_leaves.ensures.only in
    let after = filled_valid self.names self.world self.outs.items self.marks self.laid_out valid c.args.var c.args.fill c.fill_leaves.new.world c.requires.variable only c.fill_leaves.ensures.filled c.requires.region c.requires.value in
    filled_is self.names self.world self.outs.items self.marks self.laid_out valid c.args.var c.args.fill c.fill_leaves.new.world c.requires.variable only c.fill_leaves.ensures.filled after
