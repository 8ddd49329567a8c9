use Rattle.std.proofs.Common.{sym}
use Rattle.amr_engine.specs.EngineMesh.{mesh_of}
use Rattle.amr_engine.proofs.Made.{grid_is, of_now}
use Rattle.amr_engine.proofs.ValidOut.{mesh_out}
use Rattle.amr_engine.proofs.engine.Engine.world.Goals as goal

pub returns-clause-tree : goal.returns-clause-tree
returns-clause-tree g c =
    let self = c.args.self.now in
    sym (grid_is self.names self.world self.outs.items self.marks self.laid_out (mesh_out (mesh_of self.names self.world self.outs.items self.marks) self.valid))

pub returns-clause-contents : goal.returns-clause-contents
returns-clause-contents g c =
    let self = c.args.self.now in
    of_now self.names self.world self.outs.items self.marks self.laid_out (mesh_out (mesh_of self.names self.world self.outs.items self.marks) self.valid)
