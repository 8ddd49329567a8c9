use Rattle.std.proofs.Common.{sym, ◌∙◌}
use Rattle.block_tree.specs.GridOf.{grid_of}
use Rattle.amr_engine.specs.EngineMesh.{mesh_of}
use Rattle.amr_engine.proofs.Made.{grid_is, group_counted, named_now, of_now}
use Rattle.amr_engine.proofs.Printed.{interior_there, views_there}
use Rattle.amr_engine.proofs.ValidOut.{mesh_out}
use Rattle.amr_engine.proofs.engine.Engine.print_variable.Goals as goal

pub print_var-requires : goal.print_var-requires
print_var-requires g c =
    let self = c.args.self.now in
    let valid = mesh_out (mesh_of self.names self.world self.outs.items self.marks) self.valid in
    let there = group_counted self.names self.world self.outs.items self.marks self.laid_out valid c.args.group c.requires in
    record { name = c.name_of-name.ensures.short; there = interior_there g.row.N g.row.G self.world self.fit (grid_of c.tree.result.now) c.tree.ensures c.args.group there }

pub returns : goal.returns
returns g c =
    let self = c.args.self.now in
    let m = mesh_of self.names self.world self.outs.items self.marks in
    let valid = mesh_out m self.valid in
    let grid = grid_is self.names self.world self.outs.items self.marks self.laid_out valid ∙ sym c.tree.ensures in
    let there = group_counted self.names self.world self.outs.items self.marks self.laid_out valid c.args.group c.requires in
    let name = named_now self.names self.world self.outs.items self.marks self.laid_out valid c.args.group ∙ sym c.name_of-name.ensures.name in
    c.print_var.ensures m grid name (views_there g.row.N g.row.G self.world self.fit m (of_now self.names self.world self.outs.items self.marks self.laid_out valid) valid c.args.group there)
