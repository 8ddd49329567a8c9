use Rattle.std.proofs.Common.{subst, sym}
use Rattle.mesh_model.specs.Fields.Ranks.{WorldState}
use Rattle.mesh_model.specs.declared.fields.values.Group.{Group}
use Rattle.guard_fill.specs.Guarding.{LeavesGuardedOf}
use Rattle.guard_fill.specs.Restricting.{FieldOf, NodesHoldOf}
use Rattle.guard_fill.proofs.Filled.{all_asked}
use Rattle.guard_fill.proofs.filling.fill.Goals as goal

abbrev Guards : WorldState → WorldState → Group → Type 0
Guards old new group = (field : FieldOf group) → NodesHoldOf old group field → LeavesGuardedOf new group field

pub returns-in-Cell-clause-guards : goal.returns-in-Cell-clause-guards
returns-in-Cell-clause-guards g c =
    let new = c.fill_cells_of.new.world in
    subst (Guards c.args.world.now new) (sym c.in-Cell.is) (λ content holds. all_asked new c.in-Cell.v content (c.fill_cells_of.ensures.guards content holds))

pub returns-in-Face-clause-guards : goal.returns-in-Face-clause-guards
returns-in-Face-clause-guards g c = subst (Guards c.args.world.now c.fill_faces_of.new.world) (sym c.in-Face.is) c.fill_faces_of.ensures.guards

pub returns-in-Edge-clause-guards : goal.returns-in-Edge-clause-guards
returns-in-Edge-clause-guards g c = subst (Guards c.args.world.now c.fill_edges_of.new.world) (sym c.in-Edge.is) c.fill_edges_of.ensures.guards
