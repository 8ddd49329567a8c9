use Rattle.std.proofs.Common.{subst, sym}
use Rattle.mesh_model.specs.Fields.Ranks.{WorldState}
use Rattle.mesh_model.specs.declared.fields.values.Group.{Group}
use Rattle.guard_fill.specs.Restricting.{FieldOf, LeavesHoldOf, NodesHoldOf}
use Rattle.guard_fill.proofs.restricting.restrict_all.Goals as goal

abbrev Sums : WorldState → WorldState → Group → Type 0
Sums old new group = (field : FieldOf group) → LeavesHoldOf old group field → NodesHoldOf new group field

pub returns-in-Cell-clause-views : goal.returns-in-Cell-clause-views
returns-in-Cell-clause-views g c = subst (Sums c.args.world.now c.restrict_cells_of.new.world) (sym c.in-Cell.is) c.restrict_cells_of.ensures.views

pub returns-in-Face-clause-views : goal.returns-in-Face-clause-views
returns-in-Face-clause-views g c = subst (Sums c.args.world.now c.restrict_faces_of.new.world) (sym c.in-Face.is) c.restrict_faces_of.ensures.views

pub returns-in-Edge-clause-views : goal.returns-in-Edge-clause-views
returns-in-Edge-clause-views g c = subst (Sums c.args.world.now c.restrict_edges_of.new.world) (sym c.in-Edge.is) c.restrict_edges_of.ensures.views
