use Rattle.std.proofs.Common.{sym, subst, ap, ◌∙◌}
use Rattle.block_tree.specs.Marked.{IsUnmarked}
use Rattle.mesh_model.specs.Fields.Valid.{ValidMesh}
use Rattle.mesh_model.specs.Geometry.Limits.{most_nodes}
use Rattle.amr_engine.proofs.Started.{start_is, start_laid, start_valid}
use Rattle.amr_engine.proofs.engine.Engine.new.Goals as goal

pub invariant_of-result : goal.invariant_of-result
invariant_of-result g c =
    let d = c.args.declared in
    let w = c.in_ok-world.world in
    let outs = c.in_ok-outs.outs.items in
    let marks = c.in_ok-marks.marks in
    let new = c.in_ok-world.ensures in
    let grid = c.tree.ensures ∙ new.grid_is in
    let none = subst (λ h. IsUnmarked h marks) grid c.in_ok-marks.ensures.none in
    let space = c.in_ok-marks.ensures.room ∙ ap (λ h. most_nodes h.shape) grid in
    let many = c.cells-variables.ensures.count in
    let flowed = c.in_ok-outs.ensures in
    let is = start_is g.row.N g.row.G d.shape d.names w c.cells-variables.result outs marks c.requires.shape c.requires.names.few many c.face_variables-faces.result c.edge_variables-edges.result c.face_variables-faces.ensures.any c.edge_variables-edges.ensures.any new none space flowed in
    record {
      room = c.in_ok-piece.ensures;
      named = c.requires.names;
      fit = new.fit;
      laid_out = start_laid g.row.N g.row.G d.shape d.names w c.cells-variables.result outs marks c.requires.shape c.requires.names.few many c.face_variables-faces.result c.edge_variables-edges.result c.face_variables-faces.ensures.any c.edge_variables-edges.ensures.any new none space flowed;
      valid = ∣ subst ValidMesh (sym is) (start_valid g.row.N g.row.G d.shape d.names w c.cells-variables.result outs marks c.requires.shape c.requires.names.few many c.face_variables-faces.result c.edge_variables-edges.result c.face_variables-faces.ensures.any c.edge_variables-edges.ensures.any new none space flowed) ∣₁;
    }

pub returns-clause-mesh : goal.returns-clause-mesh
returns-clause-mesh g c =
    let d = c.args.declared in
    let w = c.in_ok-world.world in
    let outs = c.in_ok-outs.outs.items in
    let marks = c.in_ok-marks.marks in
    let new = c.in_ok-world.ensures in
    let grid = c.tree.ensures ∙ new.grid_is in
    let none = subst (λ h. IsUnmarked h marks) grid c.in_ok-marks.ensures.none in
    let space = c.in_ok-marks.ensures.room ∙ ap (λ h. most_nodes h.shape) grid in
    start_is g.row.N g.row.G d.shape d.names w c.cells-variables.result outs marks c.requires.shape c.requires.names.few c.cells-variables.ensures.count c.face_variables-faces.result c.edge_variables-edges.result c.face_variables-faces.ensures.any c.edge_variables-edges.ensures.any new none space c.in_ok-outs.ensures
