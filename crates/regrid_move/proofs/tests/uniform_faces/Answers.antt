use Rattle.std.proofs.Common.{◌≡◌, length, replicate, pos, sym, subst, ap, ◌∙◌}
use Rattle.amr_num.specs.declared.Axis.TheVariants.{X, Y, Z}
use Rattle.mesh_model.specs.declared.fields.values.Var.TheVariants.{Face}
use Rattle.mesh_model.specs.Fields.Arrays.{Counts}
use Rattle.mesh_model.specs.Fields.Ranks.{Told}
use Rattle.mesh_model.specs.Tree.Kinds.{Grid}
use Rattle.mesh_model.specs.Tree.Order.{Sorted, nodes}
use Rattle.mesh_model.specs.Tree.ValidGrid.{FewNodes, Valid}
use Rattle.mesh_model.proofs.FieldLemmas.Beside.{three}
use Rattle.block_tree.proofs.Facts.{known}
use Rattle.block_tree.specs.GridOf.{grid_of}
use Rattle.rank_world.specs.Holding.{face_array}
use Rattle.regrid_move.proofs.Uniform.{uniform_mesh}
use Rattle.regrid_move.proofs.tests.uniform_faces.Goals as goal

pub returns : goal.returns
returns c =
    let w = c.put_axis-3.new.new in
    let tree = known c.tree.result.now in
    let told = c.put_axis-3.ensures.only.told ∙ c.put_axis-2.ensures.only.told ∙ c.put_axis.ensures.only.told in
    let grid : grid_of c.tree.result.now ≡ w.told.grid = c.tree.ensures ∙ sym (ap (λ (t : Told). t.grid) told) in
    let counts = ap (λ (t : Told). t.counts) told ∙ c.in-Ok.ensures.counts_are in
    let one : length (nodes w.told.grid.leaves) ≡ 1 = subst (λ (h : Grid). length (nodes h.leaves) ≡ 1) grid (sym c.len.ensures.value ∙ c.if-len-ne1.false) in
    let on_x = c.put_axis-3.ensures.only.here.others (Face X) 0 (λ is at. absurd cc) ∙ c.put_axis-2.ensures.only.here.others (Face X) 0 (λ is at. absurd cc) ∙ c.put_axis.ensures.value in
    let on_y = c.put_axis-3.ensures.only.here.others (Face Y) 0 (λ is at. absurd cc) ∙ c.put_axis-2.ensures.value in
    let same = three (λ a. face_array w a 0 ≡ replicate 252 (pos 13)) on_x on_y c.put_axis-3.ensures.value in
    let cells = ap (λ (k : Counts). k.cells) counts in
    let edges = ap (λ (k : Counts). k.edges) counts in
    record {
      fit = c.put_axis-3.ensures.fit;
      cells = cells;
      mesh = uniform_mesh w (subst Valid grid tree.valid) (subst (λ (h : Grid). Sorted h.leaves) grid tree.order) (subst FewNodes grid tree.few) cells (ap (λ (k : Counts). k.faces) counts) edges one c.put_axis-3.ensures.fit.sizes same;
    }
