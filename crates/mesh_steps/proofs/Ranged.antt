-- The leaves of a valid mesh hold numbers within their range.
use Rattle.std.proofs.Common.{◌≡◌, ◌^◌, true, sym, ap, subst, ◌∙◌}
use Rattle.amr_num.specs.Numbers.{Within}
use Rattle.mesh_model.specs.Fields.Plain.{Mesh}
use Rattle.mesh_model.specs.Fields.Ranks.{WorldState}
use Rattle.mesh_model.specs.Fields.Valid.{ValidMesh}
use Rattle.mesh_model.specs.Geometry.Places.{in_block}
use Rattle.mesh_model.specs.Tree.Kinds.{is_leaf, is_leaf_block}
use Rattle.mesh_model.specs.Tree.ValidGrid.{Valid}
use Rattle.mesh_model.proofs.FieldLemmas.BlockOctants.{block_of_cell}
use Rattle.mesh_model.proofs.FieldLemmas.CellSums.{view_leaf}
use Rattle.mesh_model.proofs.FieldLemmas.ValidGrid.{leaf_whole}
use Rattle.block_tree.specs.Numbered.{block_at}
use Rattle.rank_world.specs.Holding.{IsOfMesh, LeavesInRange}

pub leaves_in_range : (w : WorldState) (m : Mesh) → IsOfMesh w m → ValidMesh m → LeavesInRange w
leaves_in_range w m of valid v node below leaf = record {
  cells = λ i j k hi hj hk.
      let g = w.told.grid in
      let c = in_block g.shape.n (block_at g node) i j k in
      let grid : Valid g = subst Valid (sym of.grid) valid.grid in
      let here : is_leaf g c ≡ true = ap (is_leaf_block g) (block_of_cell g.shape.n (block_at g node) i j k hi hj hk) ∙ leaf.leaf in
      subst (λ z. Within (2 ^ 40) z) (sym ((of.contents v below node leaf).at i j k hi hj hk ∙ view_leaf g (m.cells v) c (leaf_whole g grid c here) here)) (valid.range.cells v c);
}
