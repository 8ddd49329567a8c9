-- Which number out of range is reported, and by which place.
use Rattle.std.proofs.Common.{◌≡◌, ℕ, Bool, true, false, ◌&&◌, cond, eqb, [], ◌∷◌, map, Some, None, find, ℤ, pos, refl}
use Rattle.amr_num.specs.declared.Axis.TheVariants.{X}
use Rattle.amr_num.specs.declared.SideKind.TheVariants.{Periodic}
use Rattle.amr_num.specs.declared.BlockAt.{BlockAt}
use Rattle.amr_num.specs.declared.FaceAt.{FaceAt}
use Rattle.mesh_model.specs.declared.geometry.Shape.{Shape}
use Rattle.mesh_model.specs.declared.fields.values.Group.TheVariants.{Cell, Face}
use Rattle.mesh_model.specs.declared.fields.spot.Spot.TheVariants as spots
use Rattle.mesh_model.specs.Geometry.Blocks.{children}
use Rattle.mesh_model.specs.Geometry.Coordinates.{wrapped}
use Rattle.mesh_model.specs.Tree.Kinds.{Grid, is_leaf_block, is_split_block, is_leaf_face, is_split_face, is_leaf_edge, is_split_edge}
use Rattle.mesh_model.specs.Fields.Plain.{Mesh}
use Rattle.mesh_model.specs.Geometry.Places.{block_faces}
use Rattle.mesh_model.specs.Geometry.Canonical.{canonical_face}
use Rattle.mesh_model.specs.Fields.RangeWalk.{is_above, first_excess}

shape_of : ℕ → Shape
shape_of rx = record { rx = rx; ry = 1; rz = 1; n = 4; g = 1; min = 0; max = 1; sides = Periodic ∷ Periodic ∷ Periodic ∷ Periodic ∷ Periodic ∷ Periodic ∷ [] }

root : ℕ → BlockAt
root x = record { level = 0; x = x; y = 0; z = 0 }

x_face : ℕ → ℕ → ℕ → ℕ → FaceAt
x_face l x y z = record { axis = X; level = l; x = x; y = y; z = z }

-- two roots, the second refined: the walk meets the seam first as the high side of a fine block, and names it by position 0
beside_the_seam : Grid
beside_the_seam = record { shape = shape_of 2; leaves = root 0 ∷ children (root 1) }

on_the_seam : FaceAt → ℤ
on_the_seam f = cond (eqb f.level 1 && eqb f.x 0 && eqb f.y 2 && eqb f.z 1) (pos 2199023255552) (pos 0)

last_block : BlockAt
last_block = record { level = 1; x = 3; y = 0; z = 0 }

seam_is_named_by_its_low_position : find (λ f. is_leaf_face beside_the_seam f && is_above 1099511627776 (on_the_seam f)) (map (canonical_face (shape_of 2)) (block_faces 4 last_block X)) ≡ Some (x_face 1 0 2 1)
unfolding beside_the_seam shape_of root last_block on_the_seam x_face wrapped is_leaf_face is_split_face is_leaf_block is_split_block
seam_is_named_by_its_low_position = refl

-- one block with two cell variables and a face variable
out_of_range : Bool → Bool → Mesh
out_of_range cells outs = record {
  grid = record { shape = shape_of 1; leaves = root 0 ∷ [] };
  names = record { cells = (117 ∷ []) ∷ (118 ∷ []) ∷ []; face = Some (98 ∷ []); edge = None };
  cells = λ v c. cond (cells && eqb v 1 && eqb c.x 2 && eqb c.y 1 && eqb c.z 3) (pos 1099511627777) (pos 0);
  outs = λ v. cond (outs && eqb v 0) (pos 1267650600228229401496703205377) (pos 0);
  faces = λ f. cond (eqb f.x 3) (pos 1099511627777) (pos 0);
  edges = λ e. pos 0;
  refine = λ b. false;
  derefine = λ b. false;
}

cells_come_first : first_excess (out_of_range true true) ≡ Some (record { var = Cell 1; spot = spots.Cell (record { level = 0; x = 2; y = 1; z = 3 }); value = pos 1099511627777 })
unfolding first_excess out_of_range shape_of root wrapped is_leaf_face is_split_face is_leaf_edge is_split_edge is_leaf_block is_split_block
cells_come_first = refl

then_what_flowed_out : first_excess (out_of_range false true) ≡ Some (record { var = Cell 0; spot = spots.Out; value = pos 1267650600228229401496703205377 })
unfolding first_excess out_of_range shape_of root wrapped is_leaf_face is_split_face is_leaf_edge is_split_edge is_leaf_block is_split_block
then_what_flowed_out = refl

then_faces_with_x_fastest : first_excess (out_of_range false false) ≡ Some (record { var = Face; spot = spots.Face (x_face 0 3 0 0); value = pos 1099511627777 })
unfolding first_excess out_of_range shape_of root x_face wrapped is_leaf_face is_split_face is_leaf_edge is_split_edge is_leaf_block is_split_block
then_faces_with_x_fastest = refl
