-- A jump of level with closed and outflow sides. The wanted numbers were worked out apart, from the rules alone.
use Rattle.std.proofs.Common.{◌≡◌, ℕ, ◌+◌, ◌*◌, ◌%◌, cond, List, [], ◌∷◌, ℤ, pos, negsuc, ◌-ℤ◌, refl}
use Rattle.amr_num.specs.declared.Axis.{Axis}
use Rattle.amr_num.specs.declared.Axis.TheVariants.{X, Y, Z}
use Rattle.amr_num.specs.declared.SideKind.TheVariants.{Outflow, Closed}
use Rattle.amr_num.specs.declared.BlockAt.{BlockAt}
use Rattle.amr_num.specs.declared.CellAt.{CellAt}
use Rattle.amr_num.specs.declared.FaceAt.{FaceAt}
use Rattle.amr_num.specs.Numbers.{part, carry, spread}
use Rattle.mesh_model.specs.Geometry.Coordinates.{wrapped}
use Rattle.mesh_model.specs.Tree.Kinds.{Grid, is_leaf_block, is_split_block, is_leaf_face, is_split_face, is_leaf_edge, is_split_edge, is_leaf}
use Rattle.mesh_model.specs.Geometry.Canonical.{is_canonical_at}
use Rattle.mesh_model.specs.Fields.InnerRule.{middle_x, middle_y, middle_z}
use Rattle.mesh_model.specs.Fields.Views.{sum_down, view_at, face_down, outer_face_view, face_view_at, face_view, edge_down, outer_edge_view, edge_view_at}
use Rattle.mesh_model.specs.Fields.Totals.{box_sum, leaf_sum, total}
use Rattle.mesh_model.specs.Fields.Advect.{Speeds, advected, outflow, on_outer_side}
use Rattle.mesh_model.specs.Fields.Induct.{leaf_electromotive_force, inducted}

fine : ℕ → ℕ → ℕ → BlockAt
fine x y z = record { level = 1; x = x; y = y; z = z }

jump : Grid
jump = record {
  shape = record { rx = 2; ry = 1; rz = 1; n = 4; g = 1; min = 0; max = 1; sides = Outflow ∷ Closed ∷ Outflow ∷ Outflow ∷ Closed ∷ Outflow ∷ [] };
  leaves = fine 0 0 0 ∷ fine 1 0 0 ∷ fine 0 1 0 ∷ fine 1 1 0 ∷ fine 0 0 1 ∷ fine 1 0 1 ∷ fine 0 1 1 ∷ fine 1 1 1 ∷ (record { level = 0; x = 1; y = 0; z = 0 }) ∷ [];
}

contents : CellAt → ℤ
contents c = cond (is_leaf jump c) (pos ((7 * c.x + 5 * c.y + 3 * c.z + 11 * c.level + c.x * c.y) % 13)) (pos 0)

axis_number : Axis → ℕ
axis_number X = 0
axis_number Y = 1
axis_number Z = 2

numbers : FaceAt → ℤ
numbers f = pos ((5 * f.x + 3 * f.y + 7 * f.z + 2 * axis_number f.axis + 4 * f.level + f.x * f.z) % 17) -ℤ pos 8

cell : ℕ → ℕ → ℕ → ℕ → CellAt
cell l x y z = record { level = l; x = x; y = y; z = z }

face : Axis → ℕ → ℕ → ℕ → ℕ → FaceAt
face a l x y z = record { axis = a; level = l; x = x; y = y; z = z }

-- a face with a split side; an odd face on the border, a face inside the coarse leaf beside its finer neighbour, by the inner rule, on x and z; a leaf face
views_at_the_jump : ◌≡◌ {A = List ℤ} (face_view jump numbers (face X 0 4 1 2) ∷ face_view jump numbers (face Y 1 9 3 4) ∷ face_view jump numbers (face X 1 9 2 2) ∷ face_view jump numbers (face Z 1 9 3 3) ∷ face_view jump numbers (face X 0 3 1 1) ∷ []) (pos 2 ∷ pos 4 ∷ pos 3 ∷ pos 4 ∷ pos 9 ∷ [])
unfolding jump fine is_leaf_block is_split_block numbers axis_number face part carry spread is_leaf_face is_split_face is_leaf_edge is_split_edge is_canonical_at wrapped middle_x middle_y middle_z face_down outer_face_view face_view_at edge_down outer_edge_view edge_view_at leaf_electromotive_force
views_at_the_jump = refl

speeds_one : Speeds
speeds_one = record { x = pos 200000; y = negsuc 149999; z = negsuc 99999 }

after_one : CellAt → ℤ
after_one = advected jump contents speeds_one

advect_one : ◌≡◌ {A = List ℤ} (after_one (cell 0 4 0 0) ∷ after_one (cell 0 4 3 2) ∷ after_one (cell 0 7 1 3) ∷ after_one (cell 1 7 0 0) ∷ after_one (cell 1 7 5 7) ∷ after_one (cell 1 0 0 7) ∷ after_one (cell 1 0 7 0) ∷ after_one (cell 1 3 7 7) ∷ []) (pos 15 ∷ pos 11 ∷ pos 6 ∷ pos 7 ∷ pos 10 ∷ pos 8 ∷ pos 8 ∷ pos 5 ∷ [])
unfolding after_one speeds_one jump fine is_leaf_block is_split_block contents cell part carry is_leaf_face is_split_face wrapped sum_down view_at face_down
advect_one = refl

new_one : FaceAt → ℤ
new_one = inducted jump numbers speeds_one

induct_one : ◌≡◌ {A = List ℤ} (new_one (face X 0 4 1 2) ∷ new_one (face X 1 8 2 5) ∷ new_one (face X 1 8 3 4) ∷ new_one (face X 1 0 0 0) ∷ new_one (face X 0 8 3 3) ∷ new_one (face Y 0 4 1 1) ∷ new_one (face Y 1 7 4 6) ∷ new_one (face Y 1 7 8 7) ∷ new_one (face Y 0 5 4 2) ∷ new_one (face Z 0 4 2 1) ∷ new_one (face Z 1 7 3 8) ∷ new_one (face Z 1 6 6 0) ∷ new_one (face Z 0 7 3 4) ∷ new_one (face Y 0 4 0 0) ∷ []) (pos 0 ∷ pos 0 ∷ pos 4 ∷ pos 0 ∷ pos 1 ∷ negsuc 5 ∷ pos 1 ∷ pos 7 ∷ pos 2 ∷ negsuc 3 ∷ pos 5 ∷ negsuc 2 ∷ negsuc 6 ∷ negsuc 2 ∷ [])
unfolding new_one speeds_one jump fine is_leaf_block is_split_block numbers axis_number face part carry spread is_leaf_face is_split_face is_leaf_edge is_split_edge is_canonical_at wrapped middle_x middle_y middle_z face_down outer_face_view face_view_at edge_down outer_edge_view edge_view_at leaf_electromotive_force
induct_one = refl

out_one : ◌≡◌ {A = List ℤ} (total jump contents ∷ outflow jump contents speeds_one ∷ []) (pos 3440 ∷ negsuc 158 ∷ [])
unfolding speeds_one jump fine is_leaf_block is_split_block contents cell part carry is_leaf_face is_split_face wrapped sum_down view_at face_down box_sum leaf_sum on_outer_side
out_one = refl

speeds_two : Speeds
speeds_two = record { x = negsuc 249999; y = pos 100000; z = pos 150000 }

after_two : CellAt → ℤ
after_two = advected jump contents speeds_two

advect_two : ◌≡◌ {A = List ℤ} (after_two (cell 0 4 0 0) ∷ after_two (cell 0 4 3 2) ∷ after_two (cell 0 7 1 3) ∷ after_two (cell 1 7 0 0) ∷ after_two (cell 1 7 5 7) ∷ after_two (cell 1 0 0 7) ∷ after_two (cell 1 0 7 0) ∷ after_two (cell 1 3 7 7) ∷ []) (pos 4 ∷ pos 9 ∷ pos 4 ∷ pos 3 ∷ pos 5 ∷ pos 3 ∷ pos 4 ∷ pos 5 ∷ [])
unfolding after_two speeds_two jump fine is_leaf_block is_split_block contents cell part carry is_leaf_face is_split_face wrapped sum_down view_at face_down
advect_two = refl

new_two : FaceAt → ℤ
new_two = inducted jump numbers speeds_two

induct_two : ◌≡◌ {A = List ℤ} (new_two (face X 0 4 1 2) ∷ new_two (face X 1 8 2 5) ∷ new_two (face X 1 8 3 4) ∷ new_two (face X 1 0 0 0) ∷ new_two (face X 0 8 3 3) ∷ new_two (face Y 0 4 1 1) ∷ new_two (face Y 1 7 4 6) ∷ new_two (face Y 1 7 8 7) ∷ new_two (face Y 0 5 4 2) ∷ new_two (face Z 0 4 2 1) ∷ new_two (face Z 1 7 3 8) ∷ new_two (face Z 1 6 6 0) ∷ new_two (face Z 0 7 3 4) ∷ new_two (face Y 0 4 0 0) ∷ []) (pos 0 ∷ negsuc 0 ∷ pos 4 ∷ negsuc 5 ∷ pos 1 ∷ negsuc 1 ∷ pos 0 ∷ pos 1 ∷ pos 0 ∷ pos 3 ∷ pos 1 ∷ negsuc 2 ∷ negsuc 0 ∷ negsuc 1 ∷ [])
unfolding new_two speeds_two jump fine is_leaf_block is_split_block numbers axis_number face part carry spread is_leaf_face is_split_face is_leaf_edge is_split_edge is_canonical_at wrapped middle_x middle_y middle_z face_down outer_face_view face_view_at edge_down outer_edge_view edge_view_at leaf_electromotive_force
induct_two = refl

out_two : ◌≡◌ {A = List ℤ} (total jump contents ∷ outflow jump contents speeds_two ∷ []) (pos 3440 ∷ pos 231 ∷ [])
unfolding speeds_two jump fine is_leaf_block is_split_block contents cell part carry is_leaf_face is_split_face wrapped sum_down view_at face_down box_sum leaf_sum on_outer_side
out_two = refl
