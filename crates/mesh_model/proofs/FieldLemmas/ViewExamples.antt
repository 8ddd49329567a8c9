-- One cell and one edge whose views can be worked out by hand.
use Rattle.std.proofs.Common.{◌≡◌, ℕ, zero, suc, ◌+◌, ◌*◌, ◌%◌, ◌==◌, true, false, List, [], ◌∷◌, ◌++◌, ℤ, pos, negsuc, ◌-ℤ◌, refl}
use Rattle.std.specs.Prelude.{flat_map}
use Rattle.amr_num.specs.declared.Axis.TheVariants.{Y}
use Rattle.amr_num.specs.declared.SideKind.TheVariants.{Outflow}
use Rattle.amr_num.specs.declared.BlockAt.{BlockAt}
use Rattle.amr_num.specs.declared.EdgeAt.{EdgeAt}
use Rattle.amr_num.specs.Numbers.{part, spread}
use Rattle.mesh_model.specs.Geometry.Coordinates.{wrapped}
use Rattle.mesh_model.specs.Geometry.Blocks.{child_block, children}
use Rattle.mesh_model.specs.Tree.Kinds.{Grid, is_leaf_block, is_split_block, is_leaf_edge, is_split_edge}
use Rattle.mesh_model.specs.Fields.InnerRule.{Outer, middle_x, middle_y, middle_z}
use Rattle.mesh_model.specs.Fields.Views.{edge_view, edge_down, outer_edge_view, edge_view_at}

-- the inner faces of one cell: which four x faces, two by two y faces and z faces balance the octants
quad : ℤ → ℤ → ℤ → ℤ → ℕ → ℤ
quad a b c d zero = a
quad a b c d (suc zero) = b
quad a b c d (suc (suc zero)) = c
quad a b c d (suc (suc (suc q))) = d

sides_of_one_cell : Outer
sides_of_one_cell = record {
  x_low = quad (pos 3) (pos 1) (pos 0) (pos 1);
  x_high = quad (pos 1) (pos 0) (pos 0) (pos 0);
  y_low = quad (pos 0) (pos 0) (pos 0) (pos 0);
  y_high = quad (pos 1) (pos 0) (pos 0) (pos 2);
  z_low = quad (pos 0) (pos 0) (pos 0) (pos 0);
  z_high = quad (pos 0) (pos 1) (pos 0) (pos 0);
}

x_faces_inside : ◌≡◌ {A = List ℤ} (middle_x sides_of_one_cell 0 ∷ middle_x sides_of_one_cell 1 ∷ middle_x sides_of_one_cell 2 ∷ middle_x sides_of_one_cell 3 ∷ []) (pos 3 ∷ pos 1 ∷ pos 0 ∷ pos 0 ∷ [])
unfolding middle_x sides_of_one_cell quad spread part
x_faces_inside = refl

z_faces_inside : ◌≡◌ {A = List ℤ} (middle_z sides_of_one_cell 0 0 ∷ middle_z sides_of_one_cell 1 0 ∷ middle_z sides_of_one_cell 0 1 ∷ middle_z sides_of_one_cell 1 1 ∷ []) (pos 0 ∷ pos 2 ∷ negsuc 0 ∷ pos 1 ∷ [])
unfolding middle_x middle_y middle_z sides_of_one_cell quad spread part
z_faces_inside = refl

y_faces_inside : ◌≡◌ {A = List ℤ} (middle_y sides_of_one_cell 0 0 ∷ middle_y sides_of_one_cell 1 0 ∷ middle_y sides_of_one_cell 0 1 ∷ middle_y sides_of_one_cell 1 1 ∷ []) (pos 0 ∷ pos 0 ∷ pos 0 ∷ pos 1 ∷ [])
unfolding middle_x middle_y sides_of_one_cell quad spread part
y_faces_inside = refl

-- an edge inside a leaf of level 0, seen at level 2 beside leaves of level 1: the mean of four, of which two come from edges of level 1, and two by means over levels 1 and 0
three_levels : Grid
three_levels = record {
  shape = record { rx = 2; ry = 1; rz = 1; n = 4; g = 1; min = 0; max = 2; sides = Outflow ∷ Outflow ∷ Outflow ∷ Outflow ∷ Outflow ∷ Outflow ∷ [] };
  leaves = flat_map (λ q. elim (q % 2 == 0) [ true ↦ children (child_block first_root q) | false ↦ child_block first_root q ∷ [] ]) (0 ∷ 1 ∷ 2 ∷ 3 ∷ 4 ∷ 5 ∷ 6 ∷ 7 ∷ []) ++ (record { level = 0; x = 1; y = 0; z = 0 }) ∷ [];
}
  where
    first_root : BlockAt
    first_root = record { level = 0; x = 0; y = 0; z = 0 }

edge_numbers_there : EdgeAt → ℤ
edge_numbers_there e = pos (e.x * e.z + e.y) -ℤ pos 20

edge_along_y : ℕ → ℕ → ℕ → ℕ → EdgeAt
edge_along_y l x y z = record { axis = Y; level = l; x = x; y = y; z = z }

edges_over_three_levels : ◌≡◌ {A = List ℤ} (edge_view three_levels edge_numbers_there (edge_along_y 1 9 2 1) ∷ edge_view three_levels edge_numbers_there (edge_along_y 1 9 2 2) ∷ edge_view three_levels edge_numbers_there (edge_along_y 2 17 5 3) ∷ []) (negsuc 8 ∷ negsuc 4 ∷ negsuc 3 ∷ [])
unfolding three_levels edge_numbers_there edge_along_y wrapped is_leaf_block is_split_block is_leaf_edge is_split_edge part edge_down outer_edge_view edge_view_at
edges_over_three_levels = refl
