-- Meshes that can be worked out by hand: splitting, closure, advection over a seam and at a jump of level.
use Rattle.std.proofs.Common.{◌≡◌, ℕ, Bool, false, ◌&&◌, eqb, nat_lt, List, [], ◌∷◌, flat_map, length, ℤ, pos, negsuc, refl, cond}
use Rattle.amr_num.specs.declared.SideKind.{SideKind}
use Rattle.amr_num.specs.declared.SideKind.TheVariants.{Periodic, Outflow, Closed}
use Rattle.amr_num.specs.declared.Axis.TheVariants.{X}
use Rattle.amr_num.specs.declared.BlockAt.{BlockAt}
use Rattle.amr_num.specs.declared.CellAt.{CellAt}
use Rattle.amr_num.specs.declared.FaceAt.{FaceAt}
use Rattle.mesh_model.specs.declared.geometry.Shape.{Shape}
use Rattle.mesh_model.specs.Geometry.Outside.{inside_cell, inside_face}
use Rattle.amr_num.specs.Numbers.{part, carry}
use Rattle.mesh_model.specs.Fields.VariableNames.{no_names}
use Rattle.mesh_model.specs.Tree.Kinds.{Grid, is_leaf_block, is_split_block, is_leaf_face, is_split_face}
use Rattle.mesh_model.specs.Fields.Plain.{marked, Mesh}
use Rattle.mesh_model.specs.Geometry.Coordinates.{wrapped}
use Rattle.mesh_model.specs.Fields.Views.{sum_down, view_at, face_down}
use Rattle.mesh_model.specs.Geometry.Touch.{touches, stretches_meet, low_end, high_end}
use Rattle.mesh_model.specs.Tree.Regrown.{regrown, new_grid}
use Rattle.mesh_model.specs.Fields.Regrid.{regrid}
use Rattle.mesh_model.specs.Fields.Advect.{advected, donor}
use Rattle.mesh_model.specs.Tree.Closure.{refined, merged, is_merged, is_ready, is_blocked}

periodic : List SideKind
periodic = Periodic ∷ Periodic ∷ Periodic ∷ Periodic ∷ Periodic ∷ Periodic ∷ []

root : ℕ → ℕ → ℕ → BlockAt
root x y z = record { level = 0; x = x; y = y; z = z }

cell : ℕ → ℕ → ℕ → ℕ → CellAt
cell l x y z = record { level = l; x = x; y = y; z = z }

is_at : ℕ → ℕ → ℕ → CellAt → Bool
is_at x y z c = eqb c.x x && eqb c.y y && eqb c.z z

mesh : ℕ → Grid → (CellAt → ℤ) → BlockAt → Mesh
mesh top g u marked = record { grid = g; names = no_names; cells = λ v. u; outs = λ v. pos 0; faces = λ f. pos 0; edges = λ e. pos 0; refine = λ b. eqb b.level marked.level && eqb b.x marked.x && eqb b.y marked.y && eqb b.z marked.z; derefine = λ b. false }

one_block : ℕ → Grid
one_block top = record { shape = record { rx = 1; ry = 1; rz = 1; n = 4; g = 1; min = 0; max = top; sides = periodic }; leaves = root 0 0 0 ∷ [] }

-- half a cell's content moves on, round the one root of a periodic axis
one_and_five : CellAt → ℤ
one_and_five c = cond (is_at 3 0 0 c) (pos 5) (cond (is_at 0 0 0 c) (pos 1) (pos 0))

half_moved : CellAt → ℤ
half_moved = advected (one_block 0) one_and_five (record { x = pos 524288; y = pos 0; z = pos 0 })

donors_wrap_round_one_root : ◌≡◌ {A = List ℤ} (half_moved (cell 0 0 0 0) ∷ half_moved (cell 0 1 0 0) ∷ half_moved (cell 0 2 0 0) ∷ half_moved (cell 0 3 0 0) ∷ []) (pos 3 ∷ pos 0 ∷ pos 0 ∷ pos 3 ∷ [])
unfolding half_moved one_and_five one_block periodic root cell is_at part carry is_leaf_block is_split_block is_leaf_face is_split_face wrapped sum_down view_at face_down
donors_wrap_round_one_root = refl

-- the octants of a refined cell
nineteen : CellAt → ℤ
nineteen c = cond (is_at 0 0 0 c) (pos 19) (pos 0)

refined_nineteen : CellAt → ℤ
refined_nineteen = (regrid (mesh 1 (one_block 1) nineteen (root 0 0 0))).cells 0

octants_of_nineteen : ◌≡◌ {A = List ℤ} (refined_nineteen (cell 1 0 0 0) ∷ refined_nineteen (cell 1 1 0 0) ∷ refined_nineteen (cell 1 0 1 0) ∷ refined_nineteen (cell 1 1 1 0) ∷ refined_nineteen (cell 1 0 0 1) ∷ refined_nineteen (cell 1 7 7 7) ∷ []) (pos 3 ∷ pos 3 ∷ pos 3 ∷ pos 2 ∷ pos 2 ∷ pos 0 ∷ [])
unfolding refined_nineteen nineteen mesh one_block periodic root cell is_at part is_leaf_block is_split_block sum_down view_at refined merged is_ready is_blocked touches stretches_meet low_end high_end
octants_of_nineteen = refl

-- 64 roots round a torus: a corner root is marked, then one of its children
plane : ℕ → ℕ → List BlockAt
plane y z = root 0 y z ∷ root 1 y z ∷ root 2 y z ∷ root 3 y z ∷ []

layer : ℕ → List BlockAt
layer z = flat_map (λ y. plane y z) (0 ∷ 1 ∷ 2 ∷ 3 ∷ [])

cube_of_roots : Grid
cube_of_roots = record { shape = record { rx = 4; ry = 4; rz = 4; n = 4; g = 1; min = 0; max = 2; sides = periodic }; leaves = flat_map layer (0 ∷ 1 ∷ 2 ∷ 3 ∷ []) }

corner_marked : Mesh
corner_marked = mesh 2 cube_of_roots (λ c. pos 0) (root 0 0 0)

corner_child : BlockAt
corner_child = record { level = 1; x = 0; y = 0; z = 0 }

closure_reaches_across_corners : length (new_grid (marked corner_marked)).leaves ≡ 71
unfolding corner_marked cube_of_roots layer plane mesh periodic root is_leaf_block refined merged is_ready is_blocked touches stretches_meet low_end high_end
closure_reaches_across_corners = refl

corner_child_marked : Mesh
corner_child_marked = mesh 2 (new_grid (marked corner_marked)) (λ c. pos 0) corner_child

closure_reaches_from_the_finer_level : length (new_grid (marked corner_child_marked)).leaves ≡ 127
unfolding corner_child_marked corner_child corner_marked cube_of_roots layer plane mesh periodic root is_leaf_block refined merged is_ready is_blocked touches stretches_meet low_end high_end
closure_reaches_from_the_finer_level = refl

-- a jump of level, with closed sides on x: 5 moves from a fine cell into the coarse one, and half of it back
two_roots : Grid
two_roots = record { shape = record { rx = 2; ry = 1; rz = 1; n = 4; g = 1; min = 0; max = 1; sides = Closed ∷ Closed ∷ Periodic ∷ Periodic ∷ Periodic ∷ Periodic ∷ [] }; leaves = root 0 0 0 ∷ root 1 0 0 ∷ [] }

left_root_refined : Grid
left_root_refined = new_grid (marked (mesh 1 two_roots (λ c. pos 0) (root 0 0 0)))

five_beside_the_jump : CellAt → ℤ
five_beside_the_jump c = cond (eqb c.level 1 && is_at 7 0 0 c) (pos 5) (pos 0)

moved_right : CellAt → ℤ
moved_right = advected left_root_refined five_beside_the_jump (record { x = pos 524288; y = pos 0; z = pos 0 })

moved_back : CellAt → ℤ
moved_back = advected left_root_refined moved_right (record { x = negsuc 524287; y = pos 0; z = pos 0 })

coarse_cell_takes_the_fine_flux : ◌≡◌ {A = List ℤ} (moved_right (cell 0 4 0 0) ∷ moved_right (cell 0 5 0 0) ∷ moved_right (cell 1 7 0 0) ∷ moved_right (cell 1 6 0 0) ∷ []) (pos 5 ∷ pos 0 ∷ pos 0 ∷ pos 0 ∷ [])
unfolding moved_right five_beside_the_jump left_root_refined two_roots mesh root cell is_at part carry is_leaf_block is_split_block is_leaf_face is_split_face wrapped sum_down view_at face_down refined merged is_ready is_blocked touches stretches_meet low_end high_end
coarse_cell_takes_the_fine_flux = refl

fine_cells_take_the_coarse_flux : ◌≡◌ {A = List ℤ} (moved_back (cell 0 4 0 0) ∷ moved_back (cell 1 7 0 0) ∷ moved_back (cell 1 7 1 0) ∷ moved_back (cell 1 7 0 1) ∷ moved_back (cell 1 7 1 1) ∷ []) (pos 2 ∷ pos 1 ∷ pos 1 ∷ pos 1 ∷ pos 0 ∷ [])
unfolding moved_back moved_right five_beside_the_jump left_root_refined two_roots mesh root cell is_at part carry is_leaf_block is_split_block is_leaf_face is_split_face wrapped sum_down view_at face_down refined merged is_ready is_blocked touches stretches_meet low_end high_end
fine_cells_take_the_coarse_flux = refl

-- ---- a merge that a refined neighbour forbids

four_roots : Grid
four_roots = record { shape = record { rx = 4; ry = 1; rz = 1; n = 4; g = 1; min = 0; max = 2; sides = periodic }; leaves = root 0 0 0 ∷ root 1 0 0 ∷ root 2 0 0 ∷ root 3 0 0 ∷ [] }

-- the first two roots refined
two_refined : Grid
two_refined = regrown four_roots (λ b. nat_lt b.x 2) (λ p. false)

-- all leaves of level 1 marked derefine, and one of the first root's marked refine
held_back : Mesh
held_back = record {
  grid = two_refined;
  names = no_names;
  cells = λ v c. pos 0;
  outs = λ v. pos 0;
  faces = λ f. pos 0;
  edges = λ e. pos 0;
  refine = λ b. eqb b.level 1 && eqb b.x 1 && eqb b.y 0 && eqb b.z 0;
  derefine = λ b. eqb b.level 1;
}

-- nothing is merged: the refined leaf is one of the first root's children, and touches the second root, whose children could go but for it
refined_leaf_holds_its_neighbours : ◌≡◌ {A = List Bool} (is_merged (marked held_back) (root 0 0 0) ∷ is_merged (marked held_back) (root 1 0 0) ∷ []) (false ∷ false ∷ [])
unfolding held_back two_refined four_roots periodic root is_leaf_block refined merged is_ready is_blocked touches stretches_meet low_end high_end
refined_leaf_holds_its_neighbours = refl

leaves_held_back : length (new_grid (marked held_back)).leaves ≡ 25
unfolding held_back two_refined four_roots periodic root is_leaf_block refined merged is_ready is_blocked touches stretches_meet low_end high_end
leaves_held_back = refl

-- ---- donors and coordinates outside

outflow : List SideKind
outflow = Outflow ∷ Outflow ∷ Outflow ∷ Outflow ∷ Outflow ∷ Outflow ∷ []

shape_with : List SideKind → Shape
shape_with sides = record { rx = 1; ry = 1; rz = 1; n = 4; g = 1; min = 0; max = 0; sides = sides }

across : ℕ → FaceAt
across x = record { axis = X; level = 0; x = x; y = 1; z = 2 }

-- at position 0 of a periodic axis with one root the low side is the last cell of the same root
donor_wraps : ◌≡◌ {A = List CellAt} (donor (shape_with periodic) (pos 1) (across 0) ∷ donor (shape_with periodic) (negsuc 0) (across 0) ∷ []) (cell 0 3 1 2 ∷ cell 0 0 1 2 ∷ [])
unfolding shape_with periodic across cell
donor_wraps = refl

-- beyond an outflow side the last cell stands for what is not there
donor_is_clamped : ◌≡◌ {A = List CellAt} (donor (shape_with outflow) (pos 1) (across 0) ∷ donor (shape_with outflow) (negsuc 0) (across 4) ∷ []) (cell 0 0 1 2 ∷ cell 0 3 1 2 ∷ [])
unfolding shape_with outflow across cell
donor_is_clamped = refl

outside_wraps : ◌≡◌ {A = List CellAt} (inside_cell (shape_with periodic) 0 (negsuc 0) (pos 4) (pos 9) ∷ []) (cell 0 3 0 1 ∷ [])
unfolding shape_with periodic cell
outside_wraps = refl

outside_is_clamped : ◌≡◌ {A = List CellAt} (inside_cell (shape_with outflow) 0 (negsuc 0) (pos 4) (pos 9) ∷ []) (cell 0 0 3 3 ∷ [])
unfolding shape_with outflow cell
outside_is_clamped = refl

-- a position is clamped to one more than the last cell
face_outside_is_clamped : inside_face (shape_with outflow) X 0 (pos 9) (pos 9) (negsuc 4) ≡ record { axis = X; level = 0; x = 4; y = 3; z = 0 }
unfolding shape_with outflow
face_outside_is_clamped = refl
