-- One block that can be worked out by hand: what flows out, curl and induct.
use Rattle.std.proofs.Common.{◌≡◌, ℕ, Bool, false, ◌&&◌, eqb, List, [], ◌∷◌, ℤ, pos, negsuc, refl, cond}
use Rattle.amr_num.specs.declared.Axis.{Axis}
use Rattle.amr_num.specs.declared.Axis.TheVariants.{X, Y, Z}
use Rattle.amr_num.specs.declared.SideKind.{SideKind}
use Rattle.amr_num.specs.declared.SideKind.TheVariants.{Periodic, Outflow, Closed}
use Rattle.amr_num.specs.declared.CellAt.{CellAt}
use Rattle.amr_num.specs.declared.FaceAt.{FaceAt}
use Rattle.amr_num.specs.declared.EdgeAt.{EdgeAt}
use Rattle.amr_num.specs.Numbers.{part, carry}
use Rattle.mesh_model.specs.Fields.VariableNames.{no_names}
use Rattle.mesh_model.specs.Geometry.Coordinates.{wrapped}
use Rattle.mesh_model.specs.Tree.Kinds.{Grid, is_leaf_block, is_split_block, is_leaf_face, is_split_face, is_leaf_edge, is_split_edge}
use Rattle.mesh_model.specs.Fields.Plain.{Mesh}
use Rattle.mesh_model.specs.Geometry.Canonical.{is_canonical_at}
use Rattle.mesh_model.specs.Fields.Views.{sum_down, view_at, face_down, outer_face_view, face_view_at, edge_down, outer_edge_view, edge_view_at}
use Rattle.mesh_model.specs.Fields.Totals.{box_sum, leaf_sum, total}
use Rattle.mesh_model.specs.Fields.Advect.{Speeds, advect, on_outer_side}
use Rattle.mesh_model.specs.Fields.Induct.{leaf_electromotive_force, inducted, curled}

one_block : List SideKind → Grid
one_block sides = record { shape = record { rx = 1; ry = 1; rz = 1; n = 4; g = 1; min = 0; max = 0; sides = sides }; leaves = (record { level = 0; x = 0; y = 0; z = 0 }) ∷ [] }

-- a closed and an outflow side on x
closed_and_outflow : (CellAt → ℤ) → ℤ → Mesh
closed_and_outflow u out = record { grid = one_block (Closed ∷ Outflow ∷ Periodic ∷ Periodic ∷ Periodic ∷ Periodic ∷ []); names = no_names; cells = λ v. u; outs = λ v. out; faces = λ f. pos 0; edges = λ e. pos 0; refine = λ b. false; derefine = λ b. false }

is_at : ℕ → CellAt → Bool
is_at x c = eqb c.x x && eqb c.y 0 && eqb c.z 0

right : Speeds
right = record { x = pos 1048576; y = pos 0; z = pos 0 }

left : Speeds
left = record { x = negsuc 1048575; y = pos 0; z = pos 0 }

says : Mesh → List ℤ
says m = total m.grid (m.cells 0) ∷ m.outs 0 ∷ []

nothing_leaves_yet : says (advect (closed_and_outflow (λ c. cond (is_at 2 c) (pos 7) (pos 0)) (pos 0)) 0 right) ≡ pos 7 ∷ pos 0 ∷ []
unfolding says closed_and_outflow one_block is_at right box_sum leaf_sum on_outer_side part carry is_leaf_block is_split_block is_leaf_face is_split_face wrapped sum_down view_at face_down
nothing_leaves_yet = refl

all_leaves_through_the_outflow_side : says (advect (closed_and_outflow (λ c. cond (is_at 3 c) (pos 7) (pos 0)) (pos 0)) 0 right) ≡ pos 0 ∷ pos 7 ∷ []
unfolding says closed_and_outflow one_block is_at right box_sum leaf_sum on_outer_side part carry is_leaf_block is_split_block is_leaf_face is_split_face wrapped sum_down view_at face_down
all_leaves_through_the_outflow_side = refl

nothing_leaves_through_the_closed_side : says (advect (closed_and_outflow (λ c. cond (is_at 0 c) (pos 4) (pos 0)) (pos 7)) 0 left) ≡ pos 4 ∷ pos 7 ∷ []
unfolding says closed_and_outflow one_block is_at left box_sum leaf_sum on_outer_side part carry is_leaf_block is_split_block is_leaf_face is_split_face wrapped sum_down view_at face_down
nothing_leaves_through_the_closed_side = refl

the_last_cell_lets_its_content_in : says (advect (closed_and_outflow (λ c. cond (is_at 0 c) (pos 4) (cond (is_at 3 c) (pos 2) (pos 0))) (pos 7)) 0 left) ≡ pos 8 ∷ pos 5 ∷ []
unfolding says closed_and_outflow one_block is_at left box_sum leaf_sum on_outer_side part carry is_leaf_block is_split_block is_leaf_face is_split_face wrapped sum_down view_at face_down
the_last_cell_lets_its_content_in = refl

-- an edge with 10, its curl, and half a cell's induct of it along x
around : Grid
around = one_block (Periodic ∷ Periodic ∷ Periodic ∷ Periodic ∷ Periodic ∷ Periodic ∷ [])

is_z : Axis → Bool
is_z X = false
is_z Y = false
is_z Z = eqb 0 0

one_edge : EdgeAt → ℤ
one_edge e = cond (is_z e.axis && eqb e.x 1 && eqb e.y 1 && eqb e.z 0) (pos 10) (pos 0)

face : Axis → ℕ → ℕ → ℕ → FaceAt
face a x y z = record { axis = a; level = 0; x = x; y = y; z = z }

its_curl : FaceAt → ℤ
its_curl = curled around one_edge

curl_of_one_edge : ◌≡◌ {A = List ℤ} (its_curl (face X 1 0 0) ∷ its_curl (face X 1 1 0) ∷ its_curl (face X 2 0 0) ∷ its_curl (face Y 0 1 0) ∷ its_curl (face Y 1 1 0) ∷ its_curl (face Y 1 1 1) ∷ []) (pos 10 ∷ negsuc 9 ∷ pos 0 ∷ negsuc 9 ∷ pos 10 ∷ pos 0 ∷ [])
unfolding its_curl one_edge around one_block is_canonical_at face is_z part is_leaf_block is_split_block is_leaf_face is_split_face is_leaf_edge is_split_edge wrapped edge_down outer_edge_view edge_view_at
curl_of_one_edge = refl

carried_curl : FaceAt → ℤ
carried_curl = inducted around its_curl (record { x = pos 524288; y = pos 0; z = pos 0 })

induct_moves_half_a_cell : ◌≡◌ {A = List ℤ} (carried_curl (face X 0 0 0) ∷ carried_curl (face X 1 0 0) ∷ carried_curl (face X 2 0 0) ∷ carried_curl (face X 3 0 0) ∷ carried_curl (face X 1 1 0) ∷ carried_curl (face X 2 1 0) ∷ carried_curl (face X 1 0 1) ∷ carried_curl (face Y 0 1 0) ∷ carried_curl (face Y 1 1 0) ∷ carried_curl (face Y 2 1 0) ∷ carried_curl (face Y 0 0 0) ∷ carried_curl (face Z 0 0 0) ∷ []) (pos 0 ∷ pos 5 ∷ pos 5 ∷ pos 0 ∷ negsuc 4 ∷ negsuc 4 ∷ pos 0 ∷ negsuc 4 ∷ pos 0 ∷ pos 5 ∷ pos 0 ∷ pos 0 ∷ [])
unfolding carried_curl its_curl one_edge around one_block is_canonical_at face is_z part carry leaf_electromotive_force is_leaf_block is_split_block is_leaf_face is_split_face is_leaf_edge is_split_edge wrapped face_down outer_face_view face_view_at edge_down outer_edge_view edge_view_at
induct_moves_half_a_cell = refl
