-- The first number out of range of a mesh with other numbers on its faces.
use Rattle.std.proofs.Common.{◌≡◌, ℕ, ◌^◌, Bool, true, false, ◌&&◌, List, [], ◌∷◌, ℤ, Option, Some, None, find, refl, ap, ap₂, ◌∙◌}
use Rattle.std.specs.Option.{option_map, option_or}
use Rattle.amr_num.specs.declared.FaceAt.{FaceAt}
use Rattle.mesh_model.specs.declared.fields.spot.RangeStop.{RangeStop}
use Rattle.mesh_model.specs.Fields.Induct.{with_faces}
use Rattle.mesh_model.specs.Fields.Plain.{Mesh}
use Rattle.mesh_model.specs.Fields.RangeWalk.{cell_above, cells_walked, edge_above, edges_walked, face_above, faces_walked, first_cell_above, first_excess, first_of_all, is_above, out_above, variables}
use Rattle.mesh_model.specs.Fields.Valid.{ValidMesh}
use Rattle.mesh_model.specs.Tree.Kinds.{is_leaf_edge, is_leaf_face}
use Rattle.mesh_model.proofs.FieldLemmas.AdvectStops.{none_found, not_above}

none_of_all : (at : ℕ → Option RangeStop) (vs : List ℕ) → ((v : ℕ) → at v ≡ None) → first_of_all at vs ≡ None
none_of_all at [] none = refl
none_of_all at (v ∷ vs) none = ap₂ (λ p q. option_or p q) (none v) (none_of_all at vs none)

or_nothing : (p : Option RangeStop) → option_or p None ≡ p
or_nothing None = refl
or_nothing (Some x) = refl

and_false : (t u : Bool) → u ≡ false → (t && u) ≡ false
and_false true u is = is
and_false false u is = refl

-- only its faces can be out of range
pub faces_excess : (m : Mesh) (k : FaceAt → ℤ) → ValidMesh m →
    first_excess (with_faces m k) ≡ option_map (face_above (with_faces m k)) (find (λ f. is_leaf_face m.grid f && is_above (2 ^ 40) (k f)) (faces_walked m.grid))
unfolding first_excess
faces_excess m k valid =
    let new = with_faces m k in
    let cells = none_of_all (first_cell_above new) (variables new) (λ v. ap (option_map (cell_above new v)) (none_found (λ c. is_above (2 ^ 40) (m.cells v c)) (cells_walked m.grid) (λ c. not_above (2 ^ 40) (m.cells v c) (valid.range.cells v c)))) in
    let outs = ap (option_map (out_above new)) (none_found (λ v. is_above (2 ^ 100) (m.outs v)) (variables new) (λ v. not_above (2 ^ 100) (m.outs v) (valid.range.outs v))) in
    let edges = ap (option_map (edge_above new)) (none_found (λ e. is_leaf_edge m.grid e && is_above (2 ^ 40) (m.edges e)) (edges_walked m.grid) (λ e. and_false (is_leaf_edge m.grid e) _ (not_above (2 ^ 40) (m.edges e) (valid.range.edges e)))) in
    ap₂ (λ p q. option_or p q) cells
    (ap₂ (λ p q. option_or p q) outs
    (ap (option_or (option_map (face_above new) (find (λ f. is_leaf_face m.grid f && is_above (2 ^ 40) (k f)) (faces_walked m.grid)))) edges
    ∙ or_nothing _))
