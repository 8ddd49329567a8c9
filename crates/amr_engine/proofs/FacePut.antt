-- What setting one face of a world makes of an engine's mesh.
use Rattle.std.proofs.Common.{◌≡◌, ◌<◌, ◌^◌, Bool, true, false, ◌&&◌, List, ℤ, ℕ, None, refl, sym, ap, ap₂, subst, ◌∙◌, arith, if◌then◌else◌}
use Rattle.amr_num.specs.Numbers.{Within, sum_below}
use Rattle.amr_num.specs.declared.Axis.{Axis}
use Rattle.amr_num.specs.declared.Axis.TheVariants.{X, Y, Z}
use Rattle.amr_num.specs.declared.BlockAt.{BlockAt}
use Rattle.amr_num.specs.declared.FaceAt.{FaceAt}
use Rattle.amr_num.proofs.Sizes.{sum_within}
use Rattle.block_tree.specs.Numbered.{block_at}
use Rattle.block_tree.specs.declared.marks.Marks.{Marks}
use Rattle.mesh_model.specs.declared.fields.spot.Spot.TheVariants as spots
use Rattle.mesh_model.specs.declared.fields.values.Var.TheVariants.{Face}
use Rattle.mesh_model.specs.declared.language.script.Command.TheVariants.{FaceSet}
use Rattle.mesh_model.specs.declared.run.stops.Refusal.TheVariants as refusals
use Rattle.mesh_model.specs.Fields.Plain.{Mesh}
use Rattle.mesh_model.specs.Run.Runs.{declared_in}
use Rattle.mesh_model.specs.Fields.Ranks.{Told, WorldState}
use Rattle.mesh_model.specs.Fields.Setting.{set_face}
use Rattle.mesh_model.specs.Fields.Valid.{ValidMesh}
use Rattle.mesh_model.specs.Fields.VariableNames.{VariableNames}
use Rattle.mesh_model.specs.Fields.Views.{face_view}
use Rattle.mesh_model.specs.Geometry.Canonical.{canonical_face, canonical_on, is_canonical}
use Rattle.mesh_model.specs.Geometry.Coordinates.{face_of, is_same_face, sub_face}
use Rattle.mesh_model.specs.Geometry.Places.{in_block, longer_on}
use Rattle.mesh_model.specs.Language.Commands.{IsCommandOf}
use Rattle.mesh_model.specs.Run.Stops.{or_else, refusal}
use Rattle.mesh_model.specs.Tree.Kinds.{Grid, is_leaf_block, is_leaf_face, is_split_face}
use Rattle.mesh_model.specs.Tree.ValidGrid.{Valid}
use Rattle.mesh_model.proofs.RunLemmas.RunValid.{face_as_is, keeps_validity}
use Rattle.flux_conserve.specs.FaceArrays as arrays
use Rattle.flux_conserve.specs.Jumps.{face_name}
use Rattle.flux_conserve.proofs.Fields.{by_spot, view_jumped}
use Rattle.rank_world.specs.Holding.{IsLeafNode, IsOfMesh, LeavesHoldFaces, OnlyAxes}
use Rattle.amr_engine.specs.EngineMesh.{IsLaidOut, mesh_of}
use Rattle.staggered.specs.Setting.{IsFaceSet, IsPlace, name_at, number_of, with_face}
use Rattle.amr_engine.specs.Stopping.{MayStop, stopped_by}
use Rattle.amr_engine.specs.declared.cause.Cause.TheVariants.{Place}
use Rattle.amr_engine.proofs.FacesMade.{faces_alone, faces_laid, faces_made, faces_world}
use Rattle.amr_engine.proofs.Made.{has_faces, of_now}
use Rattle.mesh_model.specs.Fields.Induct.{with_faces}

-- ---- the numbers of a leaf's faces are small

-- the sum of four numbers, or one number
four_or_one : (split : Bool) (four : ℕ → ℤ) (one : ℤ) → ((q : ℕ) → Within (2 ^ 40) (four q)) → Within (2 ^ 40) one → Within (2 ^ 42) (if split then sum_below 4 four else one)
four_or_one true four one each small = sum_within 4 (2 ^ 40) four (λ q less. each q)
four_or_one false four one each small = omega (arith, small)

view_within : (g : Grid) (valid : Valid g) (field : FaceAt → ℤ) → ((f : FaceAt) → Within (2 ^ 40) (field f)) → (a : Axis) (b : BlockAt) → is_leaf_block g b ≡ true → (i j k : ℕ) →
    i < longer_on a X g.shape.n → j < longer_on a Y g.shape.n → k < longer_on a Z g.shape.n →
    Within (2 ^ 42) (face_view g field (face_of a (canonical_on g.shape a (in_block g.shape.n b i j k))))
unfolding face_name
view_within g valid field small a b leaf =
    by_spot (λ i j k. Within (2 ^ 42) (face_view g field (face_of a (canonical_on g.shape a (in_block g.shape.n b i j k))))) a g.shape.n
    (λ p s t place.
    let f = face_name g.shape a b p s t in
    subst (Within (2 ^ 42)) (sym (view_jumped g valid a b leaf p s t place field)) (four_or_one (is_split_face g f) (λ q. field (sub_face f q)) (field f) (λ q. small (sub_face f q)) (small f)))

-- one of two numbers
one_of : (first : Bool) (x y : ℤ) → Within (2 ^ 40) x → Within (2 ^ 42) y → Within (2 ^ 56) (if first then x else y)
one_of true x y small other = omega (arith, small)
one_of false x y other small = omega (arith, small)

both_true : (x y : Bool) → (x && y) ≡ true → x ≡ true
both_true true y h = refl
both_true false y h = absurd cc

module _ (names : VariableNames) (w : WorldState) (outs : List ℤ) (marks : Marks) (laid : IsLaidOut names w outs marks) (valid : ValidMesh (mesh_of names w outs marks))
    (at : FaceAt) (value : ℤ) (fits : IsCommandOf (declared_in (mesh_of names w outs marks)) (FaceSet at value))
  where
    abbrev now : Mesh
    now = mesh_of names w outs marks

    some_faces : 0 < w.told.counts.faces
    unfolding mesh_of
    some_faces = has_faces names w outs marks laid valid fits.0

    abbrev set_field : FaceAt → ℤ
    set_field f = if is_same_face f (canonical_face now.grid.shape at) then value else now.faces f

    pub put_refused : (is_canonical w.told.grid.shape at && is_leaf_face w.told.grid at) ≡ false → MayStop (stopped_by (Place (spots.Face at))) now (FaceSet at value)
    unfolding refusal mesh_of
    put_refused none = ap (λ leaf. or_else leaf (refusals.Place (spots.Face at))) none

    module _ (mid : WorldState) (raw : ℤ) (kept : raw ≡ value) (leaf_one : (is_canonical w.told.grid.shape at && is_leaf_face w.told.grid at) ≡ true) (first : OnlyAxes Face w mid) (is : IsFaceSet w mid at raw) where
      pub put_within : arrays.FacesWithin false mid (2 ^ 56)
      unfolding mesh_of
      put_within node a leaf = record {
        at = λ i j k low_x low_y low_z.
            let g = w.told.grid in
            let here : IsLeafNode g node = subst (λ (t : Told). IsLeafNode t.grid node) is.told leaf in
            let there : IsPlace g.shape.n a i j k = subst (λ (t : Told). IsPlace t.grid.shape.n a i j k) is.told (record { x = low_x; y = low_y; z = low_z }) in
            let view = view_within g valid.grid now.faces valid.range.faces a (block_at g node) here.leaf i j k there.x there.y there.z in
            let was : Within (2 ^ 42) (number_of w a node i j k) = subst (Within (2 ^ 42)) (sym (((of_now names w outs marks laid valid).on_faces some_faces node here a).at i j k there.x there.y there.z)) view in
            subst (Within (2 ^ 56)) (sym (is.each node a i j k here there)) (one_of (is_same_face (name_at g a node i j k) at) raw (number_of w a node i j k) (subst (Within (2 ^ 40)) (sym kept) fits.2) was);
      }

      pub put_allowed : refusal now (FaceSet at value) ≡ None
      unfolding refusal mesh_of
      put_allowed = ap (λ leaf. or_else leaf (refusals.Place (spots.Face at))) leaf_one

      pub put_valid : ValidMesh (set_face now at value)
      unfolding mesh_of
      put_valid = keeps_validity now (FaceSet at value) valid fits put_allowed

      -- the world in which the copies agree
      module _ (new : WorldState) (second : arrays.OnlyFaces false mid new) (holds : LeavesHoldFaces new (with_face now.faces at raw)) where
        only : OnlyAxes Face w new
        only = record { told = second.told ∙ first.told; others = λ u node none. second.others u node (λ a same leaf. none a same) ∙ first.others u node none }

        field_is : with_face now.faces at raw ≡ set_field
        unfolding mesh_of
        field_is = ap₂ (λ (x : FaceAt) (v : ℤ). (λ (f : FaceAt). if is_same_face f x then v else now.faces f)) (sym (face_as_is w.told.grid.shape at (both_true _ _ leaf_one))) kept

        set_holds : LeavesHoldFaces new set_field
        set_holds = subst (LeavesHoldFaces new) field_is holds

        set_world : IsOfMesh new (with_faces now set_field)
        set_world = faces_world names w outs marks laid valid new set_field (faces_alone w new only) set_holds

        pub put_is : mesh_of names new outs marks ≡ set_face now at value
        unfolding set_face
        put_is = faces_made names w outs marks laid valid new set_field only.told set_world put_valid

        pub put_laid : IsLaidOut names new outs marks
        unfolding set_face
        put_laid = faces_laid names w outs marks laid valid new set_field only.told set_world put_valid
