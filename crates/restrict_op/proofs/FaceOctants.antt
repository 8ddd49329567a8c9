-- Octants of a block's faces that hold the views of a field.
use Rattle.std.proofs.Common.{◌≡◌, ℕ, suc, ◌+◌, ◌*◌, ◌/◌, ◌%◌, ◌<◌, List, ℤ, sym, ap, ◌∙◌}
use Rattle.amr_num.specs.declared.Axis.{Axis}
use Rattle.amr_num.specs.declared.Axis.TheVariants.{X, Y, Z}
use Rattle.amr_num.specs.declared.BlockAt.{BlockAt}
use Rattle.amr_num.specs.declared.CellAt.{CellAt}
use Rattle.amr_num.specs.declared.FaceAt.{FaceAt}
use Rattle.amr_num.specs.Numbers.{sum_below}
use Rattle.amr_num.proofs.Parts.{sum_below_same}
use Rattle.mesh_model.specs.declared.fields.values.Var.TheVariants.{Face}
use Rattle.mesh_model.specs.declared.geometry.Shape.{Shape}
use Rattle.mesh_model.specs.Geometry.Blocks.{child_block}
use Rattle.mesh_model.specs.Geometry.Canonical.{canonical_on}
use Rattle.mesh_model.specs.Geometry.Coordinates.{face_numbers, face_of, quarter, sub_face}
use Rattle.mesh_model.specs.Geometry.Places.{in_block, longer_on}
use Rattle.mesh_model.specs.Tree.Kinds.{Grid}
use Rattle.mesh_model.specs.Tree.ValidGrid.{Valid}
use Rattle.mesh_model.specs.Fields.ArrayPlaces.{HoldsFaces}
use Rattle.mesh_model.specs.Fields.FinePlaces.{FaceOctantsAreSummed, FaceOctantsMakeBlocks, FaceOctantsStay, faces_in, fine_summed}
use Rattle.mesh_model.specs.Fields.Octants.{half_at}
use Rattle.mesh_model.specs.Fields.Views.{face_view}
use Rattle.mesh_model.proofs.FieldLemmas.CellKinds.{wide_of}
use Rattle.mesh_model.proofs.FieldLemmas.FaceSums.{face_view_sum}
use Rattle.mesh_model.proofs.FieldLemmas.ValidGrid.{deep_face, tree}
use Rattle.restrict_op.proofs.FineOctants as octants
use Rattle.restrict_op.proofs.FineOctants.{VarAlong, finer, var_along, wrapped_fine}
pub use Rattle.restrict_op.proofs.FineOctants.{whole_below}

pub face_along : (n : ℕ) (a : Axis) → VarAlong n (Face a)
face_along n a = var_along n (Face a)

-- the canonical name of a subface is a subface of the canonical name
pub canonical_sub_face : (s : Shape) (a : Axis) (c : CellAt) (r : ℕ) → face_of a (canonical_on s a (face_numbers (sub_face (face_of a c) r))) ≡ sub_face (face_of a (canonical_on s a c)) r
canonical_sub_face s X c r =
    let x = wrapped_fine s X c.level c.x in
    λ t. record { axis = X; level = suc c.level; x = x t; y = 2 * c.y + r % 2; z = 2 * c.z + r / 2 % 2 }
canonical_sub_face s Y c r =
    let y = wrapped_fine s Y c.level c.y in
    λ t. record { axis = Y; level = suc c.level; x = 2 * c.x + r % 2; y = y t; z = 2 * c.z + r / 2 % 2 }
canonical_sub_face s Z c r =
    let z = wrapped_fine s Z c.level c.z in
    λ t. record { axis = Z; level = suc c.level; x = 2 * c.x + r % 2; y = 2 * c.y + r / 2 % 2; z = z t }

module _ (g : Grid) (field : FaceAt → ℤ) (a : Axis) (valid : Valid g) where
  -- the view of the face with these numbers, which is the sum of its subfaces'
  abbrev pub view_of : CellAt → ℤ
  view_of c = face_view g field (face_of a (canonical_on g.shape a c))

  pub view_sum : (c : CellAt) → view_of c ≡ sum_below 4 (λ r. view_of (finer c (quarter a r)))
  view_sum c =
      let name = face_of a (canonical_on g.shape a c) in
      face_view_sum g (tree g valid) (wide_of g.shape valid.shape) field name (deep_face g valid name)
      ∙ sum_below_same 4 _ _ (λ r h. ap (face_view g field) (sym (canonical_sub_face g.shape a c r)))

  -- four faces of a child that holds views make the view of the face round them
  pub four_view : (b : BlockAt) (q : ℕ) (child : List ℤ) → HoldsFaces g field a (child_block b q) (faces_in g a child) → (i j k : ℕ) →
      i < longer_on a X (g.shape.n / 2) → j < longer_on a Y (g.shape.n / 2) → k < longer_on a Z (g.shape.n / 2) →
      fine_summed g.shape.g (Face a) (faces_in g a child) i j k ≡ view_of (in_block g.shape.n b (half_at g.shape.n q + i) (half_at g.shape.n (q / 2) + j) (half_at g.shape.n (q / 4) + k))
  four_view b q child views i j k = octants.fine_view g.shape.n g.shape.g valid.shape.cells (Face a) view_of view_sum b q (faces_in g a child) views.at i j k

pub all_summed : FaceOctantsAreSummed
all_summed g field a b q child old new valid sums views = record {
  at = octants.octant_summed g.shape.n g.shape.g valid.shape.cells (Face a) (view_of g field a valid) (view_sum g field a valid) b q child old new sums views.at;
}

pub all_stay : FaceOctantsStay
all_stay g field a b q p child old new valid hq hp ne sums views there = record {
  at = octants.other_octant g.shape.n g.shape.g valid.shape.cells (Face a) (view_of g field a valid) (view_sum g field a valid) b q p child old new sums views.at there.at;
}

pub all_make : FaceOctantsMakeBlocks
all_make g field a b numbers valid holds = record {
  at = octants.octants_make g.shape.n g.shape.g valid.shape.cells (Face a) (view_of g field a valid) (view_sum g field a valid) b numbers (λ q h. (holds q h).at);
}
