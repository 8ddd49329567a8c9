-- Octants of a block's edges that hold the views of a field.
use Rattle.std.proofs.Common.{◌≡◌, ℕ, suc, ◌+◌, ◌*◌, ◌/◌, ◌%◌, ◌<◌, List, ℤ, sym, ap, ◌∙◌, arith}
use Rattle.amr_num.specs.declared.Axis.{Axis}
use Rattle.amr_num.specs.declared.Axis.TheVariants.{X, Y, Z}
use Rattle.amr_num.specs.declared.BlockAt.{BlockAt}
use Rattle.amr_num.specs.declared.CellAt.{CellAt}
use Rattle.amr_num.specs.declared.EdgeAt.{EdgeAt}
use Rattle.amr_num.specs.Numbers.{sum_below}
use Rattle.amr_num.proofs.Parts.{sum_below_same}
use Rattle.mesh_model.specs.declared.fields.values.Var.TheVariants.{Edge}
use Rattle.mesh_model.specs.declared.geometry.Shape.{Shape}
use Rattle.mesh_model.specs.Geometry.Blocks.{child_block}
use Rattle.mesh_model.specs.Geometry.Canonical.{canonical_on}
use Rattle.mesh_model.specs.Geometry.Coordinates.{edge_numbers, edge_of, half_edge, next, step}
use Rattle.mesh_model.specs.Geometry.Places.{in_block, longer_across}
use Rattle.mesh_model.specs.Tree.Kinds.{Grid}
use Rattle.mesh_model.specs.Tree.ValidGrid.{Valid}
use Rattle.mesh_model.specs.Fields.ArrayPlaces.{HoldsEdges}
use Rattle.mesh_model.specs.Fields.FinePlaces.{EdgeOctantsAreSummed, EdgeOctantsMakeBlocks, EdgeOctantsStay, edges_in, fine_summed}
use Rattle.mesh_model.specs.Fields.Octants.{half_at}
use Rattle.mesh_model.specs.Fields.Views.{edge_view}
use Rattle.mesh_model.proofs.FieldLemmas.CellKinds.{wide_of}
use Rattle.mesh_model.proofs.FieldLemmas.EdgeSums.{edge_view_sum}
use Rattle.mesh_model.proofs.FieldLemmas.ValidGrid.{deep_edge, tree}
use Rattle.restrict_op.proofs.FineOctants as octants
use Rattle.restrict_op.proofs.FineOctants.{VarAlong, finer, var_along, wrapped_fine}
pub use Rattle.restrict_op.proofs.FineOctants.{whole_below}

pub edge_along : (n : ℕ) (a : Axis) → VarAlong n (Edge a)
edge_along n a = var_along n (Edge a)

-- the canonical name of an edge by its numbers
abbrev pub edge_name : Shape → Axis → CellAt → EdgeAt
edge_name s a c = edge_of a (canonical_on s (next a) (canonical_on s (next (next a)) c))

-- the canonical name of a half is a half of the canonical name
pub canonical_half_edge : (s : Shape) (a : Axis) (c : CellAt) (h : ℕ) → edge_name s a (edge_numbers (half_edge (edge_of a c) h)) ≡ half_edge (edge_name s a c) h
canonical_half_edge s X c h =
    let y = wrapped_fine s Y c.level c.y in
    let z = wrapped_fine s Z c.level c.z in
    λ t. record { axis = X; level = suc c.level; x = 2 * c.x + h; y = y t; z = z t }
canonical_half_edge s Y c h =
    let x = wrapped_fine s X c.level c.x in
    let z = wrapped_fine s Z c.level c.z in
    λ t. record { axis = Y; level = suc c.level; x = x t; y = 2 * c.y + h; z = z t }
canonical_half_edge s Z c h =
    let x = wrapped_fine s X c.level c.x in
    let y = wrapped_fine s Y c.level c.y in
    λ t. record { axis = Z; level = suc c.level; x = x t; y = y t; z = 2 * c.z + h }

module _ (g : Grid) (field : EdgeAt → ℤ) (a : Axis) (valid : Valid g) where
  -- the view of the edge with these numbers, which is the sum of its halves'
  abbrev pub view_of : CellAt → ℤ
  view_of c = edge_view g field (edge_name g.shape a c)

  pub view_sum : (c : CellAt) → view_of c ≡ sum_below 2 (λ r. view_of (finer c (step a (r % 2))))
  view_sum c =
      let name = edge_name g.shape a c in
      edge_view_sum g (tree g valid) (wide_of g.shape valid.shape) field name (deep_edge g valid name)
      ∙ sum_below_same 2 _ _ (λ r h. (let bit : r ≡ r % 2 = omega arith in ap (λ m. edge_view g field (half_edge name m)) bit ∙ ap (edge_view g field) (sym (canonical_half_edge g.shape a c (r % 2)))))

  -- two edges of a child that holds views make the view of the edge in which they lie
  pub two_view : (b : BlockAt) (q : ℕ) (child : List ℤ) → HoldsEdges g field a (child_block b q) (edges_in g a child) → (i j k : ℕ) →
      i < longer_across a X (g.shape.n / 2) → j < longer_across a Y (g.shape.n / 2) → k < longer_across a Z (g.shape.n / 2) →
      fine_summed g.shape.g (Edge a) (edges_in g a child) i j k ≡ view_of (in_block g.shape.n b (half_at g.shape.n q + i) (half_at g.shape.n (q / 2) + j) (half_at g.shape.n (q / 4) + k))
  two_view b q child views i j k = octants.fine_view g.shape.n g.shape.g valid.shape.cells (Edge a) view_of view_sum b q (edges_in g a child) views.at i j k

pub all_summed : EdgeOctantsAreSummed
all_summed g field a b q child old new valid sums views = record {
  at = octants.octant_summed g.shape.n g.shape.g valid.shape.cells (Edge a) (view_of g field a valid) (view_sum g field a valid) b q child old new sums views.at;
}

pub all_stay : EdgeOctantsStay
all_stay g field a b q p child old new valid hq hp ne sums views there = record {
  at = octants.other_octant g.shape.n g.shape.g valid.shape.cells (Edge a) (view_of g field a valid) (view_sum g field a valid) b q p child old new sums views.at there.at;
}

pub all_make : EdgeOctantsMakeBlocks
all_make g field a b numbers valid holds = record {
  at = octants.octants_make g.shape.n g.shape.g valid.shape.cells (Edge a) (view_of g field a valid) (view_sum g field a valid) b numbers (λ q h. (holds q h).at);
}
