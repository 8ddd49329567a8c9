-- The first leaf edge of a leaf that is out of range, as its arrays give it.
use Rattle.std.proofs.Common.{◌≡◌, ℕ, ◌+◌, ◌<◌, ◌≤◌, ◌^◌, true, false, not, ◌&&◌, List, ℤ, Option, Some, None, sym, ap, ap₂, subst, ◌∙◌, arith}
use Rattle.std.specs.Prelude.{if◌then◌else◌}
use Rattle.std.specs.Option.{option_map}
use Rattle.amr_num.specs.declared.Axis.{Axis}
use Rattle.amr_num.specs.declared.Axis.TheVariants.{X, Y, Z}
use Rattle.amr_num.specs.declared.BlockAt.{BlockAt}
use Rattle.amr_num.specs.declared.EdgeAt.{EdgeAt}
use Rattle.mesh_model.specs.declared.geometry.Shape.{Shape}
use Rattle.mesh_model.specs.Geometry.Blocks.{InDomain}
use Rattle.mesh_model.specs.Geometry.Places.{longer_across}
use Rattle.mesh_model.specs.Tree.Kinds.{Grid, is_leaf_block, is_leaf_edge, is_split_block}
use Rattle.mesh_model.specs.Tree.ValidGrid.{Valid}
use Rattle.mesh_model.specs.Fields.ArrayPlaces.{HoldsEdgeField, edge_extents, number_at}
use Rattle.mesh_model.specs.Fields.EdgeSplits.{edge_direction}
use Rattle.mesh_model.specs.Fields.FaceSplits.{is_kept}
use Rattle.mesh_model.specs.Fields.FinePlaces.{edges_in}
use Rattle.mesh_model.specs.Fields.RangeWalk.{is_above}
use Rattle.mesh_model.specs.Fields.Ranks.{IsFit, IsSized, WorldState}
use Rattle.mesh_model.proofs.FieldLemmas.FirstFound.{places_mapped, places_same}
use Rattle.mesh_model.proofs.GeometryLemmas.ShapeLimits.{cells_some}
use Rattle.mesh_model.proofs.TreeLemmas.Tests.{refuted}
use Rattle.block_store.specs.Above.{counted_edge_at, first_in_edges, is_counted_edge}
use Rattle.block_store.specs.declared.above.Above.{Above}
use Rattle.block_store.specs.declared.above.CountedEdges.{CountedEdges}
use Rattle.block_tree.specs.Directions.{AreParts, edge_name, lies_round}
use Rattle.block_tree.specs.Numbered.{block_at}
use Rattle.block_tree.proofs.Leaves.{split_leaf}
use Rattle.block_tree.proofs.RoundEdges.{direction_few, direction_is, leaf_edge_of_leaf}
use Rattle.rank_world.specs.EdgeRange.{HasEdgesOn, axis_above, edge_above_at, told_edge}
use Rattle.rank_world.specs.Holding.{IsLeafNode, edge_array}
use Rattle.rank_world.proofs.FaceRange.{told_if}

-- a leaf's edge counts where it is a leaf edge
pub counts_leaf : (g : Grid) → 0 < g.shape.n → (b : BlockAt) → InDomain g.shape b → is_leaf_block g b ≡ true → is_split_block g b ≡ false → (a : Axis) (parts : ℕ) → AreParts g false b 27 parts →
    (i j k : ℕ) → i < longer_across a X g.shape.n → j < longer_across a Y g.shape.n → k < longer_across a Z g.shape.n →
    is_counted_edge g.shape.n (record { axis = a; left_out = parts }) i j k ≡ is_leaf_edge g (edge_name g.shape a b i j k)
counts_leaf g some b inside leaf whole a parts finer i j k hi hj hk =
    let dir = edge_direction g.shape.n a i j k in
    ap not (finer.each dir (direction_few g.shape.n some a i j k hi hj hk) ∙ ap (lies_round g false b) (direction_is g.shape.n some a i j k hi hj hk))
    ∙ sym (leaf_edge_of_leaf g b some inside a i j k hi hj hk leaf whole)

-- the first that is found among a leaf's edges is the first leaf edge out of range, where its numbers are those of the field
pub first_is : (g : Grid) → 0 < g.shape.n → (b : BlockAt) → InDomain g.shape b → is_leaf_block g b ≡ true → is_split_block g b ≡ false → (a : Axis) (parts : ℕ) → AreParts g false b 27 parts →
    (field : EdgeAt → ℤ) (numbers : ℕ → ℕ → ℕ → ℤ) → HoldsEdgeField g field a b numbers →
    option_map (told_edge g.shape b a) (first_in_edges (λ i j k. numbers (g.shape.g + i) (g.shape.g + j) (g.shape.g + k)) g.shape.n (record { axis = a; left_out = parts })) ≡ axis_above g field b a
first_is g some b inside leaf whole a parts finer field numbers holds =
    let n = g.shape.n in
    let e = g.shape.g in
    let counted : CountedEdges = record { axis = a; left_out = parts } in
    places_mapped (told_edge g.shape b a) (longer_across a X n) (longer_across a Y n) (longer_across a Z n) (counted_edge_at n counted (λ i j k. numbers (e + i) (e + j) (e + k)))
    ∙ places_same (longer_across a X n) (longer_across a Y n) (longer_across a Z n) (λ i j k. option_map (told_edge g.shape b a) (counted_edge_at n counted (λ i j k. numbers (e + i) (e + j) (e + k)) i j k))
    (λ i j k. edge_above_at g field (edge_name g.shape a b i j k))
    (λ i j k hi hj hk.
    let name = edge_name g.shape a b i j k in
    told_if (told_edge g.shape b a) (is_counted_edge n counted i j k) (is_above (2 ^ 40) (numbers (e + i) (e + j) (e + k))) (record { i = i; j = j; k = k; value = numbers (e + i) (e + j) (e + k) })
    ∙ ap₂ (λ t (v : ℤ). if t && is_above (2 ^ 40) v then Some (record { edge = name; value = v }) else None) (counts_leaf g some b inside leaf whole a parts finer i j k hi hj hk) (holds.at i j k hi hj hk))

-- a place on an axis of a block's edges
pub at_most : (x a : Axis) (n i : ℕ) → i < longer_across x a n → i ≤ n
at_most X X n i h = omega (arith, h)
at_most X Y n i h = omega (arith, h)
at_most X Z n i h = omega (arith, h)
at_most Y X n i h = omega (arith, h)
at_most Y Y n i h = omega (arith, h)
at_most Y Z n i h = omega (arith, h)
at_most Z X n i h = omega (arith, h)
at_most Z Y n i h = omega (arith, h)
at_most Z Z n i h = omega (arith, h)

-- in the sizes of a world's blocks
pub first_sized : (m e : ℕ) (g : Grid) → IsSized m e g.shape → (c : CountedEdges) (xs : List ℤ) →
    first_in_edges (λ i j k. number_at (edge_extents m e c.axis) xs (e + i) (e + j) (e + k)) m c ≡ first_in_edges (λ i j k. edges_in g c.axis xs (g.shape.g + i) (g.shape.g + j) (g.shape.g + k)) g.shape.n c
first_sized m e g sized c xs =
    ap₂ (λ u v. first_in_edges (λ i j k. number_at (edge_extents u v c.axis) xs (v + i) (v + j) (v + k)) u c) (sym sized.cells) (sym sized.guards)

-- what is found in a node's array is the first of its leaf edges
pub axis_found : (m e : ℕ) (w : WorldState) (a : Axis) (node : ℕ) → IsFit m e w → Valid w.told.grid → IsLeafNode w.told.grid node → InDomain w.told.grid.shape (block_at w.told.grid node) →
    (parts : ℕ) → AreParts w.told.grid false (block_at w.told.grid node) 27 parts → (xs : List ℤ) → xs ≡ edge_array false w a node → (field : EdgeAt → ℤ) → HasEdgesOn w field node a →
    (r : Option Above) → r ≡ first_in_edges (λ i j k. number_at (edge_extents m e a) xs (e + i) (e + j) (e + k)) m (record { axis = a; left_out = parts }) →
    option_map (told_edge w.told.grid.shape (block_at w.told.grid node) a) r ≡ axis_above w.told.grid field (block_at w.told.grid node) a
axis_found m e w a node fit valid leaf inside parts finer xs is field has r found =
    let g = w.told.grid in
    let b = block_at g node in
    let whole : is_split_block g b ≡ false = refuted _ (λ s. let none = split_leaf g valid b s in let here = leaf.leaf in cc) in
    let there : HoldsEdgeField g field a b (edges_in g a xs) = subst (λ ys. HoldsEdgeField g field a b (edges_in g a ys)) (sym is) has in
    ap (option_map (told_edge g.shape b a)) (found ∙ first_sized m e g fit.sizes (record { axis = a; left_out = parts }) xs)
    ∙ first_is g (cells_some valid.shape) b inside leaf.leaf whole a parts finer field (edges_in g a xs) there

-- what is told of an edge in other words
pub told_as : (s t : Shape) (a : Axis) (b d : BlockAt) (found : Above) → s ≡ t → b ≡ d → told_edge s b a found ≡ told_edge t d a found
told_as s t a b d found es eb = ap₂ (λ (u : Shape) c. told_edge u c a found) es eb
