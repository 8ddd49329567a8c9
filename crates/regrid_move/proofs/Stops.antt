-- The first view of a leaf's cells that is out of range, as the leaf's numbers give it.
use Rattle.std.proofs.Common.{◌≡◌, ℕ, ◌+◌, ◌^◌, Bool, true, false, List, ℤ, Some, None, refl, sym, ap, subst, ◌∙◌}
use Rattle.std.specs.Prelude.{if◌then◌else◌}
use Rattle.std.specs.Option.{option_map}
use Rattle.amr_num.specs.declared.BlockAt.{BlockAt}
use Rattle.amr_num.specs.declared.CellAt.{CellAt}
use Rattle.mesh_model.specs.Fields.ArrayPlaces.{HoldsViews, cell_extents, number_at}
use Rattle.mesh_model.specs.Tree.Kinds.{Grid}
use Rattle.mesh_model.specs.Geometry.Places.{in_block}
use Rattle.mesh_model.specs.Fields.RangeWalk.{is_above}
use Rattle.mesh_model.specs.declared.geometry.Shape.{Shape}
use Rattle.mesh_model.specs.declared.fields.values.Group.TheVariants as groups
use Rattle.mesh_model.specs.declared.fields.spot.RangeStop.{RangeStop}
use Rattle.mesh_model.specs.declared.fields.spot.Spot.TheVariants as spots
use Rattle.mesh_model.proofs.FieldLemmas.FirstFound.{box_mapped, box_same}
use Rattle.mesh_model.specs.Fields.Ranks.{IsSized}
pub use Rattle.rank_world.proofs.Found.{inside_of, small_block, was_found}
use Rattle.block_store.specs.Above.{above_at, first_in_block}
use Rattle.regrid_move.specs.Near.{block_stop, view_stop}
use Rattle.block_store.specs.declared.above.Above.{Above}

-- what is told of a number that is found
abbrev pub told_of : ℕ → ℕ → BlockAt → Above → RangeStop
told_of v n b a = record { var = groups.Cell v; spot = spots.Cell (in_block n b a.i a.j a.k); value = a.value }

mapped_if : (f : Above → RangeStop) (p : Bool) (a : Above) → option_map f (if p then Some a else None) ≡ (if p then Some (f a) else None)
mapped_if f true a = refl
mapped_if f false a = refl

-- the first of a block's numbers that is out of range is the first of its views, where they are its numbers
pub stop_is : (old : Grid) (content : CellAt → ℤ) (v : ℕ) (b : BlockAt) (numbers : ℕ → ℕ → ℕ → ℤ) → HoldsViews old content b numbers →
    option_map (told_of v old.shape.n b) (first_in_block (λ x y z. numbers (old.shape.g + x) (old.shape.g + y) (old.shape.g + z)) old.shape.n) ≡ block_stop old content v b
stop_is old content v b numbers holds =
    let n = old.shape.n in
    let e = old.shape.g in
    box_mapped (told_of v n b) n (above_at (λ x y z. numbers (e + x) (e + y) (e + z)))
    ∙ box_same n (λ i j k. option_map (told_of v n b) (above_at (λ x y z. numbers (e + x) (e + y) (e + z)) i j k)) (λ i j k. view_stop old content v (in_block n b i j k))
    (λ i j k hi hj hk.
    mapped_if (told_of v n b) (is_above (2 ^ 40) (numbers (e + i) (e + j) (e + k))) (record { i = i; j = j; k = k; value = numbers (e + i) (e + j) (e + k) })
    ∙ ap (λ (w : ℤ). if is_above (2 ^ 40) w then Some (told_of v n b (record { i = i; j = j; k = k; value = w })) else None) (holds.at i j k hi hj hk))

-- in the sizes of the world's blocks
pub stop_sized : (old : Grid) (s : Shape) (content : CellAt → ℤ) (v : ℕ) (b : BlockAt) (n g : ℕ) (xs : List ℤ) → s ≡ old.shape → IsSized n g s →
    HoldsViews old content b (number_at (cell_extents s.n s.g) xs) →
    option_map (told_of v n b) (first_in_block (λ x y z. number_at (cell_extents n g) xs (g + x) (g + y) (g + z)) n) ≡ block_stop old content v b
stop_sized old s content v b n g xs same sized holds =
    subst (λ m. option_map (told_of v m b) (first_in_block (λ x y z. number_at (cell_extents m g) xs (g + x) (g + y) (g + z)) m) ≡ block_stop old content v b) (ap (λ (t : Shape). t.n) (sym same) ∙ sized.cells)
    (subst (λ m. option_map (told_of v old.shape.n b) (first_in_block (λ x y z. number_at (cell_extents old.shape.n m) xs (m + x) (m + y) (m + z)) old.shape.n) ≡ block_stop old content v b) (ap (λ (t : Shape). t.g) (sym same) ∙ sized.guards)
    (stop_is old content v b (number_at (cell_extents old.shape.n old.shape.g) xs)
    (subst (λ (t : Shape). HoldsViews old content b (number_at (cell_extents t.n t.g) xs)) same holds)))
