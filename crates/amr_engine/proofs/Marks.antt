-- Marks on the leaves of a tree, and what a mesh with them has.
use Rattle.std.proofs.Common.{◌≡◌, ℕ, ◌<◌, ◌≤◌, Bool, true, false, ◌||◌, nat_lt, nat_le, List, length, Some, None, refl, sym, ap, ap₂, ◌∙◌, arith, lt-ltb}
use Rattle.std.proofs.lemmas.Bool.{le-ltb, lt-leb, or_left}
use Rattle.std.specs.Option.{option_or}
use Rattle.amr_num.specs.declared.BlockAt.{BlockAt}
use Rattle.mesh_model.specs.declared.language.script.Command.TheVariants.{MarkDerefine, MarkRefine, Regrid}
use Rattle.mesh_model.specs.declared.run.stops.LevelStop.{LevelStop}
use Rattle.mesh_model.specs.declared.run.stops.Refusal.TheVariants as refusals
use Rattle.mesh_model.specs.Geometry.Limits.{most_nodes}
use Rattle.mesh_model.specs.Tree.Order.{nodes}
use Rattle.mesh_model.specs.Tree.Kinds.{Grid, is_leaf_block}
use Rattle.mesh_model.specs.Fields.Plain.{Mesh, marked}
use Rattle.mesh_model.specs.Tree.Regrown.{new_grid, regrown}
use Rattle.mesh_model.specs.Fields.Regrid.{regrid}
use Rattle.mesh_model.specs.Run.Runs.{mesh_after}
use Rattle.mesh_model.specs.Geometry.Blocks.{is_same_block}
use Rattle.mesh_model.specs.Fields.Setting.{mark_derefine, mark_refine}
use Rattle.mesh_model.specs.Run.Stops.{nodes_of, range_of, refusal}
use Rattle.block_tree.specs.declared.marks.Marks.{Marks}
use Rattle.block_tree.specs.declared.tree.Tree.{Tree}
use Rattle.block_tree.specs.GridOf.{grid_of}
use Rattle.block_tree.specs.Growing.{grid_after}
use Rattle.block_tree.specs.Marked.{IsMarksOf, derefine_of, refine_of}
use Rattle.block_tree.proofs.Flags.{same_shows}
use Rattle.refine_marks.specs.declared.plan.Plan.{Plan}
use Rattle.refine_marks.specs.Flags.{AddsBlock, IsSameSet}
use Rattle.refine_marks.specs.Planned.{HasMarks, marked_by, merged_by, refined_by}
use Rattle.refine_marks.proofs.Valued.{is_marked_by}

module _ (m : Mesh) (tree : Tree) (old : Marks) (at : BlockAt) (fits : HasMarks (marked m) tree old) where
  leaf_in : (b : Bool) → is_leaf_block (grid_of tree) at ≡ b → is_leaf_block m.grid at ≡ b
  leaf_in b h = ap (λ g. is_leaf_block g at) fits.grid ∙ h

  -- no leaf is named
  pub no_leaf_refine : is_leaf_block (grid_of tree) at ≡ false → refusal m (MarkRefine at) ≡ Some (refusals.PlaceBlock at)
  unfolding refusal
  no_leaf_refine h = rw (leaf_in false h) refl

  pub no_leaf_derefine : is_leaf_block (grid_of tree) at ≡ false → refusal m (MarkDerefine at) ≡ Some (refusals.PlaceBlock at)
  unfolding refusal
  no_leaf_derefine h = rw (leaf_in false h) refl

  module _ (leaf : is_leaf_block (grid_of tree) at ≡ true) where
    -- the level is at its limit
    pub too_fine : (stop : LevelStop) → at.level ≡ (grid_of tree).shape.max → stop ≡ record { level = at.level; limit = (grid_of tree).shape.max } → refusal m (MarkRefine at) ≡ Some (refusals.Level stop)
    unfolding refusal
    too_fine stop deep is =
        let most : m.grid.shape.max ≡ (grid_of tree).shape.max = ap (λ g. g.shape.max) fits.grid in
        let not_below : nat_lt at.level m.grid.shape.max ≡ false = le-ltb at.level m.grid.shape.max (omega (arith, most, deep)) in
        rw (leaf_in true leaf, not_below) (ap (λ s. Some (refusals.Level s)) (sym (is ∙ ap (λ n. record { level = at.level; limit = n }) (sym most))))

    pub too_coarse : (stop : LevelStop) → at.level ≤ (grid_of tree).shape.min → stop ≡ record { level = at.level; limit = (grid_of tree).shape.min } → refusal m (MarkDerefine at) ≡ Some (refusals.Level stop)
    unfolding refusal
    too_coarse stop high is =
        let least : m.grid.shape.min ≡ (grid_of tree).shape.min = ap (λ g. g.shape.min) fits.grid in
        let not_above : nat_lt m.grid.shape.min at.level ≡ false = le-ltb m.grid.shape.min at.level (omega (arith, least, high)) in
        rw (leaf_in true leaf, not_above) (ap (λ s. Some (refusals.Level s)) (sym (is ∙ ap (λ n. record { level = at.level; limit = n }) (sym least))))

    -- the mark is set
    module _ (new : Marks) (marks : IsMarksOf (grid_of tree) new) where
      pub refine_set : AddsBlock at (refine_of (grid_of tree) old) (refine_of (grid_of tree) new) → IsSameSet (derefine_of (grid_of tree) old) (derefine_of (grid_of tree) new) →
          (refusal m (MarkRefine at) ≡ None) × HasMarks (marked (mesh_after m (MarkRefine at))) tree new
      unfolding refusal mark_refine
      refine_set adds same =
          let set : refine_of (grid_of tree) new at ≡ true = adds at ∙ or_left (is_same_block at at) (refine_of (grid_of tree) old at) (same_shows at at refl) in
          let below : nat_lt at.level m.grid.shape.max ≡ true = lt-ltb at.level m.grid.shape.max (let most = ap (λ g. g.shape.max) fits.grid in let low = (marks.fit.refine at set).1 in omega (arith, most, low)) in (
            rw (leaf_in true leaf, below) refl,
            record {
              grid = fits.grid;
              refine = λ b. ap (λ t. is_same_block b at || t) (fits.refine b) ∙ sym (adds b);
              derefine = λ b. fits.derefine b ∙ sym (same b);
            },
          )

      pub derefine_set : AddsBlock at (derefine_of (grid_of tree) old) (derefine_of (grid_of tree) new) → IsSameSet (refine_of (grid_of tree) old) (refine_of (grid_of tree) new) →
          (refusal m (MarkDerefine at) ≡ None) × HasMarks (marked (mesh_after m (MarkDerefine at))) tree new
      unfolding refusal mark_derefine
      derefine_set adds same =
          let set : derefine_of (grid_of tree) new at ≡ true = adds at ∙ or_left (is_same_block at at) (derefine_of (grid_of tree) old at) (same_shows at at refl) in
          let above : nat_lt m.grid.shape.min at.level ≡ true = lt-ltb m.grid.shape.min at.level (let least = ap (λ g. g.shape.min) fits.grid in let high = (marks.fit.derefine at set).1 in omega (arith, least, high)) in (
            rw (leaf_in true leaf, above) refl,
            record {
              grid = fits.grid;
              refine = λ b. fits.refine b ∙ sym (same b);
              derefine = λ b. ap (λ t. is_same_block b at || t) (fits.derefine b) ∙ sym (adds b);
            },
          )

-- ---- regrid

pub grid_is : (m : Mesh) (tree : Tree) (marks : Marks) (plan : Plan) (refine merge : List Bool) → HasMarks (marked m) tree marks →
    new_grid (marked_by tree marks) ≡ regrown (grid_of tree) (refined_by (grid_of tree) plan) (merged_by (grid_of tree) plan) →
    refine ≡ plan.refine.items → merge ≡ plan.merge.items → new_grid (marked m) ≡ grid_after (grid_of tree) refine merge
grid_is m tree marks plan refine merge fits new refine_is merge_is =
    ap new_grid (is_marked_by (marked m) tree marks fits) ∙ new ∙ ap₂ (grid_after (grid_of tree)) (sym refine_is) (sym merge_is)

-- there would be too many nodes
pub too_many : (m : Mesh) (g : Grid) (count : ℕ) → new_grid (marked m) ≡ g → (count ≡ length (nodes g.leaves)) × (most_nodes g.shape < count) → refusal m Regrid ≡ Some (refusals.Blocks count)
unfolding refusal
too_many m g count is told =
    let many : length (nodes (new_grid (marked m)).leaves) ≡ count = ap (λ h. length (nodes h.leaves)) is ∙ sym told.0 in
    let same : most_nodes m.grid.shape ≡ most_nodes g.shape = ap (λ h. most_nodes h.shape) is in
    let over : nat_le (length (nodes (new_grid (marked m)).leaves)) (most_nodes m.grid.shape) ≡ false = lt-leb (length (nodes (new_grid (marked m)).leaves)) (most_nodes m.grid.shape) (let more = told.1 in omega (arith, many, same, more)) in
    let stops : nodes_of m ≡ Some (refusals.Blocks count) = rw over (ap (λ n. Some (refusals.Blocks n)) many) in
    ap (λ o. option_or o (range_of (regrid m))) stops
