-- What setting one edge of a world makes of an engine's mesh, and how great the numbers of its leaves' edges are.
use Rattle.std.proofs.Common.{◌≡◌, ◌+◌, ◌*◌, ◌<◌, ◌^◌, ◌↔◌, Bool, true, false, ◌&&◌, List, ℤ, ℕ, None, refl, sym, ap, ap₂, subst, ◌∙◌, arith, if◌then◌else◌}
use Rattle.amr_num.specs.Numbers.{Within}
use Rattle.amr_num.specs.declared.Axis.{Axis}
use Rattle.amr_num.specs.declared.EdgeAt.{EdgeAt}
use Rattle.block_tree.specs.Directions.{edge_name}
use Rattle.block_tree.specs.Marked.{derefine_of, refine_of}
use Rattle.block_tree.specs.Numbered.{block_at}
use Rattle.block_tree.specs.declared.marks.Marks.{Marks}
use Rattle.mesh_model.specs.declared.fields.spot.Spot.TheVariants as spots
use Rattle.mesh_model.specs.declared.fields.values.Var.TheVariants.{Cell, Edge, Face}
use Rattle.mesh_model.specs.declared.language.script.Command.TheVariants.{EdgeSet}
use Rattle.mesh_model.specs.declared.run.stops.Refusal.TheVariants as refusals
use Rattle.mesh_model.specs.Fields.Plain.{Mesh}
use Rattle.mesh_model.specs.Fields.Ranks.{IsFit, Told, WorldState}
use Rattle.mesh_model.specs.Fields.Setting.{set_edge}
use Rattle.mesh_model.specs.Fields.Valid.{ValidMesh}
use Rattle.mesh_model.specs.Fields.VariableNames.{VariableNames}
use Rattle.mesh_model.specs.Fields.Views.{edge_view}
use Rattle.mesh_model.specs.Geometry.Canonical.{canonical_edge, is_canonical_edge}
use Rattle.mesh_model.specs.Geometry.Coordinates.{is_same_edge}
use Rattle.mesh_model.specs.Language.Commands.{IsCommandOf}
use Rattle.mesh_model.specs.Run.Runs.{declared_in}
use Rattle.mesh_model.specs.Run.Stops.{or_else, refusal}
use Rattle.mesh_model.specs.Tree.Kinds.{is_leaf_edge}
use Rattle.mesh_model.proofs.RunLemmas.RunValid.{edge_as_is, keeps_validity}
use Rattle.edge_average.specs.EdgeArrays.{EdgesWithin}
use Rattle.edge_average.proofs.HalfEdges.{views_are_small}
use Rattle.rank_world.specs.Contents.{edges_of}
use Rattle.rank_world.specs.Holding.{IsLeafNode, IsOfMesh, LeavesHoldEdges, OnlyAxes, OnlyLeafAxes, edge_var}
use Rattle.rank_world.proofs.Meshes.{faces_same, holds_same}
use Rattle.mesh_steps.specs.Circulations.{AreEdgesSmall}
use Rattle.mesh_steps.proofs.SmallArrays.{leaves_added}
use Rattle.staggered.specs.EdgeSetting.{IsEdgePlace, IsEdgeSet, edge_number, with_edge}
use Rattle.amr_engine.specs.EngineMesh.{IsLaidOut, mesh_of}
use Rattle.amr_engine.specs.Stopping.{MayStop, stopped_by}
use Rattle.amr_engine.specs.declared.cause.Cause.TheVariants.{Place}
use Rattle.amr_engine.proofs.Made.{edges_now, has_edges, laid_after, of_now, tree_now}
use Rattle.amr_engine.proofs.Shown.{mesh_shown}

-- one of two numbers
one_of : (first : Bool) (x y : ℤ) → Within (2 ^ 40) x → Within (2 ^ 41) y → Within (2 ^ 56) (if first then x else y)
one_of true x y small other = omega (arith, small)
one_of false x y small other = omega (arith, other)

both_true : (x y : Bool) → (x && y) ≡ true → x ≡ true
both_true true y h = refl
both_true false y h = absurd cc

module _ (names : VariableNames) (w : WorldState) (outs : List ℤ) (marks : Marks) (laid : IsLaidOut names w outs marks) (valid : ValidMesh (mesh_of names w outs marks)) where
  abbrev now : Mesh
  now = mesh_of names w outs marks

  edge_range : (e : EdgeAt) → Within (2 ^ 40) (edges_of w e)
  unfolding mesh_of
  edge_range e = valid.range.edges e

  -- ---- the numbers of a leaf's edges are small

  leaf_within : 0 < w.told.counts.edges → (node : ℕ) (a : Axis) (i j k : ℕ) → IsLeafNode w.told.grid node → IsEdgePlace w.told.grid.shape.n a i j k → Within (2 ^ 41) (edge_number w.told.grid w a node i j k)
  leaf_within some node a i j k leaf place =
      let g = w.told.grid in
      let view : Within (2 * 2 ^ 40) (edge_view g (edges_of w) (edge_name g.shape a (block_at g node) i j k)) =
      views_are_small g (edges_of w) (2 ^ 40) (block_at g node) a i j k (tree_now names w outs marks laid valid) leaf.leaf (λ e is. edge_range e) place.x place.y place.z in
      subst (Within (2 ^ 41)) (sym ((edges_now names w outs marks laid valid some node leaf a).at i j k place.x place.y place.z)) (omega (arith, view))

  pub edges_small : (n g : ℕ) → IsFit n g w → 0 < w.told.counts.edges → AreEdgesSmall n g w
  edges_small n g fit some = leaves_added n g w fit some (λ node a leaf. record {
    at = λ i j k hi hj hk. let small = leaf_within some node a i j k leaf (record { x = hi; y = hj; z = hk }) in omega (arith, small);
  })

  -- ---- one edge that is set

  module _ (at : EdgeAt) (value : ℤ) (fits : IsCommandOf (declared_in now) (EdgeSet at value)) where
    some_edges : 0 < w.told.counts.edges
    unfolding mesh_of
    some_edges = has_edges names w outs marks laid valid fits.0

    abbrev set_field : EdgeAt → ℤ
    set_field e = if is_same_edge e (canonical_edge now.grid.shape at) then value else now.edges e

    pub put_refused : (is_canonical_edge w.told.grid.shape at && is_leaf_edge w.told.grid at) ≡ false → MayStop (stopped_by (Place (spots.Edge at))) now (EdgeSet at value)
    unfolding refusal mesh_of
    put_refused none = ap (λ leaf. or_else leaf (refusals.Place (spots.Edge at))) none

    module _ (mid : WorldState) (raw : ℤ) (kept : raw ≡ value) (leaf_one : (is_canonical_edge w.told.grid.shape at && is_leaf_edge w.told.grid at) ≡ true) (first : OnlyAxes Edge w mid) (is : IsEdgeSet w mid at raw) where
      pub put_within : EdgesWithin false mid (2 ^ 56)
      unfolding mesh_of
      put_within node a leaf = record {
        at = λ i j k low_x low_y low_z.
            let g = w.told.grid in
            let here : IsLeafNode g node = subst (λ (t : Told). IsLeafNode t.grid node) is.told leaf in
            let there : IsEdgePlace g.shape.n a i j k = subst (λ (t : Told). IsEdgePlace t.grid.shape.n a i j k) is.told (record { x = low_x; y = low_y; z = low_z }) in
            let was : Within (2 ^ 41) (edge_number g w a node i j k) = leaf_within some_edges node a i j k here there in
            subst (λ (t : Told). Within (2 ^ 56) (edge_number t.grid mid a node i j k)) (sym is.told)
            (subst (Within (2 ^ 56)) (sym (is.each node here a i j k there)) (one_of (is_same_edge (edge_name g.shape a (block_at g node) i j k) at) raw (edge_number g w a node i j k) (subst (Within (2 ^ 40)) (sym kept) fits.2) was));
      }

      pub put_allowed : refusal now (EdgeSet at value) ≡ None
      unfolding refusal mesh_of
      put_allowed = ap (λ leaf. or_else leaf (refusals.Place (spots.Edge at))) leaf_one

      pub put_valid : ValidMesh (set_edge now at value)
      unfolding mesh_of
      put_valid = keeps_validity now (EdgeSet at value) valid fits put_allowed

      -- the world in which the copies agree
      module _ (new : WorldState) (second : OnlyLeafAxes (edge_var false) mid new) (holds : LeavesHoldEdges false new (with_edge now.edges at raw)) where
        only : OnlyAxes Edge w new
        only = record { told = second.told ∙ first.told; others = λ u node none. second.others u node (λ a same leaf. none a same) ∙ first.others u node none }

        field_is : with_edge now.edges at raw ≡ set_field
        unfolding mesh_of
        field_is = ap₂ (λ (x : EdgeAt) (v : ℤ). (λ (e : EdgeAt). if is_same_edge e x then v else now.edges e)) (sym (edge_as_is w.told.grid.shape at (both_true _ _ leaf_one))) kept

        set_world : IsOfMesh new (set_edge now at value)
        unfolding set_edge mesh_of
        set_world =
            let of = of_now names w outs marks laid valid in
            record {
              grid = ap (λ (t : Told). t.grid) only.told ∙ of.grid;
              cells = ap (λ (t : Told). t.counts.cells) only.told ∙ of.cells;
              faces = subst (λ (t : Told). (t.counts.faces ≡ 0) ↔ (now.names.face ≡ None)) (sym only.told) of.faces;
              edges = subst (λ (t : Told). (t.counts.edges ≡ 0) ↔ (now.names.edge ≡ None)) (sym only.told) of.edges;
              contents = λ v below node leaf.
                  holds_same w new v node (now.cells v) only.told (only.others (Cell v) node (λ a e. absurd cc))
                  (of.contents v (subst (λ (t : Told). v < t.counts.cells) only.told below) node (subst (λ (t : Told). IsLeafNode t.grid node) only.told leaf));
              on_faces = λ some. faces_same w new now.faces only.told (λ x node leaf. only.others (Face x) node (λ a e. absurd cc)) (of.on_faces (subst (λ (t : Told). 0 < t.counts.faces) only.told some));
              on_edges = λ some. subst (LeavesHoldEdges false new) field_is holds;
            }

        pub put_is : mesh_of names new outs marks ≡ set_edge now at value
        unfolding set_edge mesh_of
        put_is =
            mesh_shown names new outs marks (set_edge now at value) set_world put_valid refl (λ v. refl)
            (λ b. ap (λ (t : Told). refine_of t.grid marks b) only.told) (λ b. ap (λ (t : Told). derefine_of t.grid marks b) only.told)

        pub put_laid : IsLaidOut names new outs marks
        unfolding set_edge mesh_of
        put_laid = laid_after names w outs marks laid valid new outs (set_edge now at value) only.told set_world put_valid refl laid.flowed
