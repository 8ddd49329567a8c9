use Rattle.std.proofs.Common.{◌≡◌, ◌<◌, ◌∙◌, ap, ap₂, refl, subst, sym, ℕ, zero, suc, Bool, List, Option, None, Some, length, arith}
use Rattle.std.specs.Prelude.{if◌then◌else◌, nat_lt}
use Rattle.std.specs.Option.{option_or}
use Rattle.std.proofs.lemmas.Bool.{lt-ltb}
use Rattle.mesh_model.specs.Fields.Arrays.{Counts}
use Rattle.mesh_model.specs.Tree.Order.{nodes}
use Rattle.mesh_model.specs.Tree.Kinds.{Grid}
use Rattle.mesh_model.specs.Fields.Plain.{marked, Mesh}
use Rattle.mesh_model.specs.Fields.Ranks.{Told, WorldState}
use Rattle.mesh_model.specs.Tree.Regrown.{new_grid, regrown}
use Rattle.mesh_model.specs.Tree.ValidGrid.{FewNodes, Valid}
use Rattle.block_tree.specs.declared.tree.GrowStop.{GrowStop}
use Rattle.block_tree.specs.declared.tree.GrowStop.TheVariants as grow
use Rattle.block_tree.specs.GridOf.{grid_of}
use Rattle.block_tree.specs.Growing.{IsGrowStop, grid_after}
use Rattle.block_tree.proofs.Facts.{known}
use Rattle.refine_marks.specs.Planned.{merged_by, refined_by}
use Rattle.refine_marks.specs.declared.plan.Plan.{Plan}
use Rattle.mesh_model.specs.declared.fields.spot.RangeStop.{RangeStop}
use Rattle.mesh_model.specs.Fields.Valid.{ValidMesh}
use Rattle.rank_world.specs.Holding.{IsOfMesh}
use Rattle.regrid_move.specs.AxisMoves.{edges_stop, faces_stop, values_stop}
use Rattle.regrid_move.specs.declared.kinds.Staggered.TheVariants.{Edges, Faces}
use Rattle.regrid_move.specs.Near.{AreNear, all_stop}
use Rattle.regrid_move.specs.Regrids.{AreOfMesh, IsRegridStop, first_moved_excess, of_growth}
use Rattle.regrid_move.proofs.Excess.{excess_is, no_edges_stop, no_faces_stop}
use Rattle.regrid_move.proofs.Regridded.{near_after, new_axes, new_leaves}
use Rattle.regrid_move.proofs.regridding.regrid.Goals as goal

after_same : (g h : Grid) (a b c d : List Bool) → g ≡ h → a ≡ b → c ≡ d → grid_after g a c ≡ grid_after h b d
after_same g h a b c d gh ab cd = ap (λ k. grid_after k a c) gh ∙ ap₂ (λ u w. grid_after h u w) ab cd

-- the grid after the plan is the new mesh's
along : (now : WorldState) (plan : Plan) (m : Mesh) → AreOfMesh now plan m → regrown now.told.grid (refined_by now.told.grid plan) (merged_by now.told.grid plan) ≡ new_grid (marked m)
along now plan m of = ap (λ h. regrown h (refined_by h plan) (merged_by h plan)) of.world.grid ∙ sym of.plan_is

grown : (now : WorldState) (plan : Plan) (m : Mesh) → AreOfMesh now plan m → (stop : GrowStop) → IsGrowStop (grid_after now.told.grid plan.refine.items plan.merge.items) stop → IsRegridStop m (of_growth stop)
grown now plan m of (grow.Blocks count) h = subst (λ g. IsGrowStop g (grow.Blocks count)) (along now plan m of) h
grown now plan m of grow.OutOfMemory h = h

pub returns-in-Err-clause-stop : goal.returns-in-Err-clause-stop
returns-in-Err-clause-stop g c m of =
    let same = after_same _ _ _ _ _ _ c.tree.ensures c.deref.ensures.value c.deref-2.ensures.value in
    subst (λ s. IsRegridStop m s) (sym c.no_tree.ensures) (grown c.args.world.now c.args.plan.now m of c.in-Err.stop (subst (λ h. IsGrowStop h c.in-Err.stop) same c.in-Err.ensures.stop))

pub move_values-requires : goal.move_values-requires
move_values-requires g c =
    let now = c.args.world.now in
    let same = after_same _ _ _ _ _ _ c.tree.ensures c.deref.ensures.value c.deref-2.ensures.value in
    let new_is = c.in-Ok-on_tree.ensures.grid_is ∙ c.in-Ok.ensures.tree ∙ same in
    let near = near_after now.told.grid (refined_by now.told.grid c.args.plan.now) (merged_by now.told.grid c.args.plan.now) c.requires.may in (
      omega arith,
      (
        record {
          old_fit = c.requires.fit;
          new_fit = c.in-Ok-on_tree.ensures.fit;
          counts = c.in-Ok-on_tree.ensures.counts_are ∙ c.layout.ensures;
          near = subst (λ h. AreNear now.told.grid h) (sym new_is) near;
          range = c.requires.range;
        },
        c.requires.mesh,
      ),
    )

-- what is not declared is not walked
if_declared : (n : ℕ) (p : Option RangeStop) → (n ≡ 0 → p ≡ None) → (if nat_lt 0 n then p else None) ≡ p
if_declared zero p none = sym (none refl)
if_declared (suc n) p none = ap (λ (t : Bool). if t then p else None) (lt-ltb 0 (suc n) (omega arith))

-- the first number that is moved and out of range is that of the mesh
first_of : (now : WorldState) (g : Grid) (m : Mesh) (r : Option RangeStop) → ValidMesh m → IsOfMesh now m → g ≡ new_grid (marked m) →
    values_stop now.told.grid g m.cells m.faces m.edges now.told.counts ≡ r → first_moved_excess m ≡ r
first_of now g m r valid of new is =
    let h = new_grid (marked m) in
    let count = length (nodes h.leaves) in
    let faces = if_declared now.told.counts.faces (faces_stop m.grid h m.faces count) (λ zero. no_faces_stop m count (valid.declared.faces (of.faces.0 zero))) in
    let edges = if_declared now.told.counts.edges (edges_stop m.grid h m.edges count) (λ zero. no_edges_stop m count (valid.declared.edges (of.edges.0 zero))) in
    ap₂ (λ u v. option_or (all_stop m.grid h m.cells u) v) (sym of.cells) (ap₂ (λ u v. option_or u v) (sym faces) (sym edges))
    ∙ ap₂ (λ u v. values_stop u v m.cells m.faces m.edges now.told.counts) (sym of.grid) (sym new) ∙ is

pub returns-in-Some-clause-stop : goal.returns-in-Some-clause-stop
returns-in-Some-clause-stop g c m of =
    let now = c.args.world.now in
    let new = c.move_values.new.new in
    let same = after_same _ _ _ _ _ _ c.tree.ensures c.deref.ensures.value c.deref-2.ensures.value in
    let after = same ∙ along now c.args.plan.now m of in
    let tree_is : grid_of c.in-Ok.tree ≡ new_grid (marked m) = c.in-Ok.ensures.tree ∙ after in
    let moved_is : c.in-Ok-on_tree.new.told.grid ≡ new_grid (marked m) = c.in-Ok-on_tree.ensures.grid_is ∙ tree_is in
    let new_is : new.told.grid ≡ new_grid (marked m) = ap (λ (t : Told). t.grid) c.move_values.ensures.told ∙ moved_is in
    let valid : Valid (new_grid (marked m)) = subst Valid tree_is (known c.in-Ok.tree).valid in (
      subst FewNodes after c.in-Ok.ensures.few,
      excess_is m of.valid valid
          ∙ first_of now new.told.grid m (Some c.in-Some.stop) of.valid of.world new_is (sym (c.move_values.ensures.stop m.cells m.faces m.edges of.world.contents of.world.on_faces of.world.on_edges) ∙ c.in-Some.is),
    )

pub returns-in-None-clause-mesh : goal.returns-in-None-clause-mesh
returns-in-None-clause-mesh g c m of =
    let now = c.args.world.now in
    let new = c.move_values.new.new in
    let same = after_same _ _ _ _ _ _ c.tree.ensures c.deref.ensures.value c.deref-2.ensures.value in
    let tree_is : grid_of c.in-Ok.tree ≡ new_grid (marked m) = c.in-Ok.ensures.tree ∙ same ∙ along now c.args.plan.now m of in
    let told = c.move_values.ensures.told in
    let moved_is : c.in-Ok-on_tree.new.told.grid ≡ new_grid (marked m) = c.in-Ok-on_tree.ensures.grid_is ∙ tree_is in
    let new_is : new.told.grid ≡ new_grid (marked m) = ap (λ (t : Told). t.grid) told ∙ moved_is in
    let valid : Valid (new_grid (marked m)) = subst Valid tree_is (known c.in-Ok.tree).valid in
    let counts = ap (λ (t : Told). t.counts) told ∙ c.in-Ok-on_tree.ensures.counts_are ∙ c.layout.ensures in
    let cells : new.told.counts.cells ≡ now.told.counts.cells = ap (λ (k : Counts). k.cells) counts in
    let faces : new.told.counts.faces ≡ now.told.counts.faces = ap (λ (k : Counts). k.faces) counts in
    let edges : new.told.counts.edges ≡ now.told.counts.edges = ap (λ (k : Counts). k.edges) counts in
    let none : c.move_values.result ≡ None = c.in-None.is in
    record {
      few = subst FewNodes (same ∙ along now c.args.plan.now m of) c.in-Ok.ensures.few;
      in_range =
          excess_is m of.valid valid
          ∙ first_of now new.told.grid m None of.valid of.world new_is (sym (c.move_values.ensures.stop m.cells m.faces m.edges of.world.contents of.world.on_faces of.world.on_edges) ∙ none);
      world = record {
        grid = new_is;
        cells = cells ∙ of.world.cells;
        faces = (λ zero. of.world.faces.0 (sym faces ∙ zero), λ none. faces ∙ of.world.faces.1 none);
        edges = (λ zero. of.world.edges.0 (sym edges ∙ zero), λ none. edges ∙ of.world.edges.1 none);
        contents = λ v below.
            let here : v < now.told.counts.cells = subst (λ k. v < k) cells below in
            new_leaves now new m v of.world.grid new_is valid (c.move_values.ensures.cells none v (m.cells v) here (of.world.contents v here));
        on_faces = λ some.
            let declared : 0 < now.told.counts.faces = subst (λ k. 0 < k) faces some in
            new_axes Faces now new m of.world.grid new_is of.valid.grid valid (c.move_values.ensures.faces none declared m.faces (of.world.on_faces declared));
        on_edges = λ some.
            let declared : 0 < now.told.counts.edges = subst (λ k. 0 < k) edges some in
            new_axes Edges now new m of.world.grid new_is of.valid.grid valid (c.move_values.ensures.edges none declared m.edges (of.world.on_edges declared));
      };
    }
