-- What the operations of an engine make of its mesh.
use Rattle.std.proofs.Common.{◌≡◌, ◌≢◌, ℕ, ◌<◌, ◌≤◌, ◌^◌, Bool, true, false, ◌==◌, List, Option, Some, None, IsSome, Result, Ok, Err, IsErr, IfErr, OnErr, OnOk, length, get_or, ℤ, pos, refl, sym, ap, ap₂, subst, ◌∙◌, arith, inl, inr, eq-eqb, eqb-true}
use Rattle.std.specs.Prelude.{◌↔◌, if◌then◌else◌, ◌&&◌, ◌||◌, nat_lt, not}
use Rattle.std.specs.Option.{option_map}
use Rattle.std.proofs.lemmas.Bool.{cases_Bool, cases_lt, le-leb}
use Rattle.std.proofs.lemmas.List.{get_or_default}
use Rattle.amr_num.specs.Numbers.{Within}
use Rattle.amr_num.specs.declared.BlockAt.{BlockAt}
use Rattle.block_tree.specs.Marked.{IsMarksOf, IsUnmarked, derefine_of, refine_of, room}
use Rattle.block_tree.specs.declared.marks.Marks.{Marks}
use Rattle.mesh_model.specs.declared.fields.values.Var.TheVariants.{Cell, Edge, Face}
use Rattle.mesh_model.specs.declared.language.script.Command.{Command}
use Rattle.mesh_model.specs.declared.language.script.Command.TheVariants.{DerefineWhere, FillAll, FillBox, MarkDerefine, MarkRefine, RefineWhere, Regrid}
use Rattle.mesh_model.specs.declared.run.stops.Refusal.TheVariants as refusals
use Rattle.mesh_model.specs.Fields.Plain.{Mesh, marked, on_cells}
use Rattle.mesh_model.specs.Fields.Ranks.{Told, WorldState}
use Rattle.mesh_model.specs.Fields.Regrid.{regrid}
use Rattle.mesh_model.specs.Fields.Setting.{derefine_where, has_cell, mark_derefine, mark_refine, refine_where, with_marks}
use Rattle.mesh_model.specs.Fields.Valid.{ValidMesh}
use Rattle.mesh_model.specs.Fields.VariableNames.{VariableNames}
use Rattle.mesh_model.specs.Fields.Totals.{total}
use Rattle.mesh_model.specs.Run.Texts.{group_name}
use Rattle.mesh_model.specs.declared.fields.values.Group.{Group}
use Rattle.mesh_model.specs.declared.fields.values.Group.TheVariants as groups
use Rattle.mesh_model.specs.Geometry.Limits.{most_nodes}
use Rattle.mesh_model.specs.Language.Commands.{IsCommandOf, IsGroup, IsLeafNumber}
use Rattle.mesh_model.specs.Run.Runs.{declared_in}
use Rattle.mesh_model.specs.Run.Stops.{refusal}
use Rattle.mesh_model.specs.Tree.Kinds.{Grid, is_leaf_block}
use Rattle.mesh_model.specs.Tree.Order.{Sorted, nodes}
use Rattle.mesh_model.specs.Tree.Regrown.{new_grid, regrown}
use Rattle.block_tree.specs.GridOf.{grid_of}
use Rattle.block_tree.specs.declared.tree.Tree.{Tree}
use Rattle.refine_marks.specs.Planned.{HasMarks, marked_by, merged_by, refined_by}
use Rattle.refine_marks.specs.declared.plan.Plan.{Plan}
use Rattle.regrid_move.specs.declared.regridding.RegridStop.{RegridStop}
use Rattle.regrid_move.specs.declared.regridding.RegridStop.TheVariants as stops
use Rattle.mesh_model.specs.Tree.ValidGrid.{FewNodes, Valid}
use Rattle.mesh_model.proofs.RunLemmas.RunValid.{keeps_validity}
use Rattle.rank_world.specs.Contents.{edges_of}
use Rattle.rank_world.specs.Holding.{IsLeafNode, IsOfMesh, LeavesHold, LeavesHoldEdges, OnlyCells}
use Rattle.regrid_move.specs.Regrids.{AreOfMesh, IsPlanOf, IsRegridStop, IsRegridded}
use Rattle.amr_engine.specs.Stopping.{Changes, MayStop, cause_of_regrid, stopped_by}
use Rattle.amr_engine.specs.declared.cause.Cause.{Cause}
use Rattle.amr_engine.specs.declared.cause.Cause.TheVariants as causes
use Rattle.mesh_model.specs.declared.run.stops.LevelStop.{LevelStop}
use Rattle.refine_marks.specs.Flags.{AddsBlock, IsSameSet}
use Rattle.amr_engine.proofs.Marks.{derefine_set, refine_set, too_coarse, too_fine, too_many}
use Rattle.amr_engine.specs.Filling.{AreLeavesFilled}
use Rattle.guard_fill.specs.Restricting.{IsGroupOf, LeavesHoldOf}
use Rattle.amr_engine.specs.EngineMesh.{IsLaidOut, mesh_of}
use Rattle.amr_engine.specs.Guards.{field_of}
use Rattle.amr_engine.specs.MarkedWhere.{IsMarkedWhere, marked_where, number_of, passes}
use Rattle.amr_engine.specs.Totals.{IsTotal}
use Rattle.amr_engine.specs.declared.marking.Where.{Where}
use Rattle.amr_engine.specs.declared.marking.Where.TheVariants.{DerefineBelow, RefineAbove}
use Rattle.amr_engine.specs.Regions.{IsRegionOf, filled, filled_content}
use Rattle.amr_engine.specs.declared.region.Fill.{Fill}
use Rattle.amr_engine.specs.declared.region.Region.TheVariants as regions
use Rattle.amr_engine.proofs.Shown.{laid_shown, leaves_on, mesh_shown, own_mesh}
use Rattle.rank_world.proofs.Meshes.{edges_same, faces_same, holds_same}

same_cell : (v w : ℕ) → Cell v ≡ Cell w → v ≡ w
same_cell v w e = cc

three_tests : (p q r : Bool) → (p && (q && r)) ≡ (p && q && r)
three_tests true q r = refl
three_tests false q r = refl

-- a limit of levels, as a cause
abbrev pub at_limit : Result (Unit {0}) LevelStop → Result (Unit {0}) Cause
at_limit (Ok done) = Ok done
at_limit (Err stop) = Err (causes.Level stop)

-- what is declared is counted
some_counted : (count : ℕ) (name : Option (List ℕ)) → (count ≡ 0) ↔ (name ≡ None) → IsSome name → 0 < count
some_counted count None any some = absurd cc
some_counted count (Some name) any some = elim (cases_lt 0 count) [
  | inl more ↦ more
  | inr none ↦ absurd (let is = any.0 (omega (arith, none)) in cc)
]

apart : (v var : ℕ) → (v == var) ≡ false → v ≢ var
apart v var other e = absurd (let t = eq-eqb v var e in cc)

module _ (names : VariableNames) (w : WorldState) (outs : List ℤ) (marks : Marks) (laid : IsLaidOut names w outs marks) (valid : ValidMesh (mesh_of names w outs marks)) where
  abbrev pub now : Mesh
  now = mesh_of names w outs marks

  grid_now : now.grid ≡ w.told.grid
  unfolding mesh_of
  grid_now = refl

  names_now : now.names ≡ names
  unfolding mesh_of
  names_now = refl

  pub tree_now : Valid w.told.grid
  tree_now = subst Valid grid_now valid.grid

  pub order_now : Sorted w.told.grid.leaves
  order_now = subst (λ (g : Grid). Sorted g.leaves) grid_now valid.order

  pub few_now : FewNodes w.told.grid
  few_now = subst FewNodes grid_now valid.nodes

  pub of_now : IsOfMesh w now
  of_now = own_mesh names w outs marks laid tree_now order_now

  -- ---- other worlds

  -- a world of another mesh with these variables
  pub laid_after : (new : WorldState) (flown : List ℤ) (m : Mesh) → new.told ≡ w.told → IsOfMesh new m → ValidMesh m → names ≡ m.names → length flown ≡ length names.cells → IsLaidOut names new flown marks
  laid_after new flown m told of is named flowed =
      laid_shown names new flown marks m of is named flowed (laid.room ∙ sym (ap (λ (t : Told). most_nodes t.grid.shape) told))

  -- a world of the same mesh
  pub laid_same : (new : WorldState) → new.told ≡ w.told → IsOfMesh new now → IsLaidOut names new outs marks
  unfolding mesh_of
  laid_same new told of = laid_after new outs now told of valid refl laid.flowed

  pub same_mesh : (new : WorldState) → new.told ≡ w.told → IsOfMesh new now → mesh_of names new outs marks ≡ now
  unfolding mesh_of
  same_mesh new told of =
      mesh_shown names new outs marks now of valid refl (λ u. refl)
      (λ b. ap (λ (t : Told). refine_of t.grid marks b) told) (λ b. ap (λ (t : Told). derefine_of t.grid marks b) told)

  -- a variable is filled
  module _ (var : ℕ) (fill : Fill) (new : WorldState) (there : var < length names.cells) (only : OnlyCells w new var) (is : AreLeavesFilled w new var fill) where
    filled_holds : (v : ℕ) → v < w.told.counts.cells → LeavesHold new v ((filled now var fill).cells v)
    filled_holds v below = elim (cases_Bool (v == var)) [
      | inl same ↦ (
          let e : v ≡ var = eqb-true v var same in
          let content = filled_content fill (now.cells var) in
          let holds : LeavesHold new var content = is (now.cells var) (of_now.contents var (subst (λ u. u < w.told.counts.cells) e below)) in
          let grid : new.told.grid ≡ w.told.grid = ap (λ (t : Told). t.grid) only.told in
          let on : LeavesHold new var (on_cells now.grid content) = subst (λ h. LeavesHold new var (on_cells h content)) (grid ∙ sym grid_now) (leaves_on new var content (subst Valid (sym grid) tree_now) holds) in
          subst (λ t. LeavesHold new v (if t then on_cells now.grid content else now.cells v)) (sym same) (subst (λ u. LeavesHold new u (on_cells now.grid content)) (sym e) on))
      | inr other ↦
          subst (λ t. LeavesHold new v (if t then on_cells now.grid (filled_content fill (now.cells var)) else now.cells v)) (sym other)
          (λ node leaf. holds_same w new v node (now.cells v) only.told (only.others (Cell v) node (λ e. apart v var other (same_cell v var e)))
          (of_now.contents v below node (subst (λ (t : Told). IsLeafNode t.grid node) only.told leaf)))
    ]

    filled_world : IsOfMesh new (filled now var fill)
    filled_world = record {
      grid = ap (λ (t : Told). t.grid) only.told ∙ sym grid_now;
      cells = ap (λ (t : Told). t.counts.cells) only.told ∙ laid.cells ∙ sym (ap (λ (n : VariableNames). length n.cells) names_now);
      faces = subst (λ (t : Told). (t.counts.faces ≡ 0) ↔ (now.names.face ≡ None)) (sym only.told) of_now.faces;
      edges = subst (λ (t : Told). (t.counts.edges ≡ 0) ↔ (now.names.edge ≡ None)) (sym only.told) of_now.edges;
      contents = λ v below. filled_holds v (subst (λ (t : Told). v < t.counts.cells) only.told below);
      on_faces = λ some. faces_same w new now.faces only.told (λ x node leaf. only.others (Face x) node (λ is. absurd cc)) (of_now.on_faces (subst (λ (t : Told). 0 < t.counts.faces) only.told some));
      on_edges = λ some. edges_same w new now.edges only.told (λ x node leaf. only.others (Edge x) node (λ is. absurd cc)) (of_now.on_edges (subst (λ (t : Told). 0 < t.counts.edges) only.told some));
    }

    pub filled_laid : ValidMesh (filled now var fill) → IsLaidOut names new outs marks
    unfolding mesh_of
    filled_laid after = laid_after new outs (filled now var fill) only.told filled_world after refl laid.flowed

    pub filled_valid : IsRegionOf w.told.grid.shape fill.region → IsLeafNumber fill.value → ValidMesh (filled now var fill)
    unfolding refusal mesh_of
    filled_valid region small = elim fill.region as (λ r. IsRegionOf w.told.grid.shape r → ValidMesh (filled now var (record { region = r; value = fill.value }))) [
      | regions.Everywhere ↦ λ any. keeps_validity now (FillAll var fill.value) valid (there, small) refl
      | regions.Within b ↦ λ box. keeps_validity now (FillBox var b.level b.low b.high fill.value) valid (there, box, small) refl
    ] region

    pub filled_is : ValidMesh (filled now var fill) → mesh_of names new outs marks ≡ filled now var fill
    unfolding mesh_of
    filled_is after =
        mesh_shown names new outs marks (filled now var fill) filled_world after refl (λ v. refl)
        (λ b. ap (λ (t : Told). refine_of t.grid marks b) only.told) (λ b. ap (λ (t : Told). derefine_of t.grid marks b) only.told)

  -- ---- regrid

  -- the plan of the marks' closure is the mesh's
  pub plan_now : (t : Tree) (plan : Plan) → grid_of t ≡ w.told.grid → new_grid (marked_by t marks) ≡ regrown (grid_of t) (refined_by (grid_of t) plan) (merged_by (grid_of t) plan) → IsPlanOf now plan
  unfolding mesh_of
  plan_now t plan is made =
      ap (λ h. new_grid (record { grid = h; refine = refine_of h marks; derefine = derefine_of h marks })) (sym is) ∙ made ∙ ap (λ h. regrown h (refined_by h plan) (merged_by h plan)) is

  pub may_move : (plan : Plan) → IsPlanOf now plan → AreOfMesh w plan now
  may_move plan is = record { valid = valid; world = of_now; plan_is = is }

  -- why it stops
  pub regrid_stops : (stop : RegridStop) → IsRegridStop now stop → MayStop (stopped_by (cause_of_regrid stop)) now Regrid
  unfolding refusal
  regrid_stops (stops.Blocks count) is = too_many now (new_grid (marked now)) count refl is
  regrid_stops (stops.Range stop) is = rw (le-leb (length (nodes (new_grid (marked now)).leaves)) (most_nodes now.grid.shape) is.0) (ap (option_map refusals.Range) is.1)
  regrid_stops stops.OutOfMemory is = refl

  -- there is room for the new nodes' marks
  pub regrid_room : (new : WorldState) → IsRegridded now new → length (nodes new.told.grid.leaves) ≤ room marks
  unfolding mesh_of
  regrid_room new done =
      let many : length (nodes new.told.grid.leaves) ≡ length (nodes (new_grid (marked now)).leaves) = ap (λ (h : Grid). length (nodes h.leaves)) done.world.grid in
      let few = done.few in
      omega (arith, many, few, laid.room)

  pub regrid_shape : (new : WorldState) → IsRegridded now new → new.told.grid.shape ≡ w.told.grid.shape
  unfolding mesh_of
  regrid_shape new done = ap (λ (h : Grid). h.shape) done.world.grid

  module _ (new : WorldState) (other : Marks) (done : IsRegridded now new) (none : IsUnmarked new.told.grid other) where
    pub regrid_allowed : refusal now Regrid ≡ None
    unfolding refusal
    regrid_allowed = rw (le-leb (length (nodes (new_grid (marked now)).leaves)) (most_nodes now.grid.shape) done.few) (ap (option_map refusals.Range) done.in_range)

    pub regrid_valid : ValidMesh (regrid now)
    unfolding mesh_of
    regrid_valid = keeps_validity now Regrid valid tt regrid_allowed

    pub regrid_laid : room other ≡ room marks → IsLaidOut names new outs other
    unfolding mesh_of
    regrid_laid space =
        laid_shown names new outs other (regrid now) done.world regrid_valid refl laid.flowed (space ∙ laid.room ∙ sym (ap (λ h. most_nodes h.shape) done.world.grid))

    pub regrid_is : mesh_of names new outs other ≡ regrid now
    unfolding mesh_of
    regrid_is =
        mesh_shown names new outs other (regrid now) done.world regrid_valid refl (λ v. refl) (λ b. none.refine b) (λ b. none.derefine b)

  -- ---- marks

  pub remarked : (new : Marks) (refine derefine : BlockAt → Bool) → ((b : BlockAt) → refine_of w.told.grid new b ≡ refine b) → ((b : BlockAt) → derefine_of w.told.grid new b ≡ derefine b) →
      mesh_of names w outs new ≡ with_marks now refine derefine
  unfolding mesh_of
  remarked new refine derefine r d = ap₂ (with_marks now) (λ i b. r b i) (λ i b. d b i)

  pub marks_now : IsMarksOf w.told.grid marks
  unfolding mesh_of
  marks_now = record { room = let few = few_now in omega (arith, few, laid.room); fit = record { refine = valid.marks.refine; derefine = valid.marks.derefine } }

  pub marks_of : (g : Grid) → g ≡ w.told.grid → IsMarksOf g marks
  marks_of g is = subst (λ h. IsMarksOf h marks) (sym is) marks_now

  -- the marks of a tree of this grid
  pub has_marks : (t : Tree) → grid_of t ≡ w.told.grid → HasMarks (marked now) t marks
  unfolding mesh_of
  has_marks t is = record { grid = sym is; refine = λ b. ap (λ h. refine_of h marks b) (sym is); derefine = λ b. ap (λ h. derefine_of h marks b) (sym is) }

  pub refine_is : (t : Tree) (at : BlockAt) (new : Marks) → grid_of t ≡ w.told.grid → HasMarks (marked (mark_refine now at)) t new → mesh_of names w outs new ≡ mark_refine now at
  unfolding mark_refine mesh_of
  refine_is t at new is has =
      remarked new (mark_refine now at).refine (mark_refine now at).derefine
      (λ b. ap (λ h. refine_of h new b) (sym is) ∙ sym (has.refine b)) (λ b. ap (λ h. derefine_of h new b) (sym is) ∙ sym (has.derefine b))

  pub derefine_is : (t : Tree) (at : BlockAt) (new : Marks) → grid_of t ≡ w.told.grid → HasMarks (marked (mark_derefine now at)) t new → mesh_of names w outs new ≡ mark_derefine now at
  unfolding mark_derefine mesh_of
  derefine_is t at new is has =
      remarked new (mark_derefine now at).refine (mark_derefine now at).derefine
      (λ b. ap (λ h. refine_of h new b) (sym is) ∙ sym (has.refine b)) (λ b. ap (λ h. derefine_of h new b) (sym is) ∙ sym (has.derefine b))

  -- a command that changes a valid mesh, or leaves it, leaves a valid one
  pub changes_valid : (result : Result (Unit {0}) Cause) (command : Command) (after : Mesh) → IsCommandOf (declared_in now) command → Changes result now command after → ValidMesh after
  changes_valid (Ok done) command after fits changes = subst ValidMesh (sym changes.1) (keeps_validity now command valid fits changes.0)
  changes_valid (Err cause) command after fits changes = subst ValidMesh (sym changes.1) valid

  -- one more leaf is marked, or the limit of levels is told
  module _ (t : Tree) (at : BlockAt) (new : Marks) (is : grid_of t ≡ w.told.grid) (leaf : is_leaf_block (grid_of t) at ≡ true) (are : IsMarksOf (grid_of t) new) where
    pub refine_changes : (result : Result (Unit {0}) LevelStop) → IsErr result ↔ (at.level ≡ (grid_of t).shape.max) →
        IfErr result (λ stop. stop ≡ record { level = at.level; limit = (grid_of t).shape.max }) →
        OnOk result (AddsBlock at (refine_of (grid_of t) marks) (refine_of (grid_of t) new)) → IsSameSet (derefine_of (grid_of t) marks) (derefine_of (grid_of t) new) → OnErr result (new ≡ marks) →
        Changes (at_limit result) now (MarkRefine at) (mesh_of names w outs new)
    refine_changes (Ok done) refused stop adds same stays =
        let set = refine_set now t marks at (has_marks t is) leaf new are adds same in
        (set.0, refine_is t at new is set.1)
    refine_changes (Err stop) refused told adds same stays = (too_fine now t marks at (has_marks t is) leaf stop (refused.0 refl) told, ap (mesh_of names w outs) stays)

    pub derefine_changes : (result : Result (Unit {0}) LevelStop) → IsErr result ↔ (at.level ≤ (grid_of t).shape.min) →
        IfErr result (λ stop. stop ≡ record { level = at.level; limit = (grid_of t).shape.min }) →
        OnOk result (AddsBlock at (derefine_of (grid_of t) marks) (derefine_of (grid_of t) new)) → IsSameSet (refine_of (grid_of t) marks) (refine_of (grid_of t) new) → OnErr result (new ≡ marks) →
        Changes (at_limit result) now (MarkDerefine at) (mesh_of names w outs new)
    derefine_changes (Ok done) refused stop adds same stays =
        let set = derefine_set now t marks at (has_marks t is) leaf new are adds same in
        (set.0, derefine_is t at new is set.1)
    derefine_changes (Err stop) refused told adds same stays = (too_coarse now t marks at (has_marks t is) leaf stop (refused.0 refl) told, ap (mesh_of names w outs) stays)

  -- leaves are marked by what they contain
  module _ (var : ℕ) (there : var < length names.cells) (new : Marks) where
    holds_now : LeavesHold w var (now.cells var)
    holds_now = of_now.contents var (subst (λ m. var < m) (sym laid.cells) there)

    pub where_valid : (rule : Where) → IsLeafNumber (number_of rule) → ValidMesh (marked_where now var rule)
    unfolding refusal mesh_of
    where_valid (RefineAbove above) small = keeps_validity now (RefineWhere var above) valid (there, small) refl
    where_valid (DerefineBelow below) small = keeps_validity now (DerefineWhere var below) valid (there, small) refl

    pub where_is : (rule : Where) → IsMarkedWhere w var rule marks new → mesh_of names w outs new ≡ marked_where now var rule
    unfolding refine_where derefine_where mesh_of
    where_is (RefineAbove above) is = remarked new (refine_where now var above).refine (refine_where now var above).derefine
        (λ b. is.refine (now.cells var) holds_now b ∙ ap (λ t. t || refine_of w.told.grid marks b) (three_tests (is_leaf_block w.told.grid b) (nat_lt b.level w.told.grid.shape.max) (has_cell w.told.grid.shape.n b (λ c. passes (RefineAbove above) (now.cells var c))))) (is.derefine (now.cells var) holds_now)
    where_is (DerefineBelow below) is = remarked new (derefine_where now var below).refine (derefine_where now var below).derefine
        (is.refine (now.cells var) holds_now) (λ b. is.derefine (now.cells var) holds_now b ∙ ap (λ t. t || derefine_of w.told.grid marks b) (three_tests (is_leaf_block w.told.grid b) (nat_lt w.told.grid.shape.min b.level) (not (has_cell w.told.grid.shape.n b (λ c. passes (DerefineBelow below) (now.cells var c))))))

  -- ---- what is printed

  -- what is read of a variable
  module _ (var : ℕ) (there : var < length names.cells) where
    pub total_now : (result : ℤ) → IsTotal w var result → result ≡ total now.grid (now.cells var)
    unfolding mesh_of
    total_now result is = is (now.cells var) (of_now.contents var (subst (λ m. var < m) (sym laid.cells) there))

    pub out_now : (read : ℤ) → read ≡ get_or outs var read → get_or outs var (pos 0) ≡ read
    out_now read is = get_or_default outs var (pos 0) read (let e = laid.flowed in omega (arith, e, there)) ∙ sym is

    pub out_small : Within (2 ^ 100) (get_or outs var (pos 0))
    unfolding mesh_of
    out_small = valid.range.outs var

  pub grid_is : now.grid ≡ w.told.grid
  unfolding mesh_of
  grid_is = refl

  pub named_now : (group : Group) → group_name now.names group ≡ group_name names group
  unfolding mesh_of
  named_now group = refl

  -- the face variable and the edge variable, where one is declared: its arrays are there
  pub has_faces : IsSome names.face → 0 < w.told.counts.faces
  has_faces some = some_counted w.told.counts.faces names.face laid.faces some

  pub has_edges : IsSome names.edge → 0 < w.told.counts.edges
  has_edges some = some_counted w.told.counts.edges names.edge laid.edges some

  pub group_counted : (group : Group) → IsGroup names group → IsGroupOf w.told.counts group
  group_counted (groups.Cell v) declared = subst (λ m. v < m) (sym laid.cells) declared
  group_counted groups.Face declared = has_faces declared
  group_counted groups.Edge declared = has_edges declared

  -- the leaves hold the mesh's field
  pub field_held : (group : Group) → IsGroup names group → LeavesHoldOf w group (field_of now group)
  field_held (groups.Cell v) declared = of_now.contents v (subst (λ m. v < m) (sym laid.cells) declared)
  field_held groups.Face declared = of_now.on_faces (has_faces declared)
  field_held groups.Edge declared = of_now.on_edges (has_edges declared)

  pub edges_now : 0 < w.told.counts.edges → LeavesHoldEdges false w (edges_of w)
  edges_now some = laid.on_edges some
