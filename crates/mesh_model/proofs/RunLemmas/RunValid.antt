-- Each command that is not refused keeps a mesh valid.
use Rattle.std.proofs.Common.{◌≡◌, ℕ, ◌^◌, ◌<◌, ◌==◌, Bool, true, false, not, ◌&&◌, ◌||◌, nat_lt, if◌then◌else◌, length, Option, Some, None, IsSome, ℤ, pos, refl, sym, ap, subst, ◌∙◌, arith, inl, inr, eqb-true, ne_eqb}
use Rattle.std.proofs.lemmas.Bool.{cases_Bool, and_parts, or_cases, ltb-true, leb-true}
use Rattle.std.specs.Option.{option_or, option_map}
use Rattle.amr_num.specs.Numbers.{Within}
use Rattle.amr_num.specs.declared.Axis.{Axis}
use Rattle.amr_num.specs.declared.Axis.TheVariants.{X, Y, Z}
use Rattle.amr_num.specs.declared.BlockAt.{BlockAt}
use Rattle.amr_num.specs.declared.CellAt.{CellAt}
use Rattle.amr_num.specs.declared.EdgeAt.{EdgeAt}
use Rattle.amr_num.specs.declared.FaceAt.{FaceAt}
use Rattle.mesh_model.proofs.GeometryLemmas.OnAxes.{with_same, same_block}
use Rattle.mesh_model.specs.declared.geometry.Shape.{Shape}
use Rattle.mesh_model.specs.declared.language.script.Command.{Command}
use Rattle.mesh_model.specs.declared.language.script.Command.TheVariants.{FillAll, FillBox, FaceSet, EdgeSet, Uniform, MarkRefine, MarkDerefine, RefineWhere, DerefineWhere, Regrid, Advect, Curl, Induct, Checkpoint, PrintSize, PrintMesh, PrintTree, PrintRanks, PrintTrace, PrintVar, PrintGuards, Total, NetFlux}
use Rattle.mesh_model.specs.declared.fields.spot.RangeStop.{RangeStop}
use Rattle.mesh_model.specs.declared.run.stops.Refusal.{Refusal}
use Rattle.mesh_model.specs.declared.run.stops.Refusal.TheVariants as refusals
use Rattle.mesh_model.specs.Fields.Advect.{Speeds, advect, three}
use Rattle.mesh_model.specs.Fields.Circulation.{circulation}
use Rattle.mesh_model.specs.Language.Commands.{IsCommandOf, IsLeafNumber}
use Rattle.mesh_model.specs.Geometry.Coordinates.{axis_index, edge_numbers, edge_of, extent, face_numbers, face_of, is_periodic, next, on, wrapped, is_same_cell, is_same_edge, is_same_face}
use Rattle.mesh_model.specs.Fields.Fill.{is_in_box, with_cells}
use Rattle.mesh_model.specs.Fields.Induct.{with_faces}
use Rattle.mesh_model.specs.Geometry.Limits.{IsShape}
use Rattle.mesh_model.specs.Tree.Kinds.{Grid, is_leaf, is_leaf_block, is_leaf_edge, is_leaf_face}
use Rattle.mesh_model.specs.Fields.Plain.{marked, Mesh, on_cells, on_faces}
use Rattle.mesh_model.specs.Geometry.Canonical.{is_canonical, is_canonical_at, is_canonical_edge, canonical_edge, canonical_face, canonical_on}
use Rattle.mesh_model.specs.Fields.RangeWalk.{first_excess}
use Rattle.mesh_model.specs.Tree.Regrown.{new_grid}
use Rattle.mesh_model.specs.Fields.Regrid.{regrid}
use Rattle.mesh_model.specs.Run.Runs.{declared_in, mesh_after}
use Rattle.mesh_model.specs.Fields.Setting.{derefine_where, mark_derefine, mark_refine, refine_where, set_edge, set_face, with_marks}
use Rattle.mesh_model.specs.Geometry.Blocks.{is_same_block}
use Rattle.mesh_model.specs.Run.Stops.{nodes_of, or_else, range_of, refusal}
use Rattle.mesh_model.specs.Tree.ValidGrid.{FewNodes}
use Rattle.mesh_model.specs.Fields.Valid.{InRange, OfDeclared, OnLeaves, ValidMesh}
use Rattle.mesh_model.specs.Fields.Views.{edge_view}
use Rattle.mesh_model.proofs.FieldLemmas.FieldsKept.{advect_on_leaves, faces_on_leaves, regrid_on_leaves}
use Rattle.mesh_model.proofs.FieldLemmas.KeptValid.{advect_declared, advect_valid, faces_declared, faces_valid, regrid_declared, regrid_valid}
use Rattle.mesh_model.proofs.FieldLemmas.LeafSums.{off_leaf}
use Rattle.mesh_model.proofs.GeometryLemmas.ShapeLimits.{cells_some}
use Rattle.mesh_model.proofs.FieldLemmas.Walking.{contents_in_range, edges_in_range, faces_in_range, outs_in_range, or_none}

-- ---- no reason to refuse

pub held : (holds : Bool) (why : Refusal) → or_else holds why ≡ None → holds ≡ true
held true why h = refl
held false why h = absurd (cc)

no_excess : (stop : Option RangeStop) → option_map refusals.Range stop ≡ None → stop ≡ None
no_excess None h = refl
no_excess (Some x) h = absurd (cc)

-- where no number is out of range, all are in range
in_range : (m : Mesh) → IsShape m.grid.shape → OnLeaves m → OfDeclared m → range_of m ≡ None → InRange m
in_range m shape on declared h =
    let none = no_excess (first_excess m) h in
    record {
      cells = contents_in_range m (cells_some shape) on declared none;
      outs = outs_in_range m declared none;
      faces = faces_in_range m shape on none;
      edges = edges_in_range m shape on none;
    }

-- ---- contents

within_on : (g : Grid) (f : CellAt → ℤ) (c : CellAt) → Within (2 ^ 40) (f c) → Within (2 ^ 40) (on_cells g f c)
within_on g f c h = elim (cases_Bool (is_leaf g c)) [
  | inl t ↦ rw t h
  | inr n ↦ rw n (omega arith)
]

-- other contents of one variable, on leaf cells and in range
cells_valid : (m : Mesh) (var : ℕ) (f : CellAt → ℤ) → ValidMesh m → var < length m.names.cells → ((c : CellAt) → Within (2 ^ 40) (f c)) → ValidMesh (with_cells m var (on_cells m.grid f))
cells_valid m var f valid there small = record {
  grid = valid.grid;
  order = valid.order;
  nodes = valid.nodes;
  numbers = record {
    cells = λ v c off. elim (cases_Bool (v == var)) [ inl t ↦ rw t (off_leaf m.grid f c off) | inr n ↦ rw n (valid.numbers.cells v c off) ];
    faces = valid.numbers.faces;
    edges = valid.numbers.edges;
  };
  declared = record {
    few = valid.declared.few;
    cells = λ v h c. rw (ne_eqb v var (λ e. absurd (omega arith))) (valid.declared.cells v h c);
    outs = valid.declared.outs;
    faces = valid.declared.faces;
    edges = valid.declared.edges;
  };
  range = record {
    cells = λ v c. elim (cases_Bool (v == var)) [ inl t ↦ rw t (within_on m.grid f c (small c)) | inr n ↦ rw n (valid.range.cells v c) ];
    outs = valid.range.outs;
    faces = valid.range.faces;
    edges = valid.range.edges;
  };
  marks = record { refine = valid.marks.refine; derefine = valid.marks.derefine };
}

in_box_within : (inside : Bool) (value old : ℤ) → Within (2 ^ 40) value → Within (2 ^ 40) old → Within (2 ^ 40) (if inside then value else old)
in_box_within true value old h k = h
in_box_within false value old h k = k

-- ---- single faces and edges

same_axis : (a b : Axis) → (axis_index a == axis_index b) ≡ true → a ≡ b
same_axis X X h = refl
same_axis X Y h = absurd (cc)
same_axis X Z h = absurd (cc)
same_axis Y X h = absurd (cc)
same_axis Y Y h = refl
same_axis Y Z h = absurd (cc)
same_axis Z X h = absurd (cc)
same_axis Z Y h = absurd (cc)
same_axis Z Z h = refl

pub same_cell : (c d : CellAt) → is_same_cell c d ≡ true → c ≡ d
same_cell c d h =
    let with_z = and_parts ((c.level == d.level) && (c.x == d.x) && (c.y == d.y)) (c.z == d.z) h in
    let with_y = and_parts ((c.level == d.level) && (c.x == d.x)) (c.y == d.y) with_z.0 in
    let with_x = and_parts (c.level == d.level) (c.x == d.x) with_y.0 in
    λ i. record { level = eqb-true c.level d.level with_x.0 i; x = eqb-true c.x d.x with_x.1 i; y = eqb-true c.y d.y with_y.1 i; z = eqb-true c.z d.z with_z.1 i }

pub same_face : (f h : FaceAt) → is_same_face f h ≡ true → f ≡ h
same_face f h t =
    let both = and_parts _ _ t in
    let a = same_axis f.axis h.axis both.0 in
    let n = same_cell (face_numbers f) (face_numbers h) both.1 in
    λ i. record { axis = a i; level = (n i).level; x = (n i).x; y = (n i).y; z = (n i).z }

pub same_edge : (e h : EdgeAt) → is_same_edge e h ≡ true → e ≡ h
same_edge e h t =
    let both = and_parts _ _ t in
    let a = same_axis e.axis h.axis both.0 in
    let n = same_cell (edge_numbers e) (edge_numbers h) both.1 in
    λ i. record { axis = a i; level = (n i).level; x = (n i).x; y = (n i).y; z = (n i).z }

-- a canonical position is its own name
own_place : (s : Shape) (a : Axis) (l p : ℕ) → is_canonical_at s a l p ≡ true → wrapped (is_periodic s a) (extent s a l) p ≡ p
unfolding is_canonical_at wrapped
own_place s a l p h = by_kind (is_periodic s a) h
  where
    by_kind : (periodic : Bool) → (not periodic || nat_lt p (extent s a l)) ≡ true → (if periodic && (p == extent s a l) then 0 else p) ≡ p
    by_kind false h = refl
    by_kind true h = let below = ltb-true p (extent s a l) h in rw (ne_eqb p (extent s a l) (λ e. absurd (omega (arith, e, below)))) refl

pub own_name : (s : Shape) (a : Axis) (c : CellAt) → is_canonical_at s a c.level (on a c) ≡ true → canonical_on s a c ≡ c
own_name s a c h = with_same a _ c (own_place s a c.level (on a c) h)

pub face_as_is : (s : Shape) (f : FaceAt) → is_canonical s f ≡ true → canonical_face s f ≡ f
face_as_is s f h = ap (face_of f.axis) (own_name s f.axis (face_numbers f) h)

pub edge_as_is : (s : Shape) (e : EdgeAt) → is_canonical_edge s e ≡ true → canonical_edge s e ≡ e
edge_as_is s e h =
    let both = and_parts _ _ h in
    let b = next e.axis in
    let inner = own_name s (next b) (edge_numbers e) both.1 in
    ap (edge_of e.axis) (ap (canonical_on s b) inner ∙ own_name s b (edge_numbers e) both.0)

-- ---- one number set

set_or_old : (here : Bool) (value old : ℤ) → here ≡ false → old ≡ pos 0 → (if here then value else old) ≡ pos 0
set_or_old true value old h k = absurd (cc)
set_or_old false value old h k = k

set_face_valid : (m : Mesh) (at : FaceAt) (value : ℤ) → ValidMesh m → IsSome m.names.face → (is_canonical m.grid.shape at && is_leaf_face m.grid at) ≡ true → IsLeafNumber value → ValidMesh (set_face m at value)
unfolding set_face
set_face_valid m at value valid there here small = record {
  grid = valid.grid;
  order = valid.order;
  nodes = valid.nodes;
  numbers = record {
    cells = valid.numbers.cells;
    faces = λ f off. set_or_old (is_same_face f (canonical_face m.grid.shape at)) value (m.faces f) (other f off) (valid.numbers.faces f off);
    edges = valid.numbers.edges;
  };
  declared = record {
    few = valid.declared.few;
    cells = valid.declared.cells;
    outs = valid.declared.outs;
    faces = λ none f. absurd (some_not m.names.face there none);
    edges = valid.declared.edges;
  };
  range = record {
    cells = valid.range.cells;
    outs = valid.range.outs;
    faces = λ f. in_box_within (is_same_face f (canonical_face m.grid.shape at)) value (m.faces f) small (valid.range.faces f);
    edges = valid.range.edges;
  };
  marks = record { refine = valid.marks.refine; derefine = valid.marks.derefine };
}
  where
    some_not : {A : Type 0} (o : Option A) → IsSome o → o ≡ None → ⊥
    some_not None t h = cc
    some_not (Some x) t h = cc

    other : (f : FaceAt) → (is_canonical m.grid.shape f && is_leaf_face m.grid f) ≡ false → is_same_face f (canonical_face m.grid.shape at) ≡ false
    other f off = elim (cases_Bool (is_same_face f (canonical_face m.grid.shape at))) [
      | inl t ↦
          let same : f ≡ at = same_face f (canonical_face m.grid.shape at) t ∙ face_as_is m.grid.shape at (and_parts _ _ here).0 in
          let on : (is_canonical m.grid.shape f && is_leaf_face m.grid f) ≡ true = subst (λ h. (is_canonical m.grid.shape h && is_leaf_face m.grid h) ≡ true) (sym same) here in
          absurd (cc)
      | inr n ↦ n
    ]

set_edge_valid : (m : Mesh) (at : EdgeAt) (value : ℤ) → ValidMesh m → IsSome m.names.edge → (is_canonical_edge m.grid.shape at && is_leaf_edge m.grid at) ≡ true → IsLeafNumber value → ValidMesh (set_edge m at value)
unfolding set_edge
set_edge_valid m at value valid there here small = record {
  grid = valid.grid;
  order = valid.order;
  nodes = valid.nodes;
  numbers = record {
    cells = valid.numbers.cells;
    faces = valid.numbers.faces;
    edges = λ e off. set_or_old (is_same_edge e (canonical_edge m.grid.shape at)) value (m.edges e) (other e off) (valid.numbers.edges e off);
  };
  declared = record {
    few = valid.declared.few;
    cells = valid.declared.cells;
    outs = valid.declared.outs;
    faces = valid.declared.faces;
    edges = λ none e. absurd (some_not m.names.edge there none);
  };
  range = record {
    cells = valid.range.cells;
    outs = valid.range.outs;
    faces = valid.range.faces;
    edges = λ e. in_box_within (is_same_edge e (canonical_edge m.grid.shape at)) value (m.edges e) small (valid.range.edges e);
  };
  marks = record { refine = valid.marks.refine; derefine = valid.marks.derefine };
}
  where
    some_not : {A : Type 0} (o : Option A) → IsSome o → o ≡ None → ⊥
    some_not None t h = cc
    some_not (Some x) t h = cc

    other : (e : EdgeAt) → (is_canonical_edge m.grid.shape e && is_leaf_edge m.grid e) ≡ false → is_same_edge e (canonical_edge m.grid.shape at) ≡ false
    other e off = elim (cases_Bool (is_same_edge e (canonical_edge m.grid.shape at))) [
      | inl t ↦
          let same : e ≡ at = same_edge e (canonical_edge m.grid.shape at) t ∙ edge_as_is m.grid.shape at (and_parts _ _ here).0 in
          let on : (is_canonical_edge m.grid.shape e && is_leaf_edge m.grid e) ≡ true = subst (λ h. (is_canonical_edge m.grid.shape h && is_leaf_edge m.grid h) ≡ true) (sym same) here in
          absurd (cc)
      | inr n ↦ n
    ]

-- ---- marks

marks_valid : (m : Mesh) (refine derefine : BlockAt → Bool) → ValidMesh m →
    ((b : BlockAt) → refine b ≡ true → (is_leaf_block m.grid b ≡ true) × (b.level < m.grid.shape.max)) →
    ((b : BlockAt) → derefine b ≡ true → (is_leaf_block m.grid b ≡ true) × (m.grid.shape.min < b.level)) → ValidMesh (with_marks m refine derefine)
marks_valid m refine derefine valid refines derefines = record {
  grid = valid.grid;
  order = valid.order;
  nodes = valid.nodes;
  numbers = record { cells = valid.numbers.cells; faces = valid.numbers.faces; edges = valid.numbers.edges };
  declared = record { few = valid.declared.few; cells = valid.declared.cells; outs = valid.declared.outs; faces = valid.declared.faces; edges = valid.declared.edges };
  range = record { cells = valid.range.cells; outs = valid.range.outs; faces = valid.range.faces; edges = valid.range.edges };
  marks = record { refine = refines; derefine = derefines };
}

-- a mark on one more leaf, which is at
one_more : (P : BlockAt → Type 0) (old : BlockAt → Bool) (at : BlockAt) → P at → ((b : BlockAt) → old b ≡ true → P b) → (b : BlockAt) → (is_same_block b at || old b) ≡ true → P b
one_more P old at here rest b h = elim (or_cases (is_same_block b at) (old b) h) [
  | inl t ↦ subst P (sym (same_block b at t)) here
  | inr t ↦ rest b t
]

-- marks on more leaves
some_more : (P : BlockAt → Type 0) (found old : BlockAt → Bool) → ((b : BlockAt) → found b ≡ true → P b) → ((b : BlockAt) → old b ≡ true → P b) → (b : BlockAt) → (found b || old b) ≡ true → P b
some_more P found old new rest b h = elim (or_cases (found b) (old b) h) [ inl t ↦ new b t | inr t ↦ rest b t ]

mark_refine_valid : (m : Mesh) (at : BlockAt) → ValidMesh m → is_leaf_block m.grid at ≡ true → nat_lt at.level m.grid.shape.max ≡ true → ValidMesh (mark_refine m at)
unfolding mark_refine
mark_refine_valid m at valid leaf low = marks_valid m _ _ valid (one_more (λ b. (is_leaf_block m.grid b ≡ true) × (b.level < m.grid.shape.max)) m.refine at (leaf, ltb-true _ _ low) valid.marks.refine) valid.marks.derefine

mark_derefine_valid : (m : Mesh) (at : BlockAt) → ValidMesh m → is_leaf_block m.grid at ≡ true → nat_lt m.grid.shape.min at.level ≡ true → ValidMesh (mark_derefine m at)
unfolding mark_derefine
mark_derefine_valid m at valid leaf low = marks_valid m _ _ valid valid.marks.refine (one_more (λ b. (is_leaf_block m.grid b ≡ true) × (m.grid.shape.min < b.level)) m.derefine at (leaf, ltb-true _ _ low) valid.marks.derefine)

refine_where_valid : (m : Mesh) (var : ℕ) (above : ℤ) → ValidMesh m → ValidMesh (refine_where m var above)
unfolding refine_where
refine_where_valid m var above valid = marks_valid m _ _ valid (some_more (λ b. (is_leaf_block m.grid b ≡ true) × (b.level < m.grid.shape.max)) _ m.refine (λ b h. let parts = and_parts _ _ (and_parts _ _ h).0 in (parts.0, ltb-true _ _ parts.1)) valid.marks.refine) valid.marks.derefine

derefine_where_valid : (m : Mesh) (var : ℕ) (below : ℤ) → ValidMesh m → ValidMesh (derefine_where m var below)
unfolding derefine_where
derefine_where_valid m var below valid = marks_valid m _ _ valid valid.marks.refine (some_more (λ b. (is_leaf_block m.grid b ≡ true) × (m.grid.shape.min < b.level)) _ m.derefine (λ b h. let parts = and_parts _ _ (and_parts _ _ h).0 in (parts.0, ltb-true _ _ parts.1)) valid.marks.derefine)

-- ---- steps

faces_after : (m : Mesh) (k : FaceAt → ℤ) → ValidMesh m → IsSome m.names.face → range_of (with_faces m (on_faces m.grid k)) ≡ None → ValidMesh (with_faces m (on_faces m.grid k))
faces_after m k valid there none = faces_valid m k valid there (in_range (with_faces m (on_faces m.grid k)) valid.grid.shape (faces_on_leaves m k valid.numbers) (faces_declared m k valid there) none)

advect_after : (m : Mesh) (var : ℕ) (n : Speeds) → ValidMesh m → var < length m.names.cells → range_of (advect m var n) ≡ None → ValidMesh (advect m var n)
advect_after m var n valid there none = advect_valid m var n valid there (in_range (advect m var n) valid.grid.shape (advect_on_leaves m var n valid.numbers) (advect_declared m var n valid there) none)

few_after : (m : Mesh) → nodes_of m ≡ None → FewNodes (new_grid (marked m))
few_after m h = leb-true _ _ (held _ _ h)

regrid_after : (m : Mesh) → ValidMesh m → nodes_of m ≡ None → range_of (regrid m) ≡ None → ValidMesh (regrid m)
regrid_after m valid few none = regrid_valid m valid (few_after m few) (in_range (regrid m) valid.grid.shape (regrid_on_leaves m) (regrid_declared m valid) none)

-- ---- all commands

pub keeps_validity : (m : Mesh) (command : Command) → ValidMesh m → IsCommandOf (declared_in m) command → refusal m command ≡ None → ValidMesh (mesh_after m command)
unfolding refusal
keeps_validity m (FillAll var value) valid fits none = cells_valid m var (λ c. value) valid fits.0 (λ c. fits.1)
keeps_validity m (FillBox var level low high value) valid fits none = cells_valid m var _ valid fits.0 (λ c. in_box_within (is_in_box level low high c) value (m.cells var c) fits.2 (valid.range.cells var c))
keeps_validity m (FaceSet at value) valid fits none = set_face_valid m at value valid fits.0 (held _ _ none) fits.2
keeps_validity m (EdgeSet at value) valid fits none = set_edge_valid m at value valid fits.0 (held _ _ none) fits.2
keeps_validity m (Uniform b) valid fits none = faces_after m _ valid fits.0 none
keeps_validity m (MarkRefine at) valid fits none = let parts = or_none _ _ none in mark_refine_valid m at valid (held _ _ parts.0) (held _ _ parts.1)
keeps_validity m (MarkDerefine at) valid fits none = let parts = or_none _ _ none in mark_derefine_valid m at valid (held _ _ parts.0) (held _ _ parts.1)
keeps_validity m (RefineWhere var above) valid fits none = refine_where_valid m var above valid
keeps_validity m (DerefineWhere var below) valid fits none = derefine_where_valid m var below valid
keeps_validity m Regrid valid fits none = let parts = or_none _ _ none in regrid_after m valid parts.0 parts.1
keeps_validity m (Advect var speeds) valid fits none = advect_after m var (three speeds) valid fits.0 (or_none _ _ none).1
keeps_validity m Curl valid fits none = faces_after m (circulation m.grid (edge_view m.grid m.edges)) valid fits.0 none
keeps_validity m (Induct speeds) valid fits none = faces_after m _ valid fits.0 (or_none _ _ none).1
keeps_validity m Checkpoint valid fits none = valid
keeps_validity m PrintSize valid fits none = valid
keeps_validity m PrintMesh valid fits none = valid
keeps_validity m PrintTree valid fits none = valid
keeps_validity m PrintRanks valid fits none = valid
keeps_validity m PrintTrace valid fits none = valid
keeps_validity m (PrintVar group) valid fits none = valid
keeps_validity m (PrintGuards group at) valid fits none = valid
keeps_validity m (Total var) valid fits none = valid
keeps_validity m NetFlux valid fits none = valid

-- and what is declared
pub same_declared : (m : Mesh) (command : Command) → declared_in (mesh_after m command) ≡ declared_in m
unfolding set_face set_edge mark_refine mark_derefine refine_where derefine_where
same_declared m (FillAll var value) = refl
same_declared m (FillBox var level low high value) = refl
same_declared m (FaceSet at value) = refl
same_declared m (EdgeSet at value) = refl
same_declared m (Uniform b) = refl
same_declared m (MarkRefine at) = refl
same_declared m (MarkDerefine at) = refl
same_declared m (RefineWhere var above) = refl
same_declared m (DerefineWhere var below) = refl
same_declared m Regrid = refl
same_declared m (Advect var speeds) = refl
same_declared m Curl = refl
same_declared m (Induct speeds) = refl
same_declared m Checkpoint = refl
same_declared m PrintSize = refl
same_declared m PrintMesh = refl
same_declared m PrintTree = refl
same_declared m PrintRanks = refl
same_declared m PrintTrace = refl
same_declared m (PrintVar group) = refl
same_declared m (PrintGuards group at) = refl
same_declared m (Total var) = refl
same_declared m NetFlux = refl
