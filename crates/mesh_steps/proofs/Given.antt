-- What a step gives to the faces of a leaf, in its work faces.
use Rattle.std.proofs.Common.{Bool, List, None, Option, Some, ap, ap₂, false, inl, inr, refl, subst, sym, true, ℕ, ℤ, ◌&&◌, ◌+◌, ◌-ℤ◌, ◌<◌, ◌^◌, ◌∙◌, ◌≡◌, ◌≤◌}
use Rattle.std.specs.Prelude.{if◌then◌else◌}
use Rattle.std.specs.Option.{option_map}
use Rattle.std.proofs.lemmas.Bool.{cases_Bool}
use Rattle.amr_num.specs.declared.Axis.{Axis}
use Rattle.amr_num.specs.declared.Axis.TheVariants.{X, Y, Z}
use Rattle.amr_num.specs.declared.BlockAt.{BlockAt}
use Rattle.amr_num.specs.declared.EdgeAt.{EdgeAt}
use Rattle.amr_num.specs.declared.FaceAt.{FaceAt}
use Rattle.mesh_model.specs.Fields.ArrayPlaces.{HoldsEdgeField, HoldsFaceField, face_extents, number_at}
use Rattle.mesh_model.specs.Fields.FinePlaces.{edges_in, faces_in}
use Rattle.mesh_model.specs.Fields.Circulation.{circulation}
use Rattle.mesh_model.specs.Fields.RangeWalk.{is_above}
use Rattle.mesh_model.specs.Fields.Ranks.{IsFit, Told, WorldState}
use Rattle.mesh_model.specs.Fields.Views.{edge_view, face_view}
use Rattle.mesh_model.specs.Geometry.Blocks.{InDomain}
use Rattle.mesh_model.specs.Geometry.Canonical.{canonical_on, is_canonical}
use Rattle.mesh_model.specs.Geometry.Coordinates.{extent, face_of, sub_face}
use Rattle.mesh_model.specs.Geometry.Places.{in_block, longer_on}
use Rattle.mesh_model.specs.Tree.Kinds.{Grid, is_leaf_block, is_leaf_face}
use Rattle.mesh_model.specs.Tree.ValidGrid.{Valid}
use Rattle.mesh_model.proofs.FieldLemmas.CellKinds.{Kinds, kinds_of_tiles, wide_of}
use Rattle.mesh_model.proofs.FieldLemmas.Divergence.{on_leaf_face}
use Rattle.mesh_model.proofs.FieldLemmas.FirstFound.{places_same}
use Rattle.mesh_model.proofs.FieldLemmas.LeafEdges.{circulation_adds}
use Rattle.mesh_model.proofs.FieldLemmas.LeafFaces.{Seen, face_adds, view_is, view_of_leaf_face}
use Rattle.block_store.specs.Above.{first_in_faces}
use Rattle.block_store.specs.declared.above.Above.{Above}
use Rattle.block_store.specs.declared.above.CountedFaces.{CountedFaces}
use Rattle.block_tree.specs.Numbered.{block_at}
use Rattle.rank_world.specs.FaceRange.{CountLeafFaces, HasAxis, axis_above, face_above_at, told_face}
use Rattle.rank_world.specs.Holding.{IsLeafNode, face_array, stored}
use Rattle.rank_world.specs.declared.faces.FaceAbove.{FaceAbove}
use Rattle.rank_world.proofs.FaceBlocks.{leaf_face_seen}
use Rattle.rank_world.proofs.FaceRange.{at_most, axis_found}
use Rattle.rank_world.proofs.Found.{face_inside}
use Rattle.step_induct.specs.Circling.{counted, faces_of, first_above, told_above}
use Rattle.step_induct.specs.declared.circling.RangeAt.{RangeAt}
use Rattle.step_induct.proofs.Held.{circulations_held, found_same, found_told}
use Rattle.step_induct.proofs.Left.{lessened_held}
use Rattle.mesh_steps.specs.Circulations.{IsGiven, NodeShows, edge_arrays, given, numbers_given, stepped}
use Rattle.mesh_steps.specs.declared.circulations.Step.{Step}
use Rattle.mesh_steps.specs.declared.circulations.Step.TheVariants.{Curl, Induct}
use Rattle.amr_num.specs.Numbers.{sum_below}
use Rattle.mesh_model.proofs.FieldLemmas.Sums.{sum_below_sub}

-- ---- what a step gives, and the face variable after it

module _ (g : Grid) (valid : Valid g) (faces : FaceAt → ℤ) (edges : EdgeAt → ℤ) where
  kinds : Kinds g
  kinds = kinds_of_tiles g valid.tiles valid.shape

  wide : (a : Axis) (l : ℕ) → 0 < extent g.shape a l
  wide = wide_of g.shape valid.shape

  -- on leaf faces they are the same
  on_leaf : (step : Step) (f : FaceAt) → is_canonical g.shape f ≡ true → is_leaf_face g f ≡ true → stepped step g faces edges f ≡ given step g faces edges f
  on_leaf Curl f canonical leaf = on_leaf_face g (circulation g (edge_view g edges)) f canonical leaf
  on_leaf Induct f canonical leaf =
      on_leaf_face g (λ x. faces x -ℤ circulation g (edge_view g edges) x) f canonical leaf
      ∙ ap (λ u. u -ℤ circulation g (edge_view g edges) f) (sym (view_of_leaf_face g kinds valid.shape wide faces f leaf))

  given_adds : (step : Step) (f : FaceAt) → given step g faces edges f ≡ sum_below 4 (λ q. given step g faces edges (sub_face f q))
  given_adds Curl f = circulation_adds g kinds valid.shape wide edges f
  given_adds Induct f =
      ap₂ (λ u v. u -ℤ v) (face_adds g kinds valid.shape wide faces f) (circulation_adds g kinds valid.shape wide edges f)
      ∙ sym (sum_below_sub 4 (λ q. face_view g faces (sub_face f q)) (λ q. circulation g (edge_view g edges) (sub_face f q)))

  -- so on the faces of leaves the face variable is seen as what the step gives
  pub stepped_seen : (step : Step) (f : FaceAt) → Seen g f → face_view g (stepped step g faces edges) f ≡ given step g faces edges f
  stepped_seen step f seen = view_is g kinds valid.shape wide (stepped step g faces edges) (given step g faces edges) (on_leaf step) (λ h s. given_adds step h) f seen

  module _ (step : Step) where
    abbrev gives : FaceAt → ℤ
    gives = given step g faces edges

    abbrev after_it : FaceAt → ℤ
    after_it = stepped step g faces edges

    -- and the first leaf face out of range is the same
    same_told : (f : FaceAt) → is_canonical g.shape f ≡ true → face_above_at g gives f ≡ face_above_at g after_it f
    same_told f canonical = elim (cases_Bool (is_leaf_face g f)) [
      | inl leaf ↦ ap (λ (v : ℤ). if is_leaf_face g f && is_above (2 ^ 40) v then Some (record { face = f; value = v }) else None) (sym (on_leaf step f canonical leaf))
      | inr none ↦ ap (λ t. if t && is_above (2 ^ 40) (gives f) then Some (record { face = f; value = gives f }) else None) none
          ∙ sym (ap (λ t. if t && is_above (2 ^ 40) (after_it f) then Some (record { face = f; value = after_it f }) else None) none)
    ]

    pub axis_stepped : (b : BlockAt) (a : Axis) → is_leaf_block g b ≡ true → axis_above g gives b a ≡ axis_above g after_it b a
    axis_stepped b a leaf = places_same (longer_on a X g.shape.n) (longer_on a Y g.shape.n) (longer_on a Z g.shape.n)
        (λ i j k. face_above_at g gives (face_of a (canonical_on g.shape a (in_block g.shape.n b i j k))))
        (λ i j k. face_above_at g after_it (face_of a (canonical_on g.shape a (in_block g.shape.n b i j k))))
        (λ i j k hi hj hk. same_told (face_of a (canonical_on g.shape a (in_block g.shape.n b i j k))) (leaf_face_seen g valid a b leaf i j k hi hj hk).canonical)

-- ---- one axis of a leaf

mapped_none : {A B : Type 0} (f : A → B) (o : Option A) → option_map f o ≡ None → o ≡ None
mapped_none f None is = refl
mapped_none f (Some x) is = absurd cc

mapped_some : {A B : Type 0} (f : A → B) (o : Option A) (y : B) → option_map f o ≡ Some y → (x : A) × (o ≡ Some x) × (f x ≡ y)
mapped_some f None y is = absurd cc
mapped_some f (Some x) y is = (x, refl, cc)

module _ (step : Step) (n e : ℕ) (w new : WorldState) (node : ℕ) (a : Axis) (fit : IsFit n e w) (valid : Valid w.told.grid) (leaf : IsLeafNode w.told.grid node)
    (inside : InDomain w.told.grid.shape (block_at w.told.grid node)) (told : new.told ≡ w.told) (given_is : IsGiven step n e w new node a) (faces : FaceAt → ℤ) (edges : EdgeAt → ℤ) (shows : NodeShows step w faces edges node)
  where
    abbrev g : Grid
    g = w.told.grid

    abbrev b : BlockAt
    b = block_at g node

    abbrev old_array : List ℤ
    old_array = stored true w a node

    abbrev new_array : List ℤ
    new_array = stored true new a node

    held : (c : Axis) → HoldsEdgeField g (edge_view g edges) c b (edges_in g c (edge_arrays step w node c))
    held X = shows.on_edges X
    held Y = shows.on_edges Y
    held Z = shows.on_edges Z

    in_shape : IsGiven step g.shape.n g.shape.g w new node a
    in_shape = subst (λ m. IsGiven step m g.shape.g w new node a) (sym fit.sizes.cells) (subst (λ m. IsGiven step n m w new node a) (sym fit.sizes.guards) given_is)

    here : HoldsFaceField g (given step g faces edges) a b (faces_in g a new_array)
    here = by_step step held shows in_shape
      where
        by_step : (s : Step) → ((c : Axis) → HoldsEdgeField g (edge_view g edges) c b (edges_in g c (edge_arrays s w node c))) → NodeShows s w faces edges node → IsGiven s g.shape.n g.shape.g w new node a →
            HoldsFaceField g (given s g faces edges) a b (faces_in g a new_array)
        by_step Curl holds shown is = circulations_held g (edge_view g edges) a b (edge_arrays Curl w node) old_array new_array valid inside is holds
        by_step Induct holds shown is = lessened_held g faces (edge_view g edges) a b (face_array w a node) (edge_arrays Induct w node) old_array new_array valid inside is (shown.on_faces refl a) holds

    pub has_given : HasAxis true new (given step g faces edges) node a
    has_given = subst (λ (t : Told). HoldsFaceField t.grid (given step g faces edges) a (block_at t.grid node) (faces_in t.grid a new_array)) (sym told) here

    module _ (new_fit : IsFit n e new) (sides : List Bool) (counts : CountLeafFaces g b (counted a sides)) where
      abbrev found : Option Above
      found = first_in_faces (λ x y z. number_at (face_extents n e a) new_array (e + x) (e + y) (e + z)) n (counted a sides)

      given_found : first_above n a sides (numbers_given step n e w node a) ≡ option_map (told_above a) found
      given_found =
          sym (found_same n a sides (faces_of n e a new_array) (numbers_given step n e w node a) given_is.written)
          ∙ found_told n e a sides new_array found (counted a sides) refl refl

      axis_is : option_map (told_face g.shape b a) found ≡ axis_above g (stepped step g faces edges) b a
      axis_is =
          subst (λ (t : Told). option_map (told_face t.grid.shape (block_at t.grid node) a) found ≡ axis_above t.grid (given step g faces edges) (block_at t.grid node) a) told
          (axis_found true n e new a node new_fit (subst (λ (t : Told). Valid t.grid) (sym told) valid) (subst (λ (t : Told). IsLeafNode t.grid node) (sym told) leaf)
          (subst (λ (t : Told). InDomain t.grid.shape (block_at t.grid node)) (sym told) inside) (counted a sides) refl (subst (λ (t : Told). CountLeafFaces t.grid (block_at t.grid node) (counted a sides)) (sym told) counts)
          new_array refl (given step g faces edges) has_given found refl)
          ∙ axis_stepped g valid faces edges step b a leaf.leaf

      pub none_above : first_above n a sides (numbers_given step n e w node a) ≡ None → axis_above g (stepped step g faces edges) b a ≡ None
      none_above none = sym axis_is ∙ ap (option_map (told_face g.shape b a)) (mapped_none (told_above a) found (sym given_found ∙ none))

      pub some_above : (at : RangeAt) → first_above n a sides (numbers_given step n e w node a) ≡ Some at →
          axis_above g (stepped step g faces edges) b a ≡ Some (told_face g.shape b at.axis (record { i = at.i; j = at.j; k = at.k; value = at.value }))
      some_above at some =
          let one = mapped_some (told_above a) found at (sym given_found ∙ some) in
          sym axis_is ∙ ap (option_map (told_face g.shape b a)) one.1
          ∙ ap (λ (r : RangeAt). Some (told_face g.shape b r.axis (record { i = r.i; j = r.j; k = r.k; value = r.value }))) one.2

-- what is told is told at a place of the block
pub told_inside : (n : ℕ) (a : Axis) (sides : List Bool) (faces : ℕ → ℕ → ℕ → ℤ) (at : RangeAt) → first_above n a sides faces ≡ Some at → (at.i ≤ n) × (at.j ≤ n) × (at.k ≤ n)
told_inside n a sides faces at some =
    let one = mapped_some (told_above a) (first_in_faces faces n (counted a sides)) at some in
    let there = face_inside faces n (counted a sides) one.0 one.1 in
    subst (λ (r : RangeAt). (r.i ≤ n) × (r.j ≤ n) × (r.k ≤ n)) one.2 (at_most a X n one.0.i there.0, at_most a Y n one.0.j there.1, at_most a Z n one.0.k there.2)

-- faces that count, by their axis
pub as_named : (g : Grid) (b : BlockAt) (f : CountedFaces) (a : Axis) → f.axis ≡ a → CountLeafFaces g b f → CountLeafFaces g b (record { axis = a; low = f.low; high = f.high })
as_named g b f a is counts = subst (CountLeafFaces g b) (λ i. record { axis = is i; low = f.low; high = f.high }) counts
