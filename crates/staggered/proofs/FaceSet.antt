-- A face that is set in each leaf that has it.
use Rattle.std.proofs.Common.{◌≡◌, ◌≢◌, ℕ, suc, ◌+◌, ◌-◌, ◌*◌, ◌%◌, ◌/◌, ◌<◌, ◌≤◌, ◌⊎◌, Bool, true, false, ◌&&◌, ◌==◌, List, [], ◌∷◌, length, set, ℤ, pos, Option, Some, None, refl, sym, ap, ap₂, subst, ◌∙◌, arith, inl, inr, eqb-true, eq-eqb, get_or}
use Rattle.std.specs.Prelude.{if◌then◌else◌}
use Rattle.std.proofs.lemmas.Bool.{and_parts, cases_Bool, cases_lt}
use Rattle.std.proofs.lemmas.List.{get_or-set_other, get_or-set_same}
use Rattle.amr_num.specs.declared.Axis.{Axis}
use Rattle.amr_num.specs.declared.Axis.TheVariants.{X, Y, Z}
use Rattle.amr_num.specs.declared.BlockAt.{BlockAt}
use Rattle.amr_num.specs.declared.CellAt.{CellAt}
use Rattle.amr_num.specs.declared.FaceAt.{FaceAt}
use Rattle.mesh_model.specs.declared.fields.values.Var.TheVariants.{Face}
use Rattle.mesh_model.specs.declared.geometry.Shape.{Shape}
use Rattle.mesh_model.specs.Fields.ArrayPlaces.{Extents, face_extents, place_in, size_of}
use Rattle.mesh_model.specs.Fields.FinePlaces.{faces_in}
use Rattle.mesh_model.specs.Fields.Ranks.{IsFit, OnlyOf, Told, WorldState}
use Rattle.mesh_model.specs.Geometry.Canonical.{canonical_on, is_canonical}
use Rattle.mesh_model.specs.Geometry.Coordinates.{Inside, above, after, axis_index, below, extent, face_numbers, face_of, high_cell, is_periodic, is_same_face, low_cell, moved, on, with}
use Rattle.mesh_model.specs.Geometry.Places.{in_block}
use Rattle.mesh_model.specs.Tree.Kinds.{Grid, block_of, holds, is_leaf, is_leaf_block, is_leaf_face}
use Rattle.mesh_model.specs.Tree.Order.{Sorted}
use Rattle.mesh_model.specs.Tree.ValidGrid.{Valid}
use Rattle.mesh_model.proofs.FieldLemmas.BlockOctants.{block_of_cell}
use Rattle.mesh_model.proofs.FieldLemmas.BlockPlaces.{digit, place_inside, same_x, same_y, same_z}
use Rattle.mesh_model.proofs.FieldLemmas.CellKinds.{wide_of}
use Rattle.mesh_model.proofs.FieldLemmas.LeafFaces.{high_here, low_here, view_of_leaf_face}
use Rattle.mesh_model.proofs.FieldLemmas.ValidGrid.{kinds, leaf_inside}
use Rattle.mesh_model.proofs.FieldLemmas.Worlds.{has_array}
use Rattle.mesh_model.proofs.GeometryLemmas.ShapeLimits.{cells_some}
use Rattle.mesh_model.proofs.TreeLemmas.Tests.{either_true}
use Rattle.block_tree.specs.Numbered.{IsNumberOf, block_at}
use Rattle.block_tree.specs.GridOf.{grid_of}
use Rattle.block_tree.specs.declared.tree.Tree.{Tree}
use Rattle.block_tree.proofs.Facts.{known}
use Rattle.block_store.specs.declared.regions.PlaceAt.{PlaceAt}
use Rattle.rank_world.specs.Contents.{node_of}
use Rattle.rank_world.specs.Holding.{IsLeafNode, LeafFacesHold, LeavesHoldFaces, face_array}
use Rattle.rank_world.proofs.Contents.{along, number_of_node}
use Rattle.rank_world.proofs.FaceContents.{after_is, canonical_inside, face_of_high, face_of_low}
use Rattle.staggered.specs.Setting.{IsBesideSet, IsFaceSet, IsPlace, IsSideSet, name_at, number_in, side_face, side_place, with_face}
use Rattle.staggered.proofs.UniformSet.{longer_side, same_axis}

pub and_false : (a b : Bool) → b ≡ false → (a && b) ≡ false
and_false true b h = h
and_false false b h = refl

-- ---- levels of leaf faces

module _ (g : Grid) (valid : Valid g) where
  beside_level : (a : Axis) (o : Option ℕ) (c : CellAt) → holds (is_leaf g) (moved a o c) ≡ true → c.level ≤ g.shape.max
  beside_level a None c h = cc
  beside_level X (Some p) c h = (kinds g valid).leaf_top (with X p c) h
  beside_level Y (Some p) c h = (kinds g valid).leaf_top (with Y p c) h
  beside_level Z (Some p) c h = (kinds g valid).leaf_top (with Z p c) h

  pub leaf_face_level : (f : FaceAt) → is_leaf_face g f ≡ true → f.level ≤ 10
  unfolding is_leaf_face
  leaf_face_level f h =
      let top = valid.shape.max in
      elim (either_true (holds (is_leaf g) (low_cell g.shape f)) (holds (is_leaf g) (high_cell g.shape f)) (and_parts _ _ h).0) [
        | inl l ↦ (let deep = beside_level f.axis (below (is_periodic g.shape f.axis) (extent g.shape f.axis f.level) (on f.axis (face_numbers f))) (face_numbers f) l in omega (arith, deep, top))
        | inr r ↦ (let deep = beside_level f.axis (above (is_periodic g.shape f.axis) (extent g.shape f.axis f.level) (on f.axis (face_numbers f))) (face_numbers f) r in omega (arith, deep, top))
      ]

-- ---- one number that is put

pub cases_axis : (x a : Axis) → (x ≡ a) ⊎ (x ≡ a → ⊥)
cases_axis X X = inl refl
cases_axis X Y = inr (λ is. cc)
cases_axis X Z = inr (λ is. cc)
cases_axis Y X = inr (λ is. cc)
cases_axis Y Y = inl refl
cases_axis Y Z = inr (λ is. cc)
cases_axis Z X = inr (λ is. cc)
cases_axis Z Y = inr (λ is. cc)
cases_axis Z Z = inl refl

pub side_in : (n : ℕ) (a : Axis) (high : Bool) (c : CellAt) → 0 < n → let p = side_place n a high c in IsPlace n a p.x p.y p.z
side_in n X false c some = record { x = omega (arith, some); y = omega (arith, some); z = omega (arith, some) }
side_in n X true c some = record { x = omega (arith, some); y = omega (arith, some); z = omega (arith, some) }
side_in n Y false c some = record { x = omega (arith, some); y = omega (arith, some); z = omega (arith, some) }
side_in n Y true c some = record { x = omega (arith, some); y = omega (arith, some); z = omega (arith, some) }
side_in n Z false c some = record { x = omega (arith, some); y = omega (arith, some); z = omega (arith, some) }
side_in n Z true c some = record { x = omega (arith, some); y = omega (arith, some); z = omega (arith, some) }

less_guards : (g i p : ℕ) → g + i ≡ g + p → i ≡ p
less_guards g i p is = omega (arith, is)

module _ (g : Grid) (old new : WorldState) (a : Axis) (high : Bool) (value : ℤ) (c : CellAt) (m : ℕ) (valid : Valid g) (order : Sorted g.leaves) (number : IsNumberOf g (block_of g.shape.n c) m)
    (others : (x : Axis) (node : ℕ) → (x ≡ a → node ≡ m → ⊥) → face_array new x node ≡ face_array old x node)
    (long : length (face_array old a m) ≡ size_of (face_extents g.shape.n g.shape.g a))
    (put : (let e = g.shape.g in let p = side_place g.shape.n a high c in face_array new a m ≡ set (face_array old a m) (place_in (face_extents g.shape.n e a) (e + p.x) (e + p.y) (e + p.z)) value)) where
  abbrev ext : Extents
  ext = face_extents g.shape.n g.shape.g a

  abbrev p : CellAt
  p = side_place g.shape.n a high c

  abbrev place : ℕ → ℕ → ℕ → ℕ
  place i j k = place_in (face_extents g.shape.n g.shape.g a) (g.shape.g + i) (g.shape.g + j) (g.shape.g + k)

  p_in : IsPlace g.shape.n a p.x p.y p.z
  p_in = side_in g.shape.n a high c (cells_some valid.shape)

  abbrev Either : Axis → ℕ → ℕ → ℕ → ℕ → Type 0
  Either x node i j k = (number_in g new x node i j k ≡ number_in g old x node i j k) ⊎ ((name_at g x node i j k ≡ side_face g.shape a high c) × (number_in g new x node i j k ≡ value))

  in_list : place p.x p.y p.z < length (face_array old a m)
  in_list =
      let inside = place_inside ext (g.shape.g + p.x) (g.shape.g + p.y) (g.shape.g + p.z) (longer_side a X g.shape.n g.shape.g p.x p_in.x) (longer_side a Y g.shape.n g.shape.g p.y p_in.y) (longer_side a Z g.shape.n g.shape.g p.z p_in.z) in
      subst (λ s. place p.x p.y p.z < s) (sym long) inside

  value_here : number_in g new a m p.x p.y p.z ≡ value
  value_here = ap (λ xs. get_or xs (place p.x p.y p.z) (pos 0)) put ∙ get_or-set_same (face_array old a m) (place p.x p.y p.z) value (pos 0) in_list

  -- at another place of this array
  own : (i j k : ℕ) → IsPlace g.shape.n a i j k → Either a m i j k
  own i j k there = elim (cases_Bool (place i j k == place p.x p.y p.z)) [
    | inl hit ↦ (
        let n = g.shape.n in
        let e = g.shape.g in
        let is : place i j k ≡ place p.x p.y p.z = eqb-true (place i j k) (place p.x p.y p.z) hit in
        let ix = longer_side a X n e i there.x in
        let jy = longer_side a Y n e j there.y in
        let px = longer_side a X n e p.x p_in.x in
        let py = longer_side a Y n e p.y p_in.y in
        let x = less_guards e i p.x (same_x ext (e + i) (e + j) (e + k) (e + p.x) (e + p.y) (e + p.z) ix px is) in
        let y = less_guards e j p.y (same_y ext (e + i) (e + j) (e + k) (e + p.x) (e + p.y) (e + p.z) ix px jy py is) in
        let z = less_guards e k p.z (same_z ext (e + i) (e + j) (e + k) (e + p.x) (e + p.y) (e + p.z) ix px jy py is) in
        inr (
          ap (λ b. face_of a (canonical_on g.shape a (in_block n b i j k))) number.block
              ∙ ap (λ u. face_of a (canonical_on g.shape a (in_block n (block_of n c) u j k))) x ∙ ap₂ (λ u v. face_of a (canonical_on g.shape a (in_block n (block_of n c) p.x u v))) y z,
          ap (λ q. get_or (face_array new a m) q (pos 0)) is ∙ value_here,
        ))
    | inr miss ↦ inl (
        let apart : place i j k ≢ place p.x p.y p.z = λ is. let hit = eq-eqb (place i j k) (place p.x p.y p.z) is in cc in
        ap (λ xs. get_or xs (place i j k) (pos 0)) put ∙ get_or-set_other (face_array old a m) (place p.x p.y p.z) (place i j k) value (pos 0) apart)
  ]

  -- anywhere
  either : (node : ℕ) (x : Axis) (i j k : ℕ) → IsPlace g.shape.n x i j k → Either x node i j k
  either node x i j k there = elim (cases_axis x a) [
    | inr apart ↦ inl (ap (λ xs. faces_in g x xs (g.shape.g + i) (g.shape.g + j) (g.shape.g + k)) (others x node (λ is at. apart is)))
    | inl same ↦ elim (cases_Bool (node == m)) [
      | inr miss ↦ inl (ap (λ xs. faces_in g x xs (g.shape.g + i) (g.shape.g + j) (g.shape.g + k)) (others x node (λ is at. let hit = eq-eqb node m at in cc)))
      | inl hit ↦ subst (λ d. Either x d i j k) (sym (eqb-true node m hit)) (subst (λ y. IsPlace g.shape.n y i j k → Either y m i j k) (sym same) (own i j k) there)
    ]
  ]

  pub side_set : IsLeafNode g m → IsSideSet g old new a high value c
  side_set leaf = record {
    here = λ node there block.
        let same : node ≡ m = sym (number_of_node g valid order node there.there) ∙ ap (node_of g) (block ∙ sym number.block) ∙ number_of_node g valid order m number.there in
        subst (λ d. number_in g new a d p.x p.y p.z ≡ value) (sym same) value_here;
    keeps = λ node x i j k there was. elim (either node x i j k there) [
      | inl same ↦ same ∙ was
      | inr found ↦ found.1
    ];
    others = λ node x i j k there apart. elim (either node x i j k there) [
      | inl same ↦ same
      | inr found ↦ absurd (apart (ap (is_leaf_block g) (sym number.block) ∙ leaf.leaf) found.0)
    ];
  }

-- ---- in the words of the code

pub put_there : (n e : ℕ) (old new : WorldState) (t : Tree) (s : Shape) (a : Axis) (high : Bool) (raw value : ℤ) → raw ≡ value → (c : CellAt) (m : ℕ) (b : BlockAt) (at : PlaceAt) →
    grid_of t ≡ old.told.grid → s ≡ (grid_of t).shape → IsFit n e old → 0 < old.told.counts.faces → b ≡ block_of s.n c → is_leaf_block (grid_of t) b ≡ true → IsNumberOf (grid_of t) b m →
    (let p = side_place s.n a high c in (at.x ≡ p.x) × (at.y ≡ p.y) × (at.z ≡ p.z)) →
    OnlyOf old new 0 (Face a) m → face_array new a m ≡ set (face_array old a m) (place_in (face_extents n e a) (e + at.x) (e + at.y) (e + at.z)) raw →
    IsSideSet old.told.grid old new a high value c
put_there n e old new t s a high raw value kept_is c m b at tree shape fit declared block leaf number place only put =
    let g = old.told.grid in
    let h = grid_of t in
    let valid : Valid g = subst Valid tree (known t).valid in
    let order : Sorted g.leaves = subst (λ (k : Grid). Sorted k.leaves) tree (known t).order in
    let sn : s.n ≡ g.shape.n = ap (λ (k : Shape). k.n) shape ∙ ap (λ (k : Grid). k.shape.n) tree in
    let is : b ≡ block_of g.shape.n c = block ∙ ap (λ k. block_of k c) sn in
    let here : IsNumberOf g (block_of g.shape.n c) m = subst (λ k. IsNumberOf k (block_of g.shape.n c) m) tree (subst (λ d. IsNumberOf h d m) is number) in
    let there : is_leaf_block g (block_of g.shape.n c) ≡ true = ap (λ k. is_leaf_block k (block_of g.shape.n c)) (sym tree) ∙ ap (is_leaf_block h) (sym is) ∙ leaf in
    let sizes : face_extents n e a ≡ face_extents g.shape.n g.shape.g a = ap₂ (λ x y. face_extents x y a) (sym fit.sizes.cells) (sym fit.sizes.guards) in
    let has = has_array n e old (Face a) m fit here.there declared in
    let long : length (face_array old a m) ≡ size_of (face_extents g.shape.n g.shape.g a) = fit.whole.each (Face a) m has ∙ ap size_of sizes in
    let p = side_place s.n a high c in
    let placed : place_in (face_extents n e a) (e + at.x) (e + at.y) (e + at.z) ≡ (let q = side_place g.shape.n a high c in let d = g.shape.g in place_in (face_extents g.shape.n d a) (d + q.x) (d + q.y) (d + q.z)) =
    ap (λ x. place_in (face_extents n e a) (e + x) (e + at.y) (e + at.z)) place.0 ∙ ap₂ (λ y z. place_in (face_extents n e a) (e + p.x) (e + y) (e + z)) place.1 place.2
    ∙ ap (λ k. let q = side_place k a high c in place_in (face_extents n e a) (e + q.x) (e + q.y) (e + q.z)) sn
    ∙ ap₂ (λ x d. let q = side_place g.shape.n a high c in place_in x (d + q.x) (d + q.y) (d + q.z)) sizes (sym fit.sizes.guards) in
    side_set g old new a high value c m valid order here (λ x node apart. only.here.others (Face x) node (λ same k. apart (same_axis x a same) k)) long
    (put ∙ ap₂ (λ q v. set (face_array old a m) q v) placed kept_is) (record { there = here.there; leaf = ap (is_leaf_block g) here.block ∙ there })

-- ---- both sides of a face

same_anyhow : (c : CellAt) (x y z : ℕ) → x ≡ c.x → y ≡ c.y → z ≡ c.z → record { level = c.level; x = x; y = y; z = z } ≡ c
same_anyhow c x y z ex ey ez = λ i. record { level = c.level; x = ex i; y = ey i; z = ez i }

own_place : (n x : ℕ) → 0 < n → n * (x / n) + (x % n + 0) ≡ x
own_place n x some = omega (arith, along n x some)

next_place : (n x : ℕ) → 0 < n → n * (x / n) + (x % n + 1) ≡ suc x
next_place n x some = omega (arith, along n x some)

low_cell_of : (n : ℕ) (a : Axis) (c : CellAt) → 0 < n → let p = side_place n a false c in in_block n (block_of n c) p.x p.y p.z ≡ c
low_cell_of n X c some = same_anyhow c _ _ _ (own_place n c.x some) (own_place n c.y some) (own_place n c.z some)
low_cell_of n Y c some = same_anyhow c _ _ _ (own_place n c.x some) (own_place n c.y some) (own_place n c.z some)
low_cell_of n Z c some = same_anyhow c _ _ _ (own_place n c.x some) (own_place n c.y some) (own_place n c.z some)

high_cell_of : (n : ℕ) (a : Axis) (c : CellAt) → 0 < n → let p = side_place n a true c in in_block n (block_of n c) p.x p.y p.z ≡ with a (suc (on a c)) c
high_cell_of n X c some = λ i. record { level = c.level; x = next_place n c.x some i; y = own_place n c.y some i; z = own_place n c.z some i }
high_cell_of n Y c some = λ i. record { level = c.level; x = own_place n c.x some i; y = next_place n c.y some i; z = own_place n c.z some i }
high_cell_of n Z c some = λ i. record { level = c.level; x = own_place n c.x some i; y = own_place n c.y some i; z = next_place n c.z some i }

-- the face on the low side of a cell, and on its high side
side_low : (s : Shape) (a : Axis) (c : CellAt) → 0 < s.n → Inside s c → side_face s a false c ≡ face_of a c
side_low s a c some inside = ap (λ d. face_of a (canonical_on s a d)) (low_cell_of s.n a c some) ∙ ap (face_of a) (canonical_inside s a c inside)

side_high : (s : Shape) (a : Axis) (c : CellAt) → 0 < s.n → side_face s a true c ≡ face_of a (after s a c)
side_high s a c some = ap (λ d. face_of a (canonical_on s a d)) (high_cell_of s.n a c some) ∙ ap (face_of a) (after_is s a c)

-- each place of a block's faces is that on the low or the high side of a cell of the block
record OnSide (n : ℕ) (a : Axis) (b : BlockAt) (i j k : ℕ) : Type 0 where
  cell : CellAt
  high : Bool
  block : block_of n cell ≡ b
  x : (side_place n a high cell).x ≡ i
  y : (side_place n a high cell).y ≡ j
  z : (side_place n a high cell).z ≡ k

rest : (n b i : ℕ) → i < n → (n * b + i) % n + 0 ≡ i
rest n b i h =
    let turned : n * b + i ≡ i + n * b = omega arith in
    let same = ap (λ m. m % n) turned ∙ digit i n b h in
    omega (arith, same)

rest_next : (n b i : ℕ) → 0 < i → i < n + 1 → (n * b + (i - 1)) % n + 1 ≡ i
rest_next n b i some h =
    let turned : n * b + (i - 1) ≡ (i - 1) + n * b = omega arith in
    let less : i - 1 < n = omega (arith, some, h) in
    let same = ap (λ m. m % n) turned ∙ digit (i - 1) n b less in
    omega (arith, same, some)

on_side : (n : ℕ) (a : Axis) (b : BlockAt) (i j k : ℕ) → 0 < n → IsPlace n a i j k → OnSide n a b i j k
on_side n X b i j k some there = elim (cases_lt i n) [
  | inl low ↦ record { cell = in_block n b i j k; high = false; block = block_of_cell n b i j k low there.y there.z; x = rest n b.x i low; y = rest n b.y j there.y; z = rest n b.z k there.z }
  | inr past ↦ (
      let last : i - 1 < n = (let t = there.x in omega (arith, t, some)) in
      let more : 0 < i = omega (arith, past, some) in
      record { cell = in_block n b (i - 1) j k; high = true; block = block_of_cell n b (i - 1) j k last there.y there.z; x = rest_next n b.x i more there.x; y = rest n b.y j there.y; z = rest n b.z k there.z })
]
on_side n Y b i j k some there = elim (cases_lt j n) [
  | inl low ↦ record { cell = in_block n b i j k; high = false; block = block_of_cell n b i j k there.x low there.z; x = rest n b.x i there.x; y = rest n b.y j low; z = rest n b.z k there.z }
  | inr past ↦ (
      let last : j - 1 < n = (let t = there.y in omega (arith, t, some)) in
      let more : 0 < j = omega (arith, past, some) in
      record { cell = in_block n b i (j - 1) k; high = true; block = block_of_cell n b i (j - 1) k there.x last there.z; x = rest n b.x i there.x; y = rest_next n b.y j more there.y; z = rest n b.z k there.z })
]
on_side n Z b i j k some there = elim (cases_lt k n) [
  | inl low ↦ record { cell = in_block n b i j k; high = false; block = block_of_cell n b i j k there.x there.y low; x = rest n b.x i there.x; y = rest n b.y j there.y; z = rest n b.z k low }
  | inr past ↦ (
      let last : k - 1 < n = (let t = there.z in omega (arith, t, some)) in
      let more : 0 < k = omega (arith, past, some) in
      record { cell = in_block n b i j (k - 1); high = true; block = block_of_cell n b i j (k - 1) there.x there.y last; x = rest n b.x i there.x; y = rest n b.y j there.y; z = rest_next n b.z k more there.z })
]

-- faces that are the same
axis_same : (a b : Axis) → (axis_index a == axis_index b) ≡ true → a ≡ b
axis_same X X t = refl
axis_same X Y t = cc
axis_same X Z t = cc
axis_same Y X t = cc
axis_same Y Y t = refl
axis_same Y Z t = cc
axis_same Z X t = cc
axis_same Z Y t = cc
axis_same Z Z t = refl

same_face : (f h : FaceAt) → is_same_face f h ≡ true → f ≡ h
same_face f h t =
    let both = and_parts (axis_index f.axis == axis_index h.axis) ((f.level == h.level) && (f.x == h.x) && (f.y == h.y) && (f.z == h.z)) t in
    let with_z = and_parts ((f.level == h.level) && (f.x == h.x) && (f.y == h.y)) (f.z == h.z) both.1 in
    let with_y = and_parts ((f.level == h.level) && (f.x == h.x)) (f.y == h.y) with_z.0 in
    let with_x = and_parts (f.level == h.level) (f.x == h.x) with_y.0 in
    λ i. record {
      axis = axis_same f.axis h.axis both.0 i;
      level = eqb-true f.level h.level with_x.0 i;
      x = eqb-true f.x h.x with_x.1 i;
      y = eqb-true f.y h.y with_y.1 i;
      z = eqb-true f.z h.z with_z.1 i;
    }

itself : (f : FaceAt) → is_same_face f f ≡ true
itself f = rw (eq-eqb (axis_index f.axis) (axis_index f.axis) refl, eq-eqb f.level f.level refl, eq-eqb f.x f.x refl, eq-eqb f.y f.y refl, eq-eqb f.z f.z refl) refl

module _ (g : Grid) (old new : WorldState) (a : Axis) (high : Bool) (value : ℤ) where
  beside_keeps : (o : Option CellAt) → IsBesideSet g old new a high value o → (node : ℕ) (x : Axis) (i j k : ℕ) → IsPlace g.shape.n x i j k → number_in g old x node i j k ≡ value → number_in g new x node i j k ≡ value
  beside_keeps None is node x i j k there was = ap (λ w. number_in g w x node i j k) is ∙ was
  beside_keeps (Some c) is node x i j k there was = is.keeps node x i j k there was

  beside_others : (o : Option CellAt) → IsBesideSet g old new a high value o → (node : ℕ) (x : Axis) (i j k : ℕ) → IsPlace g.shape.n x i j k →
      ((c : CellAt) → o ≡ Some c → is_leaf g c ≡ true → name_at g x node i j k ≡ side_face g.shape a high c → ⊥) → number_in g new x node i j k ≡ number_in g old x node i j k
  beside_others None is node x i j k there apart = ap (λ w. number_in g w x node i j k) is
  beside_others (Some c) is node x i j k there apart = is.others node x i j k there (apart c refl)

module _ (g : Grid) (old mid new : WorldState) (at : FaceAt) (value : ℤ) (valid : Valid g) (canonical : is_canonical g.shape at ≡ true)
    (first : IsBesideSet g old mid at.axis true value (low_cell g.shape at)) (second : IsBesideSet g mid new at.axis false value (high_cell g.shape at)) where
  some : 0 < g.shape.n
  some = cells_some valid.shape

  below_is : (c : CellAt) → low_cell g.shape at ≡ Some c → side_face g.shape at.axis true c ≡ at
  below_is c is = side_high g.shape at.axis c some ∙ face_of_low g.shape at c (wide_of g.shape valid.shape) canonical is

  above_is : (c : CellAt) → high_cell g.shape at ≡ Some c → is_leaf g c ≡ true → side_face g.shape at.axis false c ≡ at
  above_is c is leaf = side_low g.shape at.axis c some (leaf_inside g valid c leaf) ∙ face_of_high g.shape at c canonical is

  -- at a place that is another face nothing changes
  elsewhere : (node : ℕ) (x : Axis) (i j k : ℕ) → IsPlace g.shape.n x i j k → is_same_face (name_at g x node i j k) at ≡ false → number_in g new x node i j k ≡ number_in g old x node i j k
  elsewhere node x i j k there other =
      let apart : name_at g x node i j k ≡ at → ⊥ = λ is. let t : is_same_face (name_at g x node i j k) at ≡ true = ap (λ f. is_same_face f at) is ∙ itself at in let no : true ≡ false = sym t ∙ other in cc in
      beside_others g mid new at.axis false value (high_cell g.shape at) second node x i j k there (λ c is leaf name. apart (name ∙ above_is c is leaf))
      ∙ beside_others g old mid at.axis true value (low_cell g.shape at) first node x i j k there (λ c is leaf name. apart (name ∙ below_is c is))

  -- at the low side of a cell, and at the high side of one
  set_low : (node : ℕ) (c : CellAt) → IsLeafNode g node → block_of g.shape.n c ≡ block_at g node → is_leaf g c ≡ true → at ≡ face_of at.axis c →
      (let p = side_place g.shape.n at.axis false c in number_in g new at.axis node p.x p.y p.z ≡ value)
  set_low node c leaf block one is =
      let above_one : high_cell g.shape at ≡ Some c = ap (high_cell g.shape) is ∙ high_here g.shape at.axis c (leaf_inside g valid c one) in
      (subst (IsBesideSet g mid new at.axis false value) above_one second).here node leaf (sym block)

  set_high : (node : ℕ) (c : CellAt) → IsLeafNode g node → block_of g.shape.n c ≡ block_at g node → is_leaf g c ≡ true → at ≡ face_of at.axis (after g.shape at.axis c) →
      (let p = side_place g.shape.n at.axis true c in number_in g new at.axis node p.x p.y p.z ≡ value)
  set_high node c leaf block one is =
      let below_one : low_cell g.shape at ≡ Some c = ap (low_cell g.shape) is ∙ low_here g.shape at.axis c (leaf_inside g valid c one) in
      let p = side_place g.shape.n at.axis true c in
      beside_keeps g mid new at.axis false value (high_cell g.shape at) second node at.axis p.x p.y p.z (side_in g.shape.n at.axis true c some)
      ((subst (IsBesideSet g old mid at.axis true value) below_one first).here node leaf (sym block))

  set_at_side : (high : Bool) (node : ℕ) (c : CellAt) → IsLeafNode g node → block_of g.shape.n c ≡ block_at g node → is_leaf g c ≡ true → at ≡ side_face g.shape at.axis high c →
      (let p = side_place g.shape.n at.axis high c in number_in g new at.axis node p.x p.y p.z ≡ value)
  set_at_side false node c leaf block one is = set_low node c leaf block one (is ∙ side_low g.shape at.axis c some (leaf_inside g valid c one))
  set_at_side true node c leaf block one is = set_high node c leaf block one (is ∙ side_high g.shape at.axis c some)

  -- at a place that is the face stands the value
  set_own : (node i j k : ℕ) → IsLeafNode g node → IsPlace g.shape.n at.axis i j k → name_at g at.axis node i j k ≡ at → number_in g new at.axis node i j k ≡ value
  set_own node i j k leaf there name =
      let n = g.shape.n in
      let side = on_side n at.axis (block_at g node) i j k some there in
      let p = side_place n at.axis side.high side.cell in
      let one : is_leaf g side.cell ≡ true = ap (is_leaf_block g) side.block ∙ leaf.leaf in
      let same : side_face g.shape at.axis side.high side.cell ≡ name_at g at.axis node i j k =
      ap₂ (λ d x. face_of at.axis (canonical_on g.shape at.axis (in_block n d x p.y p.z))) side.block side.x ∙ ap₂ (λ y z. face_of at.axis (canonical_on g.shape at.axis (in_block n (block_at g node) i y z))) side.y side.z in
      sym (ap (λ x. number_in g new at.axis node x p.y p.z) side.x ∙ ap₂ (λ y z. number_in g new at.axis node i y z) side.y side.z)
      ∙ set_at_side side.high node side.cell leaf side.block one (sym name ∙ sym same)

  set_there : (node : ℕ) (x : Axis) (i j k : ℕ) → IsLeafNode g node → IsPlace g.shape.n x i j k → name_at g x node i j k ≡ at → number_in g new x node i j k ≡ value
  set_there node x i j k leaf there name =
      let same : x ≡ at.axis = ap (λ (f : FaceAt). f.axis) name in
      subst (λ y. IsPlace g.shape.n y i j k → name_at g y node i j k ≡ at → number_in g new y node i j k ≡ value) (sym same) (λ t e. set_own node i j k leaf t e) there name

  pub set_or_kept : (node : ℕ) (x : Axis) (i j k : ℕ) → IsLeafNode g node → IsPlace g.shape.n x i j k →
      number_in g new x node i j k ≡ (if is_same_face (name_at g x node i j k) at then value else number_in g old x node i j k)
  set_or_kept node x i j k leaf there = elim (cases_Bool (is_same_face (name_at g x node i j k) at)) [
    | inl same ↦ set_there node x i j k leaf there (same_face (name_at g x node i j k) at same) ∙ ap (λ t. if t then value else number_in g old x node i j k) (sym same)
    | inr other ↦ elsewhere node x i j k there other ∙ ap (λ t. if t then value else number_in g old x node i j k) (sym other)
  ]

-- the leaves that held a field have its numbers with the one that was set
pub faces_hold : (old new : WorldState) (at : FaceAt) (value : ℤ) → Valid old.told.grid → IsFaceSet old new at value → (field : FaceAt → ℤ) → LeavesHoldFaces old field → LeafFacesHold new (with_face field at value)
faces_hold old new at value valid is field holds node x leaf = record {
  at = λ i j k low_x low_y low_z t.
      let g = old.told.grid in
      let here : IsLeafNode g node = subst (λ (u : Told). IsLeafNode u.grid node) is.told leaf in
      let there : IsPlace new.told.grid.shape.n x i j k = record { x = low_x; y = low_y; z = low_z } in
      let pl : IsPlace g.shape.n x i j k = subst (λ (u : Told). IsPlace u.grid.shape.n x i j k) is.told there in
      let name = name_at g x node i j k in
      let leaf_one : is_leaf_face g name ≡ true = subst (λ (u : Told). is_leaf_face u.grid (name_at u.grid x node i j k) ≡ true) is.told t in
      is.each node x i j k here pl
      ∙ ap (λ v. if is_same_face name at then value else v) ((holds node here x).at i j k pl.x pl.y pl.z ∙ view_of_leaf_face g (kinds g valid) valid.shape (wide_of g.shape valid.shape) field name leaf_one)
      ∙ ap (λ (u : Told). with_face field at value (name_at u.grid x node i j k)) (sym is.told);
}

pub face_set : (old mid new : WorldState) (t : Tree) (s : Shape) (at : FaceAt) (raw value : ℤ) → raw ≡ value → (can : Bool) (sides : List (Option CellAt)) →
    grid_of t ≡ old.told.grid → s ≡ (grid_of t).shape → can ≡ (is_canonical (grid_of t).shape at && is_leaf_face (grid_of t) at) → can ≡ true → sides ≡ low_cell s at ∷ high_cell s at ∷ [] →
    mid.told ≡ old.told → new.told ≡ mid.told →
    IsBesideSet old.told.grid old mid at.axis true raw (get_or sides 0 None) → IsBesideSet mid.told.grid mid new at.axis false raw (get_or sides 1 None) → IsFaceSet old new at value
face_set old mid new t s at raw value kept_is can sides tree shape is can_be both first_told second_told first second =
    let g = old.told.grid in
    let valid : Valid g = subst Valid tree (known t).valid in
    let canonical : is_canonical g.shape at ≡ true = (and_parts _ _ (ap (λ (k : Grid). is_canonical k.shape at && is_leaf_face k at) (sym tree) ∙ sym is ∙ can_be)).0 in
    let same : s ≡ g.shape = shape ∙ ap (λ (k : Grid). k.shape) tree in
    let low : get_or sides 0 None ≡ low_cell g.shape at = ap (λ xs. get_or xs 0 None) both ∙ ap (λ k. low_cell k at) same in
    let high : get_or sides 1 None ≡ high_cell g.shape at = ap (λ xs. get_or xs 1 None) both ∙ ap (λ k. high_cell k at) same in
    let low_set : IsBesideSet g old mid at.axis true value (low_cell g.shape at) = subst (IsBesideSet g old mid at.axis true value) low (subst (λ v. IsBesideSet g old mid at.axis true v (get_or sides 0 None)) kept_is first) in
    let high_set : IsBesideSet g mid new at.axis false value (high_cell g.shape at) =
    subst (IsBesideSet g mid new at.axis false value) high
    (subst (λ v. IsBesideSet g mid new at.axis false v (get_or sides 1 None)) kept_is (subst (λ (u : Told). IsBesideSet u.grid mid new at.axis false raw (get_or sides 1 None)) first_told second)) in
    record {
      told = second_told ∙ first_told;
      each = λ node x i j k leaf there.
          ap (λ (u : Told). number_in u.grid new x node i j k) (second_told ∙ first_told) ∙ set_or_kept g old mid new at value valid canonical low_set high_set node x i j k leaf there;
    }
