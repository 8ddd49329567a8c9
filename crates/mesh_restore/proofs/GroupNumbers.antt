-- The numbers that an image has of cells, of faces and of edges are those that stand under leaves.
use Rattle.std.proofs.Common.{◌≡◌, ℕ, suc, ◌+◌, ◌<◌, ◌≤◌, Bool, true, false, not, ◌&&◌, ◌||◌, ◌⊎◌, List, [], ◌∷◌, ◌++◌, map, filter, flat_map, ℤ, Some, refl, sym, ap, subst, ◌∙◌, arith, inl, inr, append-nil}
use Rattle.std.proofs.lemmas.Bool.{cases_Bool}
use Rattle.amr_num.specs.declared.Axis.{Axis}
use Rattle.amr_num.specs.declared.Axis.TheVariants.{X, Y, Z}
use Rattle.amr_num.specs.declared.BlockAt.{BlockAt}
use Rattle.amr_num.specs.declared.CellAt.{CellAt}
use Rattle.amr_num.specs.declared.EdgeAt.{EdgeAt}
use Rattle.amr_num.specs.declared.FaceAt.{FaceAt}
use Rattle.block_tree.specs.declared.directions.Direction.{Direction}
use Rattle.block_tree.specs.Directions.{block_toward, has_edges, lies_round, lies_toward, passes}
use Rattle.block_tree.specs.SideFaces.{face_name}
use Rattle.block_tree.proofs.RoundEdges.{leaf_edge_of_leaf}
use Rattle.check_format.specs.Own.{Place, place, axes, edge_at, edge_stands, face_at, face_stands, is_own_edge, is_own_face, own_edges, own_faces, part_at, places_of, step_at}
use Rattle.check_format.proofs.BodyPieces.{edge_list, face_list}
use Rattle.check_format.proofs.InOrder.{map_box, map_flat, map_twice}
use Rattle.check_format.proofs.OwnGroups.{edge_named, edges_by_leaves, face_named, faces_by_leaves, leaf_says_calm}
use Rattle.check_format.proofs.Sharing.{Chosen, IsPlace, named}
use Rattle.check_format.proofs.Taking.{leaf_whole}
use Rattle.mesh_model.specs.declared.fields.values.Group.TheVariants.{Cell, Edge, Face}
use Rattle.mesh_model.specs.Fields.RangeWalk.{cells_walked}
use Rattle.mesh_model.specs.Geometry.Coordinates.{edge_of, face_of}
use Rattle.mesh_model.specs.Geometry.Places.{block_cells, box_list, in_block}
use Rattle.mesh_model.specs.Images.Image.{leaf_edges, leaf_faces}
use Rattle.mesh_model.specs.Tree.Kinds.{Grid, is_leaf_block, is_leaf_edge, is_leaf_face, is_split_block}
use Rattle.mesh_model.specs.Tree.Order.{IsIn, Sorted}
use Rattle.mesh_model.specs.Tree.ValidGrid.{Valid}
use Rattle.mesh_model.proofs.GeometryLemmas.ShapeLimits.{cells_some}
use Rattle.mesh_model.proofs.TreeLemmas.Tests.{and_both, not_true, or_left, or_right}
use Rattle.mesh_model.proofs.TreeLemmas.Tiling.{leaf_shows}
use Rattle.mesh_restore.specs.Filling.{IsShared, Wanted, all_places, leaf_numbers, own_numbers}
use Rattle.mesh_restore.proofs.SharedNumbers.{all_shared, are_shared, wanted}

-- ---- what lies towards a leaf face or a leaf edge is not split

same_steps : (d e : Direction) → d.x ≡ e.x → d.y ≡ e.y → d.z ≡ e.z → d ≡ e
same_steps d e x y z = λ i. record { x = x i; y = y i; z = z i }

one_of_one : (s : ℕ) → (s ≡ 1) ⊎ (s ≡ 1) → s ≡ 1
one_of_one s (inl is) = is
one_of_one s (inr is) = is

module _ (g : Grid) (valid : Valid g) (b : BlockAt) (i : IsIn b g.leaves) where
  -- a split block lies in a direction
  lies : (d : Direction) (c : BlockAt) → block_toward g.shape d b ≡ Some c → is_split_block g c ≡ true → lies_toward g false b d ≡ true
  unfolding lies_toward
  lies d c toward split = ap (passes (is_split_block g)) toward ∙ split

  not_here : (d : Direction) → d.x ≡ 1 → d.y ≡ 1 → d.z ≡ 1 → lies_toward g false b d ≡ true → ⊥
  unfolding lies_toward block_toward
  not_here d x y z there =
      let at : lies_toward g false b (record { x = 1; y = 1; z = 1 }) ≡ true = subst (λ u. lies_toward g false b u ≡ true) (same_steps d (record { x = 1; y = 1; z = 1 }) x y z) there in
      let whole = leaf_whole g valid b i in
      cc

  -- what lies in one of two directions with a step on one axis
  face_none : (a : Axis) (p : Place) → IsPlace g.shape.n (face_stands a) p → is_leaf_face g (face_at g.shape b a p) ≡ true → (d : Direction) → Chosen d (part_at g.shape.n (face_stands a) p) → lies_toward g false b d ≡ true → ⊥
  unfolding face_name
  face_none X p h leaf d c there =
      let x = h.x in
      let calm = leaf_says_calm g valid X b i p.y p.z h.y h.z p.x (omega arith) leaf in
      let y = one_of_one d.y c.y in
      let z = one_of_one d.z c.z in
      elim c.x [
        | inl one ↦ not_here d one y z there
        | inr is ↦ (let same = ap (lies_toward g false b) (same_steps d (record { x = step_at g.shape.n true p.x; y = 1; z = 1 }) is y z) in cc)
      ]
  face_none Y p h leaf d c there =
      let y = h.y in
      let calm = leaf_says_calm g valid Y b i p.x p.z h.x h.z p.y (omega arith) leaf in
      let x = one_of_one d.x c.x in
      let z = one_of_one d.z c.z in
      elim c.y [
        | inl one ↦ not_here d x one z there
        | inr is ↦ (let same = ap (lies_toward g false b) (same_steps d (record { x = 1; y = step_at g.shape.n true p.y; z = 1 }) x is z) in cc)
      ]
  face_none Z p h leaf d c there =
      let z = h.z in
      let calm = leaf_says_calm g valid Z b i p.x p.y h.x h.y p.z (omega arith) leaf in
      let x = one_of_one d.x c.x in
      let y = one_of_one d.y c.y in
      elim c.z [
        | inl one ↦ not_here d x y one there
        | inr is ↦ (let same = ap (lies_toward g false b) (same_steps d (record { x = 1; y = 1; z = step_at g.shape.n true p.z }) x y is) in cc)
      ]

  -- round an edge
  round : (t d : Direction) → has_edges t ≡ true → (d ≡ t) ⊎ ((d ≡ record t { x = 1 }) ⊎ ((d ≡ record t { y = 1 }) ⊎ (d ≡ record t { z = 1 }))) → lies_toward g false b d ≡ true → lies_round g false b t ≡ true
  unfolding lies_round
  round t d edges is there = and_both (has_edges t) _ edges (elim is [
    | inl e ↦ or_left ((l t || l (record t { x = 1 })) || l (record t { y = 1 })) _ (or_left (l t || l (record t { x = 1 })) _ (or_left (l t) _ (at e)))
    | inr more ↦ elim more [
      | inl e ↦ or_left ((l t || l (record t { x = 1 })) || l (record t { y = 1 })) _ (or_left (l t || l (record t { x = 1 })) _ (or_right (l t) _ (at e)))
      | inr rest ↦ elim rest [
        | inl e ↦ or_left ((l t || l (record t { x = 1 })) || l (record t { y = 1 })) _ (or_right (l t || l (record t { x = 1 })) _ (at e))
        | inr e ↦ or_right ((l t || l (record t { x = 1 })) || l (record t { y = 1 })) _ (at e)
      ]
    ]
  ])
    where
      l : Direction → Bool
      l u = lies_toward g false b u

      at : {u : Direction} → d ≡ u → lies_toward g false b u ≡ true
      at e = subst (λ u. lies_toward g false b u ≡ true) e there

  leaf_edge_is : (a : Axis) (p : Place) → IsPlace g.shape.n (edge_stands a) p → is_leaf_edge g (edge_at g.shape b a p) ≡ not (lies_round g false b (part_at g.shape.n (edge_stands a) p))
  leaf_edge_is X p h = let y = h.y in let z = h.z in leaf_edge_of_leaf g b (cells_some valid.shape) (valid.tiles.inside b i) X p.x p.y p.z h.x (omega arith) (omega arith) (leaf_shows g b i) (leaf_whole g valid b i)
  leaf_edge_is Y p h = let x = h.x in let z = h.z in leaf_edge_of_leaf g b (cells_some valid.shape) (valid.tiles.inside b i) Y p.x p.y p.z (omega arith) h.y (omega arith) (leaf_shows g b i) (leaf_whole g valid b i)
  leaf_edge_is Z p h = let x = h.x in let y = h.y in leaf_edge_of_leaf g b (cells_some valid.shape) (valid.tiles.inside b i) Z p.x p.y p.z (omega arith) (omega arith) h.z (leaf_shows g b i) (leaf_whole g valid b i)

  middle : (u w : Bool) → ((u || true) || w) ≡ true
  middle true w = refl
  middle false w = refl

  edges_there : (a : Axis) (p : Place) → has_edges (part_at g.shape.n (edge_stands a) p) ≡ true
  edges_there X p = refl
  edges_there Y p = middle _ _
  edges_there Z p = or_right _ true refl

  -- what lies round it
  edge_way : (a : Axis) (p : Place) (d : Direction) → Chosen d (part_at g.shape.n (edge_stands a) p) → let t = part_at g.shape.n (edge_stands a) p in
      ((d.x ≡ 1) × (d.y ≡ 1) × (d.z ≡ 1)) ⊎ ((d ≡ t) ⊎ ((d ≡ record t { x = 1 }) ⊎ ((d ≡ record t { y = 1 }) ⊎ (d ≡ record t { z = 1 }))))
  edge_way X p d c =
      let t = part_at g.shape.n (edge_stands X) p in
      let x = one_of_one d.x c.x in
      elim c.y [
        | inl y ↦ elim c.z [ inl z ↦ inl (x, y, z) | inr z ↦ inr (inr (inr (inl (same_steps d (record t { y = 1 }) x y z)))) ]
        | inr y ↦ elim c.z [ inl z ↦ inr (inr (inr (inr (same_steps d (record t { z = 1 }) x y z)))) | inr z ↦ inr (inl (same_steps d t x y z)) ]
      ]
  edge_way Y p d c =
      let t = part_at g.shape.n (edge_stands Y) p in
      let y = one_of_one d.y c.y in
      elim c.x [
        | inl x ↦ elim c.z [ inl z ↦ inl (x, y, z) | inr z ↦ inr (inr (inl (same_steps d (record t { x = 1 }) x y z))) ]
        | inr x ↦ elim c.z [ inl z ↦ inr (inr (inr (inr (same_steps d (record t { z = 1 }) x y z)))) | inr z ↦ inr (inl (same_steps d t x y z)) ]
      ]
  edge_way Z p d c =
      let t = part_at g.shape.n (edge_stands Z) p in
      let z = one_of_one d.z c.z in
      elim c.x [
        | inl x ↦ elim c.y [ inl y ↦ inl (x, y, z) | inr y ↦ inr (inr (inl (same_steps d (record t { x = 1 }) x y z))) ]
        | inr x ↦ elim c.y [ inl y ↦ inr (inr (inr (inl (same_steps d (record t { y = 1 }) x y z)))) | inr y ↦ inr (inl (same_steps d t x y z)) ]
      ]

  edge_none : (a : Axis) (p : Place) → IsPlace g.shape.n (edge_stands a) p → is_leaf_edge g (edge_at g.shape b a p) ≡ true → (d : Direction) → Chosen d (part_at g.shape.n (edge_stands a) p) → lies_toward g false b d ≡ true → ⊥
  edge_none a p h leaf d c there =
      let calm = not_true _ (sym (leaf_edge_is a p h) ∙ leaf) in
      elim (edge_way a p d c) [
        | inl (x, y, z) ↦ not_here d x y z there
        | inr way ↦ (let finer = round (part_at g.shape.n (edge_stands a) p) d (edges_there a p) way there in cc)
      ]

-- ---- what is wanted of each group

-- the contents of cells
abbrev pub wanted_cells : Grid → (CellAt → ℤ) → Wanted
wanted_cells g field = record { value = λ b a p. field (in_block g.shape.n b p.x p.y p.z); counts = λ b a p. true }

-- the numbers of leaf faces and of leaf edges
abbrev pub wanted_faces : Grid → (FaceAt → ℤ) → Wanted
wanted_faces g field = record { value = λ b a p. field (face_at g.shape b a p); counts = λ b a p. is_leaf_face g (face_at g.shape b a p) }

abbrev pub wanted_edges : Grid → (EdgeAt → ℤ) → Wanted
wanted_edges g field = record { value = λ b a p. field (edge_at g.shape b a p); counts = λ b a p. is_leaf_edge g (edge_at g.shape b a p) }

module _ (g : Grid) (valid : Valid g) (order : Sorted g.leaves) where
  face_same : (b c : BlockAt) (a : Axis) (p q : Place) → named g.shape (face_stands a) c q ≡ named g.shape (face_stands a) b p → face_at g.shape c a q ≡ face_at g.shape b a p
  face_same b c a p q is = face_named g.shape c a q ∙ ap (face_of a) is ∙ sym (face_named g.shape b a p)

  edge_same : (b c : BlockAt) (a : Axis) (p q : Place) → named g.shape (edge_stands a) c q ≡ named g.shape (edge_stands a) b p → edge_at g.shape c a q ≡ edge_at g.shape b a p
  edge_same b c a p q is = edge_named g.shape c a q ∙ ap (edge_of a) is ∙ sym (edge_named g.shape b a p)

  pub cells_shared : (v : ℕ) (field : CellAt → ℤ) → IsShared g (Cell v) (wanted_cells g field)
  unfolding wanted
  cells_shared v field = all_shared CellAt g valid order (Cell v) (λ b a p. in_block g.shape.n b p.x p.y p.z) (λ b c a p q is. is) field (λ c. true) (λ b a p. refl)

  pub faces_shared : (field : FaceAt → ℤ) → IsShared g Face (wanted_faces g field)
  unfolding wanted
  faces_shared field = are_shared FaceAt g valid order Face (face_at g.shape) face_same field (is_leaf_face g) (λ b a p. refl)
      (λ b a p i h counts d c chosen toward split. face_none g valid b i a p h counts d chosen (lies g valid b i d c toward split))

  pub edges_shared : (field : EdgeAt → ℤ) → IsShared g Edge (wanted_edges g field)
  unfolding wanted
  edges_shared field = are_shared EdgeAt g valid order Edge (edge_at g.shape) edge_same field (is_leaf_edge g) (λ b a p. refl)
      (λ b a p i h counts d c chosen toward split. edge_none g valid b i a p h counts d chosen (lies g valid b i d c toward split))

  -- ---- and the lists of an image

  pub faces_listed : (field : FaceAt → ℤ) → map field (leaf_faces g) ≡ flat_map (leaf_numbers g Face (wanted_faces g field)) g.leaves
  faces_listed field =
      ap (map field) (faces_by_leaves g valid order)
      ∙ map_flat field (λ b. flat_map (own_faces g b) axes) g.leaves
      ∙ ap (λ f. flat_map f g.leaves) (λ t b. (map_flat field (own_faces g b) axes ∙ ap (λ f. flat_map f axes) (λ u a. on_axis b a u)) t)
    where
      on_axis : (b : BlockAt) (a : Axis) → map field (own_faces g b a) ≡ own_numbers g Face (wanted_faces g field) b a (all_places g Face a)
      on_axis b a =
          map_twice field (face_at g.shape b a) (filter (is_own_face g b a) (places_of g.shape.n (face_stands a)))
          ∙ ap (λ ps. map (λ p. field (face_at g.shape b a p)) (filter (is_own_face g b a) ps)) (sym (face_list g a))

  pub edges_listed : (field : EdgeAt → ℤ) → map field (leaf_edges g) ≡ flat_map (leaf_numbers g Edge (wanted_edges g field)) g.leaves
  edges_listed field =
      ap (map field) (edges_by_leaves g valid order)
      ∙ map_flat field (λ b. flat_map (own_edges g b) axes) g.leaves
      ∙ ap (λ f. flat_map f g.leaves) (λ t b. (map_flat field (own_edges g b) axes ∙ ap (λ f. flat_map f axes) (λ u a. on_axis b a u)) t)
    where
      on_axis : (b : BlockAt) (a : Axis) → map field (own_edges g b a) ≡ own_numbers g Edge (wanted_edges g field) b a (all_places g Edge a)
      on_axis b a =
          map_twice field (edge_at g.shape b a) (filter (is_own_edge g b a) (places_of g.shape.n (edge_stands a)))
          ∙ ap (λ ps. map (λ p. field (edge_at g.shape b a p)) (filter (is_own_edge g b a) ps)) (sym (edge_list g a))

  all_pass : {A : Type 0} (xs : List A) → filter (λ p. true) xs ≡ xs
  all_pass [] = refl
  all_pass (x ∷ xs) = ap (λ u. x ∷ u) (all_pass xs)

  pub cells_listed : (v : ℕ) (field : CellAt → ℤ) → map field (cells_walked g) ≡ flat_map (leaf_numbers g (Cell v) (wanted_cells g field)) g.leaves
  cells_listed v field =
      map_flat field (block_cells g.shape.n) g.leaves ∙ ap (λ f. flat_map f g.leaves) (λ t b. of_block b t)
    where
      of_block : (b : BlockAt) → map field (block_cells g.shape.n b) ≡ leaf_numbers g (Cell v) (wanted_cells g field) b
      of_block b =
          let n = g.shape.n in
          map_box field n n n (in_block n b)
          ∙ sym (append-nil (own_numbers g (Cell v) (wanted_cells g field) b X (all_places g (Cell v) X)) ∙ ap (map (λ (p : Place). field (in_block n b p.x p.y p.z))) (all_pass (all_places g (Cell v) X)) ∙ map_box (λ (p : Place). field (in_block n b p.x p.y p.z)) n n n place)
