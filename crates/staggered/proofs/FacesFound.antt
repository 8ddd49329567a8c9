-- The walk over the faces of a mesh, node by node.
use Rattle.std.proofs.Common.{◌≡◌, ℕ, suc, ◌+◌, ◌<◌, ◌^◌, Bool, true, false, is_some, ◌&&◌, List, [], ◌∷◌, ◌++◌, length, map, Option, Some, None, ℤ, refl, sym, ap, ap₂, ◌∙◌, arith}
use Rattle.std.specs.Option.{option_map, option_or}
use Rattle.std.specs.Prelude.{find, flat_map, if◌then◌else◌}
use Rattle.std.proofs.lemmas.List.Folds.{find-append}
use Rattle.amr_num.specs.declared.Axis.{Axis}
use Rattle.amr_num.specs.declared.Axis.TheVariants.{X, Y, Z}
use Rattle.amr_num.specs.declared.BlockAt.{BlockAt}
use Rattle.amr_num.specs.declared.FaceAt.{FaceAt}
use Rattle.mesh_model.specs.Fields.Firsts.{first_below, first_in_places}
use Rattle.mesh_model.specs.Fields.RangeWalk.{is_above}
use Rattle.mesh_model.specs.Geometry.Canonical.{canonical_face}
use Rattle.mesh_model.specs.Geometry.Coordinates.{face_of}
use Rattle.mesh_model.specs.Geometry.Places.{block_faces, in_block}
use Rattle.mesh_model.specs.Tree.Kinds.{Grid, is_leaf_block, is_leaf_face}
use Rattle.mesh_model.specs.Tree.Order.{nodes}
use Rattle.mesh_model.specs.Tree.ValidGrid.{Valid}
use Rattle.mesh_model.proofs.FieldLemmas.FirstFound.{first_mapped, first_same, found_first, found_in_places, one_more_none, places_mapped}
use Rattle.block_tree.specs.Numbered.{block_at}
use Rattle.block_tree.proofs.Leaves.{leaves_are}
use Rattle.rank_world.specs.FaceRange.{axis_above, face_above_at, first_above}
use Rattle.rank_world.proofs.Walked.{found_filtered}
use Rattle.staggered.specs.Facing.{above_below, face_told, node_above, walked_above}

or_mapped : {A B : Type 0} (g : A → B) (p q : Option A) → option_map g (option_or p q) ≡ option_or (option_map g p) (option_map g q)
or_mapped g None q = refl
or_mapped g (Some x) q = refl

or_none : {A : Type 0} (p : Option A) → option_or p None ≡ p
or_none None = refl
or_none (Some x) = refl

found_mapped : {A B : Type 0} (p : B → Bool) (f : A → B) (xs : List A) → find p (map f xs) ≡ option_map f (find (λ x. p (f x)) xs)
found_mapped p f [] = refl
found_mapped p f (x ∷ xs) = by (p (f x)) (found_mapped p f xs)
  where
    by : (t : Bool) → find p (map f xs) ≡ option_map f (find (λ x. p (f x)) xs) → (if t then Some (f x) else find p (map f xs)) ≡ option_map f (if t then Some x else find (λ x. p (f x)) xs)
    by true rest = refl
    by false rest = rest

told_if : {A B C : Type 0} (f : A → B) (h : B → C) (t : Bool) (a : A) → option_map h (option_map f (if t then Some a else None)) ≡ (if t then Some (h (f a)) else None)
told_if f h true a = refl
told_if f h false a = refl

module _ (g : Grid) (field : FaceAt → ℤ) where
  abbrev passes : FaceAt → Bool
  passes f = is_leaf_face g f && is_above (2 ^ 40) (field f)

  abbrev named : BlockAt → Axis → List FaceAt
  named b a = map (canonical_face g.shape) (block_faces g.shape.n b a)

  abbrev block_named : BlockAt → List FaceAt
  block_named b = flat_map (λ a. named b a) (X ∷ Y ∷ Z ∷ [])

  next : suc g.shape.n ≡ g.shape.n + 1
  next = omega arith

  -- in a box of places
  in_box : (b : BlockAt) (a : Axis) (x y z : ℕ) → option_map (face_told field) (option_map (canonical_face g.shape) (first_in_places x y z (λ i j k. if passes (canonical_face g.shape (face_of a (in_block g.shape.n b i j k))) then Some (face_of a (in_block g.shape.n b i j k)) else None)))
      ≡ first_in_places x y z (λ i j k. if passes (canonical_face g.shape (face_of a (in_block g.shape.n b i j k))) then Some (face_told field (canonical_face g.shape (face_of a (in_block g.shape.n b i j k)))) else None)
  in_box b a x y z =
      let at : ℕ → ℕ → ℕ → FaceAt = λ i j k. face_of a (in_block g.shape.n b i j k) in
      let some : ℕ → ℕ → ℕ → Option FaceAt = λ i j k. if passes (canonical_face g.shape (at i j k)) then Some (at i j k) else None in
      ap (option_map (face_told field)) (places_mapped (canonical_face g.shape) x y z some)
      ∙ places_mapped (face_told field) x y z (λ i j k. option_map (canonical_face g.shape) (some i j k))
      ∙ places_told x y z at
    where
      places_told : (x y z : ℕ) (at : ℕ → ℕ → ℕ → FaceAt) →
          first_in_places x y z (λ i j k. option_map (face_told field) (option_map (canonical_face g.shape) (if passes (canonical_face g.shape (at i j k)) then Some (at i j k) else None)))
          ≡ first_in_places x y z (λ i j k. if passes (canonical_face g.shape (at i j k)) then Some (face_told field (canonical_face g.shape (at i j k))) else None)
      places_told x y z at = first_same z _ _ (λ k hk. first_same y _ _ (λ j hj. first_same x _ _ (λ i hi. told_if (canonical_face g.shape) (face_told field) (passes (canonical_face g.shape (at i j k))) (at i j k))))

  -- among a block's faces normal to an axis
  axis_found : (b : BlockAt) (a : Axis) → option_map (face_told field) (find passes (named b a)) ≡ axis_above g field b a
  axis_found b X =
      ap (option_map (face_told field)) (found_mapped passes (canonical_face g.shape) (block_faces g.shape.n b X))
      ∙ ap (λ o. option_map (face_told field) (option_map (canonical_face g.shape) o)) (found_in_places (λ f. passes (canonical_face g.shape f)) (λ i j k. face_of X (in_block g.shape.n b i j k)) (suc g.shape.n) g.shape.n g.shape.n)
      ∙ in_box b X (suc g.shape.n) g.shape.n g.shape.n
      ∙ ap (λ m. first_in_places m g.shape.n g.shape.n (λ i j k. face_above_at g field (canonical_face g.shape (face_of X (in_block g.shape.n b i j k))))) next
  axis_found b Y =
      ap (option_map (face_told field)) (found_mapped passes (canonical_face g.shape) (block_faces g.shape.n b Y))
      ∙ ap (λ o. option_map (face_told field) (option_map (canonical_face g.shape) o)) (found_in_places (λ f. passes (canonical_face g.shape f)) (λ i j k. face_of Y (in_block g.shape.n b i j k)) g.shape.n (suc g.shape.n) g.shape.n)
      ∙ in_box b Y g.shape.n (suc g.shape.n) g.shape.n
      ∙ ap (λ m. first_in_places g.shape.n m g.shape.n (λ i j k. face_above_at g field (canonical_face g.shape (face_of Y (in_block g.shape.n b i j k))))) next
  axis_found b Z =
      ap (option_map (face_told field)) (found_mapped passes (canonical_face g.shape) (block_faces g.shape.n b Z))
      ∙ ap (λ o. option_map (face_told field) (option_map (canonical_face g.shape) o)) (found_in_places (λ f. passes (canonical_face g.shape f)) (λ i j k. face_of Z (in_block g.shape.n b i j k)) g.shape.n g.shape.n (suc g.shape.n))
      ∙ in_box b Z g.shape.n g.shape.n (suc g.shape.n)
      ∙ ap (λ m. first_in_places g.shape.n g.shape.n m (λ i j k. face_above_at g field (canonical_face g.shape (face_of Z (in_block g.shape.n b i j k))))) next

  -- among all of its faces
  block_found : (b : BlockAt) → option_map (face_told field) (find passes (block_named b)) ≡ first_above g field b
  block_found b =
      let x = find passes (named b X) in
      let y = find passes (named b Y) in
      let z = find passes (named b Z) in
      let parts : find passes (block_named b) ≡ option_or x (option_or y (option_or z None)) =
      find-append passes (named b X) (named b Y ++ (named b Z ++ [])) ∙ ap (option_or x) (find-append passes (named b Y) (named b Z ++ []) ∙ ap (option_or y) (find-append passes (named b Z) [])) in
      ap (option_map (face_told field)) (parts ∙ ap (λ o. option_or x (option_or y o)) (or_none z))
      ∙ or_mapped (face_told field) x (option_or y z) ∙ ap₂ (λ p q. option_or p q) (axis_found b X) (or_mapped (face_told field) y z ∙ ap₂ (λ p q. option_or p q) (axis_found b Y) (axis_found b Z))

  node_found : (t : Bool) (b : BlockAt) → option_map (face_told field) (if t then find passes (block_named b) else None) ≡ (if t then first_above g field b else None)
  node_found true b = block_found b
  node_found false b = refl

  -- the first in the walk is the first of a node
  pub walk_found : Valid g → walked_above g field ≡ above_below g field (length (nodes g.leaves))
  unfolding block_at
  walk_found valid =
      ap (λ ls. option_map (face_told field) (find passes (flat_map block_named ls))) (sym (leaves_are g valid))
      ∙ ap (option_map (face_told field)) (found_filtered passes block_named (is_leaf_block g) (nodes g.leaves))
      ∙ first_mapped (face_told field) (length (nodes g.leaves)) (λ k. if is_leaf_block g (block_at g k) then find passes (block_named (block_at g k)) else None)
      ∙ first_same (length (nodes g.leaves)) _ (node_above g field) (λ k h. node_found (is_leaf_block g (block_at g k)) (block_at g k))

-- what is found at a node, after none was found at those before, is the first
pub found_now : {A : Type 0} (n m : ℕ) (at : ℕ → Option A) (r : Option A) → first_below m at ≡ None → r ≡ at m → is_some r ≡ true → m < n → r ≡ first_below n at
found_now n m at None none is some h = cc
found_now n m at (Some x) none is some h = sym (found_first n m at x none (sym is) h)

pub no_more : {A : Type 0} (m : ℕ) (at : ℕ → Option A) (r : Option A) → first_below m at ≡ None → r ≡ at m → is_some r ≡ false → first_below (m + 1) at ≡ None
no_more m at None none is some = one_more_none m at none (sym is)
no_more m at (Some x) none is some = cc
