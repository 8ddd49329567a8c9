-- Counting what stands under leaves.
use Rattle.std.proofs.Common.{◌≡◌, ℕ, zero, suc, ◌+◌, ◌<◌, ◌≤◌, Bool, true, false, if◌then◌else◌, List, [], ◌∷◌, ◌++◌, length, map, filter, flat_map, take, get_or, Option, Some, None, Bor, is_some, inl, inr, refl, sym, ap, ap₂, ◌∙◌, arith, length-append, append-nil}
use Rattle.std.specs.List.{range_with_len}
use Rattle.std.specs.Option.{option_copied}
use mir.Val.{bool_byte}
use Rattle.std.proofs.Math.Seq.{take-suc}
use Rattle.std.proofs.lemmas.Grind.{flat_map-append}
use Rattle.std.proofs.lemmas.List.{length-map, map-append}
use Rattle.std.proofs.lemmas.List.Elements.{filter-append}
use Rattle.amr_num.specs.declared.Axis.{Axis}
use Rattle.amr_num.specs.declared.Axis.TheVariants.{X, Y, Z}
use Rattle.amr_num.specs.declared.BlockAt.{BlockAt}
use Rattle.block_tree.specs.Interior.{axes_of}
use Rattle.block_tree.specs.Numbered.{block_at}
use Rattle.block_tree.proofs.ByNumber.{flat_next, leaves_by_number, range_apart}
use Rattle.mesh_model.specs.declared.fields.values.Group.{Group}
use Rattle.mesh_model.specs.declared.fields.values.Group.TheVariants.{Cell, Face, Edge}
use Rattle.mesh_model.specs.Fields.RangeWalk.{cells_walked}
use Rattle.mesh_model.specs.Fields.VariableNames.{VariableNames}
use Rattle.mesh_model.specs.Geometry.Places.{block_cells, box_list, in_block}
use Rattle.mesh_model.specs.Images.Image.{edge_places, face_places, leaf_edges, leaf_faces}
use Rattle.mesh_model.specs.Tree.Kinds.{Grid, is_leaf_block}
use Rattle.mesh_model.specs.Tree.Order.{Sorted, nodes}
use Rattle.mesh_model.specs.Tree.ValidGrid.{Valid}
use Rattle.check_format.specs.Counts.{number_count, own_array, own_node, own_leaf, own_plane, own_row}
use Rattle.check_format.specs.Own.{Place, axes, edge_at, edge_stands, face_at, face_stands, is_own_edge, is_own_face, own_edges, own_faces, place, places_of}
use Rattle.check_format.specs.Written.{is_own_place, many}
use Rattle.check_format.proofs.ArrayPieces.{array_places}
use Rattle.check_format.proofs.BodyPieces.{edge_list, face_list}
use Rattle.check_format.proofs.InOrder.{spread_flat}
use Rattle.check_format.proofs.OwnGroups.{edges_by_leaves, faces_by_leaves}

-- ---- one more

pub count_more : {A : Type 0} (f : ℕ → List A) (n c d : ℕ) → c ≡ length (flat_map f (range_with_len 0 n)) → d ≡ length (f n) → c + d ≡ length (flat_map f (range_with_len 0 (n + 1)))
count_more f n c d before here =
    ap₂ (λ u w. u + w) before here ∙ sym (length-append (flat_map f (range_with_len 0 n)) (f n)) ∙ ap length (sym (flat_next f n))

-- whether one passes, as a number
abbrev pub one : Bool → ℕ
one passes = if passes then 1 else 0

pub one_is : (t : Bool) → bool_byte t ≡ one t
one_is true = refl
one_is false = refl

pub one_few : (t : Bool) → one t ≤ 1
one_few true = omega arith
one_few false = omega arith

alone : {A : Type 0} (t : Bool) (x : A) → one t ≡ length (if t then x ∷ [] else [])
alone true x = refl
alone false x = refl

pub pass_more : {A : Type 0} (p : A → Bool) (at : ℕ → A) (n c : ℕ) → c ≡ length (filter p (map at (range_with_len 0 n))) → c + one (p (at n)) ≡ length (filter p (map at (range_with_len 0 (n + 1))))
pass_more p at n c before =
    let rest : map at (range_with_len (0 + n) 1) ≡ at n ∷ [] = let e : 0 + n ≡ n = omega arith in ap (λ k. at k ∷ []) e in
    ap (λ u. u + one (p (at n))) before
    ∙ ap (λ k. length (filter p (map at (range_with_len 0 n))) + k) (alone (p (at n)) (at n))
    ∙ sym (length-append (filter p (map at (range_with_len 0 n))) (filter p (at n ∷ [])))
    ∙ ap length (sym (ap (λ u. filter p (map at u)) (range_apart 0 n 1) ∙ ap (filter p) (map-append at (range_with_len 0 n) (range_with_len (0 + n) 1) ∙ ap (λ u. map at (range_with_len 0 n) ++ u) rest) ∙ filter-append p (map at (range_with_len 0 n)) (at n ∷ [])))

-- of the axes one more
pub axis_more : {A B : Type 0} (f : A → List B) (xs : List A) (i : ℕ) (d : A) (c k : ℕ) → i < length xs → c ≡ length (flat_map f (take i xs)) → k ≡ length (f (get_or xs i d)) → c + k ≡ length (flat_map f (take (i + 1) xs))
axis_more f xs i d c k h before here =
    let step : i + 1 ≡ suc i = omega arith in
    ap₂ (λ u w. u + w) before here ∙ sym (length-append (flat_map f (take i xs)) (f (get_or xs i d)))
    ∙ ap length (sym (ap (λ n. flat_map f (take n xs)) step ∙ ap (flat_map f) (take-suc xs i d h) ∙ flat_map-append f (take i xs) (get_or xs i d ∷ []) ∙ ap (λ u. flat_map f (take i xs) ++ u) (append-nil (f (get_or xs i d)))))

pub axes_few : (group : Group) → length (axes_of group) ≤ 3
axes_few (Cell v) = omega arith
axes_few Face = omega arith
axes_few Edge = omega arith

-- ---- by leaves, and by all places

same_lengths : {A B C : Type 0} (f : A → List B) (h : A → List C) (xs : List A) → ((a : A) → length (f a) ≡ length (h a)) → length (flat_map f xs) ≡ length (flat_map h xs)
same_lengths f h [] same = refl
same_lengths f h (x ∷ xs) same = length-append (f x) (flat_map f xs) ∙ ap₂ (λ u w. u + w) (same x) (same_lengths f h xs same) ∙ sym (length-append (h x) (flat_map h xs))

-- as many zeros
zeros : {A : Type 0} → List A → List ℕ
zeros xs = map (λ x. 0) xs

zeros_are : {A : Type 0} (xs : List A) → length xs ≡ length (zeros xs)
unfolding zeros
zeros_are xs = sym (length-map xs (λ x. 0))

pub by_nodes : (g : Grid) → Valid g → (group : Group) → length (flat_map (own_node group g) (range_with_len 0 (length (nodes g.leaves)))) ≡ number_count group g
unfolding number_count
by_nodes g valid group =
    same_lengths (own_node group g) (λ node. if is_leaf_block g (block_at g node) then zeros (own_leaf group g (block_at g node)) else []) (range_with_len 0 (length (nodes g.leaves)))
    (λ node. chosen (is_leaf_block g (block_at g node)) (own_leaf group g (block_at g node)))
    ∙ ap length (leaves_by_number g valid (λ b. zeros (own_leaf group g b)))
    ∙ same_lengths (λ b. zeros (own_leaf group g b)) (own_leaf group g) g.leaves (λ b. sym (zeros_are (own_leaf group g b)))
  where
    chosen : (t : Bool) (ps : List Place) → length (if t then ps else []) ≡ length (if t then zeros ps else [])
    chosen true ps = zeros_are ps
    chosen false ps = refl

-- the own places of an array are those of all its places
array_is : (group : Group) (g : Grid) (b : BlockAt) (a : Axis) → filter (is_own_place group g b a) (array_places g group a) ≡ own_array group g b a
array_is group g b a =
    let p = is_own_place group g b a in
    let row = λ (k j : ℕ). map (λ i. place i j k) (range_with_len 0 (many g group a X)) in
    spread_flat (filter p) refl (filter-append p) (λ k. flat_map (row k) (range_with_len 0 (many g group a Y))) (range_with_len 0 (many g group a Z))
    ∙ ap (λ f. flat_map f (range_with_len 0 (many g group a Z))) (λ t k. spread_flat (filter p) refl (filter-append p) (row k) (range_with_len 0 (many g group a Y)) t)

all_pass : (xs : List Place) → filter (λ p. true) xs ≡ xs
all_pass [] = refl
all_pass (x ∷ xs) = ap (λ u. x ∷ u) (all_pass xs)

range_length : (a n : ℕ) → length (range_with_len a n) ≡ n
range_length a zero = refl
range_length a (suc n) = ap suc (range_length (a + 1) n)

pub cells_counted : (g : Grid) (v : ℕ) → number_count (Cell v) g ≡ length (cells_walked g)
unfolding number_count
cells_counted g v = same_lengths (own_leaf (Cell v) g) (block_cells g.shape.n) g.leaves (λ b.
    let n = g.shape.n in
    ap length (append-nil (own_array (Cell v) g b X) ∙ sym (array_is (Cell v) g b X) ∙ all_pass (box_list n n n place)) ∙ box_same b n)
  where
    box_same : (b : BlockAt) (n : ℕ) → length (box_list n n n place) ≡ length (block_cells n b)
    box_same b n =
        same_lengths (λ k. flat_map (λ j. map (λ i. place i j k) (range_with_len 0 n)) (range_with_len 0 n)) (λ k. flat_map (λ j. map (λ i. in_block n b i j k) (range_with_len 0 n)) (range_with_len 0 n)) (range_with_len 0 n) (λ k.
        same_lengths (λ j. map (λ i. place i j k) (range_with_len 0 n)) (λ j. map (λ i. in_block n b i j k) (range_with_len 0 n)) (range_with_len 0 n) (λ j.
        length-map (range_with_len 0 n) (λ i. place i j k) ∙ sym (length-map (range_with_len 0 n) (λ i. in_block n b i j k))))

module _ (g : Grid) (valid : Valid g) (order : Sorted g.leaves) where
  pub faces_counted : number_count Face g ≡ length (leaf_faces g)
  unfolding number_count
  faces_counted =
      same_lengths (own_leaf Face g) (λ b. flat_map (own_faces g b) axes) g.leaves (λ b. same_lengths (own_array Face g b) (own_faces g b) axes (λ a. on_axis b a))
      ∙ ap length (sym (faces_by_leaves g valid order))
    where
      on_axis : (b : BlockAt) (a : Axis) → length (own_array Face g b a) ≡ length (own_faces g b a)
      on_axis b a =
          ap length (sym (array_is Face g b a) ∙ ap (filter (is_own_face g b a)) (face_list g a))
          ∙ sym (length-map (filter (is_own_face g b a) (places_of g.shape.n (face_stands a))) (face_at g.shape b a))

  pub edges_counted : number_count Edge g ≡ length (leaf_edges g)
  unfolding number_count
  edges_counted =
      same_lengths (own_leaf Edge g) (λ b. flat_map (own_edges g b) axes) g.leaves (λ b. same_lengths (own_array Edge g b) (own_edges g b) axes (λ a. on_axis b a))
      ∙ ap length (sym (edges_by_leaves g valid order))
    where
      on_axis : (b : BlockAt) (a : Axis) → length (own_array Edge g b a) ≡ length (own_edges g b a)
      on_axis b a =
          ap length (sym (array_is Edge g b a) ∙ ap (filter (is_own_edge g b a)) (edge_list g a))
          ∙ sym (length-map (filter (is_own_edge g b a) (places_of g.shape.n (edge_stands a))) (edge_at g.shape b a))

-- the numbers of a variable that may be declared
pub if_declared : {A : Type 0} (t : Bool) (n : ℕ) (xs : List A) → n ≡ length xs → (if t then n else 0) ≡ length (if t then xs else [])
if_declared true n xs e = e
if_declared false n xs e = refl

pub copied_some : {A : Type 0} (o : Option (Bor A)) → is_some (option_copied o) ≡ is_some o
copied_some None = refl
copied_some (Some x) = refl
