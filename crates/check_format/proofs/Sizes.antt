-- How long images are.
use Rattle.std.proofs.Common.{◌≡◌, ℕ, zero, suc, ◌+◌, ◌*◌, ◌^◌, ◌≤◌, ◌⊎◌, ◌&&◌, Bool, true, false, if◌then◌else◌, refl, sym, ap, subst, ◌∙◌, arith, inl, inr, List, [], ◌∷◌, ◌++◌, map, filter, length, Option, Some, None, ℤ}
use Rattle.std.specs.Prelude.{slice_index, not, flat_map, codes, is_some, nat_le}
use Rattle.std.specs.List.{range_with_len, list_any, list_all, AllByRecursion}
use Rattle.std.specs.Option.{option_to_list}
use Rattle.std.specs.Int.{bytes_low_first, cast_unsigned, w64, w128}
use Rattle.std.proofs.lemmas.Bool.{cases_Bool, leb-true}
use Rattle.std.proofs.lemmas.List.{length-append, length-map}
use Rattle.amr_num.specs.declared.Axis.{Axis}
use Rattle.amr_num.specs.declared.Axis.TheVariants.{X, Y, Z}
use Rattle.amr_num.specs.declared.BlockAt.{BlockAt}
use Rattle.mesh_model.specs.Geometry.Coordinates.{face_of, edge_of}
use Rattle.mesh_model.specs.Tree.Order.{nodes, begun_at}
use Rattle.mesh_model.specs.Tree.Kinds.{Grid, is_leaf_face, is_leaf_edge}
use Rattle.mesh_model.specs.Fields.Plain.{Mesh}
use Rattle.mesh_model.specs.Geometry.Canonical.{is_canonical, is_canonical_edge}
use Rattle.mesh_model.specs.Geometry.Places.{box_list, in_block, block_cells, block_faces, block_edges}
use Rattle.mesh_model.specs.Fields.RangeWalk.{cells_walked, faces_walked, edges_walked}
use Rattle.mesh_model.specs.Geometry.Canonical.{canonical_face, canonical_edge}
use Rattle.mesh_model.specs.Geometry.Coordinates.{is_same_face, is_same_edge}
use Rattle.mesh_model.specs.Fields.Valid.{ValidMesh}
use Rattle.mesh_model.specs.Language.Words.{is_name, is_letter, is_name_byte, is_reserved}
use Rattle.mesh_model.proofs.TreeLemmas.Tests.{and_left, and_right}
use Rattle.block_tree.proofs.Leaves.{begun_above, begun_parts}
use Rattle.block_tree.proofs.Numbers.{most_few}
use Rattle.byteorder.specs.Numbers.{length-bytes_low_first}
use Rattle.mesh_model.specs.Images.Image.{Head, body, head_bytes, name_bytes, node_code, node_codes, content_bytes, out_bytes, cell_bytes, cell_numbers, face_places, edge_places, leaf_faces, leaf_edges, side_code}
use Rattle.mesh_model.specs.Images.Keyed.{fresh}
use Rattle.mesh_model.specs.Images.Reading.{NamesFit}
use Rattle.check_format.proofs.Spelled.{some_node}

few_each : {A B : Type 0} (f : A → List B) (k : ℕ) (xs : List A) → ((x : A) → length (f x) ≤ k) → length (flat_map f xs) ≤ k * length xs
few_each f k [] h = omega arith
few_each f k (x ∷ xs) h =
    let here = h x in
    let rest = few_each f k xs h in
    let len = length-append (f x) (flat_map f xs) in
    let more : k * suc (length xs) ≡ k * length xs + k = grind arith in
    omega arith

some_each : {A B : Type 0} (f : A → List B) (xs : List A) → ((x : A) → 1 ≤ length (f x)) → length xs ≤ length (flat_map f xs)
some_each f [] h = omega arith
some_each f (x ∷ xs) h =
    let here = h x in
    let rest = some_each f xs h in
    let len = length-append (f x) (flat_map f xs) in
    omega arith

length_range : (a n : ℕ) → length (range_with_len a n) ≡ n
length_range a zero = refl
length_range a (suc n) = ap suc (length_range (a + 1) n)

box_few : {A : Type 0} (a b c : ℕ) (at : ℕ → ℕ → ℕ → A) → length (box_list a b c at) ≤ a * b * c
box_few a b c at =
    let row : (j k : ℕ) → length (map (λ i. at i j k) (range_with_len 0 a)) ≤ a = λ j k. subst (λ u. u ≤ a) (sym (length-map (range_with_len 0 a) (λ i. at i j k) ∙ length_range 0 a)) (omega arith) in
    let plane : (k : ℕ) → length (flat_map (λ j. map (λ i. at i j k) (range_with_len 0 a)) (range_with_len 0 b)) ≤ a * b = λ k. subst (λ u. length (flat_map (λ j. map (λ i. at i j k) (range_with_len 0 a)) (range_with_len 0 b)) ≤ a * u) (length_range 0 b) (few_each (λ j. map (λ i. at i j k) (range_with_len 0 a)) a (range_with_len 0 b) (λ j. row j k)) in
    subst (λ u. length (box_list a b c at) ≤ a * b * u) (length_range 0 c) (few_each (λ k. flat_map (λ j. map (λ i. at i j k) (range_with_len 0 a)) (range_with_len 0 b)) (a * b) (range_with_len 0 c) plane)

filter_few : {A : Type 0} (p : A → Bool) (xs : List A) → length (filter p xs) ≤ length xs
filter_few p [] = omega arith
filter_few p (x ∷ xs) = let rest = filter_few p xs in elim (cases_Bool (p x)) [
  | inl t ↦ subst (λ u. length (if u then x ∷ filter p xs else filter p xs) ≤ suc (length xs)) (sym t) (omega arith)
  | inr f ↦ subst (λ u. length (if u then x ∷ filter p xs else filter p xs) ≤ suc (length xs)) (sym f) (omega arith)
]

fresh_few : {A : Type 0} (same : A → A → Bool) (seen xs : List A) → length (fresh same seen xs) ≤ length xs
fresh_few same seen [] = omega arith
fresh_few same seen (x ∷ xs) = let rest = fresh_few same (x ∷ seen) xs in elim (cases_Bool (list_any (λ b. same b x) seen)) [
  | inl t ↦ subst (λ u. length (if u then fresh same (x ∷ seen) xs else x ∷ fresh same (x ∷ seen) xs) ≤ suc (length xs)) (sym t) (omega arith)
  | inr f ↦ subst (λ u. length (if u then fresh same (x ∷ seen) xs else x ∷ fresh same (x ∷ seen) xs) ≤ suc (length xs)) (sym f) (omega arith)
]

-- ---- what blocks have

cells_few : (n : ℕ) (b : BlockAt) → (n ≡ 4) ⊎ (n ≡ 8) → length (block_cells n b) ≤ 512
cells_few n b (inl e) = subst (λ u. length (block_cells u b) ≤ 512) (sym e) (let h = box_few 4 4 4 (in_block 4 b) in omega arith)
cells_few n b (inr e) = subst (λ u. length (block_cells u b) ≤ 512) (sym e) (let h = box_few 8 8 8 (in_block 8 b) in omega arith)

faces_4 : (b : BlockAt) (a : Axis) → length (block_faces 4 b a) ≤ 576
faces_4 b X = let h = box_few 5 4 4 (λ i j k. face_of X (in_block 4 b i j k)) in omega arith
faces_4 b Y = let h = box_few 4 5 4 (λ i j k. face_of Y (in_block 4 b i j k)) in omega arith
faces_4 b Z = let h = box_few 4 4 5 (λ i j k. face_of Z (in_block 4 b i j k)) in omega arith

faces_8 : (b : BlockAt) (a : Axis) → length (block_faces 8 b a) ≤ 576
faces_8 b X = let h = box_few 9 8 8 (λ i j k. face_of X (in_block 8 b i j k)) in omega arith
faces_8 b Y = let h = box_few 8 9 8 (λ i j k. face_of Y (in_block 8 b i j k)) in omega arith
faces_8 b Z = let h = box_few 8 8 9 (λ i j k. face_of Z (in_block 8 b i j k)) in omega arith

faces_few : (n : ℕ) (b : BlockAt) (a : Axis) → (n ≡ 4) ⊎ (n ≡ 8) → length (block_faces n b a) ≤ 576
faces_few n b a (inl e) = subst (λ u. length (block_faces u b a) ≤ 576) (sym e) (faces_4 b a)
faces_few n b a (inr e) = subst (λ u. length (block_faces u b a) ≤ 576) (sym e) (faces_8 b a)

edges_4 : (b : BlockAt) (a : Axis) → length (block_edges 4 b a) ≤ 648
edges_4 b X = let h = box_few 4 5 5 (λ i j k. edge_of X (in_block 4 b i j k)) in omega arith
edges_4 b Y = let h = box_few 5 4 5 (λ i j k. edge_of Y (in_block 4 b i j k)) in omega arith
edges_4 b Z = let h = box_few 5 5 4 (λ i j k. edge_of Z (in_block 4 b i j k)) in omega arith

edges_8 : (b : BlockAt) (a : Axis) → length (block_edges 8 b a) ≤ 648
edges_8 b X = let h = box_few 8 9 9 (λ i j k. edge_of X (in_block 8 b i j k)) in omega arith
edges_8 b Y = let h = box_few 9 8 9 (λ i j k. edge_of Y (in_block 8 b i j k)) in omega arith
edges_8 b Z = let h = box_few 9 9 8 (λ i j k. edge_of Z (in_block 8 b i j k)) in omega arith

edges_few : (n : ℕ) (b : BlockAt) (a : Axis) → (n ≡ 4) ⊎ (n ≡ 8) → length (block_edges n b a) ≤ 648
edges_few n b a (inl e) = subst (λ u. length (block_edges u b a) ≤ 648) (sym e) (edges_4 b a)
edges_few n b a (inr e) = subst (λ u. length (block_edges u b a) ≤ 648) (sym e) (edges_8 b a)

leaves_few : (bs : List BlockAt) → length bs ≤ length (nodes bs)
unfolding nodes
leaves_few bs = some_each (λ b. begun_at b.level b) bs (λ b. let e = ap length (begun_parts b.level b) in let l = length-append (begun_above b.level b) (b ∷ []) in omega arith)

module _ (m : Mesh) (valid : ValidMesh m) where
  abbrev g : Grid
  g = m.grid

  leaves_bound : length g.leaves ≤ 8192
  leaves_bound = let few = valid.nodes in let most = most_few g.shape in let l = leaves_few g.leaves in omega arith

  cells_bound : length (cells_walked g) ≤ 512 * 8192
  cells_bound =
      let h = few_each (block_cells g.shape.n) 512 g.leaves (λ b. cells_few g.shape.n b valid.grid.shape.cells) in
      let l = leaves_bound in
      omega arith

  faces_bound : length (faces_walked g) ≤ 1728 * 8192
  faces_bound =
      let each : (b : BlockAt) → length (flat_map (λ a. map (canonical_face g.shape) (block_faces g.shape.n b a)) (X ∷ Y ∷ Z ∷ [])) ≤ 1728 = λ b. let h = few_each (λ a. map (canonical_face g.shape) (block_faces g.shape.n b a)) 576 (X ∷ Y ∷ Z ∷ []) (λ a. subst (λ u. u ≤ 576) (sym (length-map (block_faces g.shape.n b a) (canonical_face g.shape))) (faces_few g.shape.n b a valid.grid.shape.cells)) in omega arith in
      let h = few_each (λ b. flat_map (λ a. map (canonical_face g.shape) (block_faces g.shape.n b a)) (X ∷ Y ∷ Z ∷ [])) 1728 g.leaves each in
      let l = leaves_bound in
      omega arith

  edges_bound : length (edges_walked g) ≤ 1944 * 8192
  edges_bound =
      let each : (b : BlockAt) → length (flat_map (λ a. map (canonical_edge g.shape) (block_edges g.shape.n b a)) (X ∷ Y ∷ Z ∷ [])) ≤ 1944 = λ b. let h = few_each (λ a. map (canonical_edge g.shape) (block_edges g.shape.n b a)) 648 (X ∷ Y ∷ Z ∷ []) (λ a. subst (λ u. u ≤ 648) (sym (length-map (block_edges g.shape.n b a) (canonical_edge g.shape))) (edges_few g.shape.n b a valid.grid.shape.cells)) in omega arith in
      let h = few_each (λ b. flat_map (λ a. map (canonical_edge g.shape) (block_edges g.shape.n b a)) (X ∷ Y ∷ Z ∷ [])) 1944 g.leaves each in
      let l = leaves_bound in
      omega arith

  face_count : length (face_places m.names g) ≤ 1728 * 8192
  unfolding leaf_faces
  face_count =
      let one = fresh_few is_same_face [] (filter (λ f. is_canonical g.shape f && is_leaf_face g f) (faces_walked g)) in
      let two = filter_few (λ f. is_canonical g.shape f && is_leaf_face g f) (faces_walked g) in
      let three = faces_bound in
      elim (is_some m.names.face) as (λ u. length (if u then leaf_faces g else []) ≤ 1728 * 8192) [ true ↦ omega arith | false ↦ omega arith ]

  edge_count : length (edge_places m.names g) ≤ 1944 * 8192
  unfolding leaf_edges
  edge_count =
      let one = fresh_few is_same_edge [] (filter (λ f. is_canonical_edge g.shape f && is_leaf_edge g f) (edges_walked g)) in
      let two = filter_few (λ f. is_canonical_edge g.shape f && is_leaf_edge g f) (edges_walked g) in
      let three = edges_bound in
      elim (is_some m.names.edge) as (λ u. length (if u then leaf_edges g else []) ≤ 1944 * 8192) [ true ↦ omega arith | false ↦ omega arith ]

contents_bytes : (zs : List ℤ) (k : ℕ) → length zs ≤ k → length (flat_map content_bytes zs) ≤ 8 * k
contents_bytes zs k h = let e = few_each content_bytes 8 zs (λ z. subst (λ u. u ≤ 8) (sym (length-bytes_low_first 0 8 (cast_unsigned w64 z))) (omega arith)) in omega arith

name_size : (w : List ℕ) → is_name w ≡ true → length (name_bytes w) ≤ 17
unfolding is_name
name_size w t =
    let a = nat_le 1 (length w) in
    let b = nat_le (length w) 16 in
    let c = is_letter (slice_index w 0) in
    let d = list_all is_name_byte w in
    let e = not (is_reserved w) in
    let short = leb-true (length w) 16 (and_right a b (and_left (a && b) c (and_left (a && b && c) d (and_left (a && b && c && d) e t)))) in
    omega arith

names_size : (ws : List (List ℕ)) → AllByRecursion (λ w. is_name w ≡ true) ws → length (flat_map name_bytes ws) ≤ 17 * length ws
names_size [] h = omega arith
names_size (w ∷ ws) h =
    let here = name_size w h.0 in
    let rest = names_size ws h.1 in
    let len = length-append (name_bytes w) (flat_map name_bytes ws) in
    let more : 17 * suc (length ws) ≡ 17 * length ws + 17 = grind arith in
    omega arith

few_option : (o : Option (List ℕ)) → length (option_to_list o) ≤ 1
few_option None = omega arith
few_option (Some x) = omega arith

six_parts : (h l n c f e : List ℕ) → length (((((h ++ l) ++ n) ++ c) ++ f) ++ e) ≡ length h + length l + length n + length c + length f + length e
six_parts h l n c f e = simp length-append

record Between (low high n : ℕ) : Type 0 where
  least : low ≤ n
  most : n ≤ high

head_size : (h : Head) → length h.shape.sides ≡ 6 → NamesFit h.names → Between 25 127 (length (head_bytes h))
head_size h six names =
    let cs = codes "AMRCHK01" in
    let ns = h.turn ∷ h.shape.n ∷ h.shape.g ∷ h.shape.rx ∷ h.shape.ry ∷ h.shape.rz ∷ h.shape.min ∷ h.shape.max ∷ [] in
    let ks = length h.names.cells ∷ length (option_to_list h.names.face) ∷ length (option_to_list h.names.edge) ∷ [] in
    let ss = map side_code h.shape.sides in
    let a = names_size h.names.cells names.cells in
    let b = names_size (option_to_list h.names.face) names.face in
    let c = names_size (option_to_list h.names.edge) names.edge in
    let fb = few_option h.names.face in
    let fc = few_option h.names.edge in
    let fa = names.few in
    let sides_len = length-map h.shape.sides side_code in
    let whole : length (head_bytes h) ≡ 16 + length ss + 3 + length (flat_map name_bytes h.names.cells) + length (flat_map name_bytes (option_to_list h.names.face)) + length (flat_map name_bytes (option_to_list h.names.edge)) = six_parts (cs ++ ns) ss ks (flat_map name_bytes h.names.cells) (flat_map name_bytes (option_to_list h.names.face)) (flat_map name_bytes (option_to_list h.names.edge)) in
    record { least = omega arith; most = omega arith }

pub body_size : (m : Mesh) (turn : ℕ) → ValidMesh m → NamesFit m.names → (30 ≤ length (body m turn)) × (length (body m turn) + 32 ≤ 2 ^ 29)
unfolding body
body_size m turn valid names =
    let h : Head = record { turn = turn; shape = m.grid.shape; names = m.names } in
    let cs = map (cell_numbers m) (range_with_len 0 (length m.names.cells)) in
    let head = head_size h valid.grid.shape.six names in
    let least = head.least in
    let most = head.most in
    let number = length-bytes_low_first 0 4 (length (nodes m.grid.leaves)) in
    let code_len = length-map (nodes m.grid.leaves) (node_code m) in
    let few = valid.nodes in
    let top = most_few m.grid.shape in
    let some = some_node m valid turn in
    let vars = few_variables (range_with_len 0 (length m.names.cells)) in
    let var_count = length_range 0 (length m.names.cells) in
    let four = names.few in
    let faces = contents_bytes (map m.faces (face_places m.names m.grid)) (1728 * 8192) (subst (λ u. u ≤ 1728 * 8192) (sym (length-map (face_places m.names m.grid) m.faces)) (face_count m valid)) in
    let edges = contents_bytes (map m.edges (edge_places m.names m.grid)) (1944 * 8192) (subst (λ u. u ≤ 1944 * 8192) (sym (length-map (edge_places m.names m.grid) m.edges)) (edge_count m valid)) in
    let whole = six_parts (head_bytes h) (bytes_low_first 0 4 (length (nodes m.grid.leaves))) (node_codes m) (flat_map cell_bytes cs) (flat_map content_bytes (map m.faces (face_places m.names m.grid))) (flat_map content_bytes (map m.edges (edge_places m.names m.grid))) in
    (omega arith, omega arith)
  where
    one_variable : (v : ℕ) → length (cell_bytes (cell_numbers m v)) ≤ 16 + 8 * (512 * 8192)
    one_variable v =
        let c = contents_bytes (map (m.cells v) (cells_walked m.grid)) (512 * 8192) (subst (λ u. u ≤ 512 * 8192) (sym (length-map (cells_walked m.grid) (m.cells v))) (cells_bound m valid)) in
        let l = length-append (out_bytes (m.outs v)) (flat_map content_bytes (map (m.cells v) (cells_walked m.grid))) in
        let ob : length (out_bytes (m.outs v)) ≡ 16 = length-bytes_low_first 0 16 (cast_unsigned w128 (m.outs v)) in
        omega arith

    few_variables : (vs : List ℕ) → length (flat_map cell_bytes (map (cell_numbers m) vs)) ≤ (16 + 8 * (512 * 8192)) * length vs
    few_variables [] = omega arith
    few_variables (v ∷ vs) =
        let here = one_variable v in
        let rest = few_variables vs in
        let l = length-append (cell_bytes (cell_numbers m v)) (flat_map cell_bytes (map (cell_numbers m) vs)) in
        omega arith
