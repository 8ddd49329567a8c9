-- What is stored of the mesh of what is stored is that, and the mesh is valid.
use Rattle.std.proofs.Common.{◌≡◌, ℕ, zero, suc, ◌+◌, ◌^◌, ◌<◌, ◌≤◌, ◌==◌, Bool, true, false, not, ◌&&◌, ◌||◌, if◌then◌else◌, nat_lt, refl, sym, ap, ap₂, subst, ◌∙◌, arith, inl, inr, List, [], ◌∷◌, map, length, filter, get_or, Option, Some, None, ℤ, pos, eqb-true, ltb-true}
use Rattle.std.specs.Prelude.{is_some, unwrap_or, nat_le}
use Rattle.std.specs.List.{range_with_len, list_all, AllByRecursion}
use Rattle.std.proofs.lemmas.Bool.{cases_lt, leb-true}
use Rattle.std.proofs.lemmas.List.{get_or_past, length-map}
use Rattle.amr_num.specs.declared.BlockAt.{BlockAt}
use Rattle.amr_num.specs.declared.CellAt.{CellAt}
use Rattle.amr_num.specs.declared.FaceAt.{FaceAt}
use Rattle.amr_num.specs.declared.EdgeAt.{EdgeAt}
use Rattle.amr_num.specs.Numbers.{Within}
use Rattle.mesh_model.specs.declared.geometry.Shape.{Shape}
use Rattle.mesh_model.specs.Geometry.Limits.{IsShape}
use Rattle.mesh_model.specs.Tree.Order.{IsIn, Sorted, nodes}
use Rattle.mesh_model.specs.Tree.Kinds.{Grid, is_split_block, is_leaf_face, is_leaf_edge}
use Rattle.mesh_model.specs.Fields.Plain.{Mesh}
use Rattle.mesh_model.specs.Fields.Plain as plain
use Rattle.mesh_model.proofs.TreeLemmas.Tiling.{leaf_shows}
use Rattle.mesh_model.specs.Geometry.Canonical.{is_canonical, is_canonical_edge}
use Rattle.mesh_model.specs.Fields.RangeWalk.{cells_walked, faces_walked, edges_walked}
use Rattle.mesh_model.specs.Geometry.Coordinates.{is_same_cell, is_same_face, is_same_edge}
use Rattle.mesh_model.specs.Geometry.Blocks.{is_same_block}
use Rattle.mesh_model.specs.Tree.Start.{start_leaves}
use Rattle.mesh_model.specs.Geometry.Touch.{touches}
use Rattle.mesh_model.specs.Tree.ValidGrid.{Valid, FewNodes}
use Rattle.mesh_model.specs.Fields.Valid.{ValidMesh, OnLeaves, OfDeclared, InRange}
use Rattle.mesh_model.specs.Tree.MarkedGrid.{MarksFit}
use Rattle.mesh_model.proofs.TreeLemmas.Tests.{and_left, and_right, refuted, of_all, either_true}
use Rattle.mesh_model.proofs.FieldLemmas.Walking.{Member}
use Rattle.block_tree.proofs.Flags.{same_says, same_shows}
use Rattle.mesh_model.proofs.TreeLemmas.Nodes.{nodes_sorted}
use Rattle.mesh_model.specs.Tree.Forest.{visited, lowered}
use Rattle.mesh_model.specs.Images.Fits.{keeps_rule, marks_stand, TreeFits, CellsFit, StoredFits}
use Rattle.mesh_model.specs.Images.Image.{Stored, stored, mesh_of, blocks_by, grid_by, code_of, is_parent, has_refine, has_derefine, marked, of_variable, cell_numbers, face_places, edge_places, leaf_faces, leaf_edges}
use Rattle.mesh_model.specs.Images.Keyed.{value_at}
use Rattle.check_format.proofs.Again.{cell_says, cell_shows, face_says, face_shows, edge_says, edge_shows}
use Rattle.check_format.proofs.Cells.{cells_once, leaf_of_walked, sorted_once}
use Rattle.block_tree.proofs.Forests.{Says, said}
use Rattle.check_format.proofs.Keys.{Once, from_filter, fresh_once, fresh_from, numbers_again, field_off, field_within}

-- ---- marks and codes

miss : (b c : BlockAt) (bs : List BlockAt) → (Member b bs → ⊥) → Member c bs → is_same_block b c ≡ false
miss b c bs out i = refuted _ (λ t. out (subst (λ u. Member u bs) (sym (same_says b c t)) i))

marked_out : (test : ℕ → Bool) (bs : List BlockAt) (cs : List ℕ) (b : BlockAt) → (Member b bs → ⊥) → marked test bs cs b ≡ false
marked_out test [] cs b out = refl
marked_out test (n ∷ bs) [] b out = refl
marked_out test (n ∷ bs) (c ∷ cs) b out =
    ap₂ (λ u w. u || w) (refuted (is_same_block n b && test c) (λ t. out (inl (same_says n b (and_left (is_same_block n b) (test c) t))))) (marked_out test bs cs b (λ i. out (inr i)))

or_none : (t : Bool) → (t || false) ≡ t
or_none true = refl
or_none false = refl

same_tail : (test : ℕ → Bool) (b : BlockAt) (c : ℕ) (bs more : List BlockAt) (cs : List ℕ) → ((d : BlockAt) → Member d more → is_same_block b d ≡ false) → map (marked test (b ∷ bs) (c ∷ cs)) more ≡ map (marked test bs cs) more
same_tail test b c bs [] cs h = refl
same_tail test b c bs (d ∷ more) cs h =
    ap₂ (λ u w. u ∷ w) (ap (λ u. (u && test c) || marked test bs cs d) (h d (inl refl))) (same_tail test b c bs more cs (λ e i. h e (inr i)))

marks_again : (test : ℕ → Bool) (bs : List BlockAt) (cs : List ℕ) → Once bs → length bs ≡ length cs → map (marked test bs cs) bs ≡ map test cs
marks_again test [] [] once e = refl
marks_again test [] (c ∷ cs) once e = absurd (omega arith)
marks_again test (b ∷ bs) [] once e = absurd (omega arith)
marks_again test (b ∷ bs) (c ∷ cs) once e =
    let head : ((is_same_block b b && test c) || marked test bs cs b) ≡ test c = ap₂ (λ u w. (u && test c) || w) (same_shows b b refl) (marked_out test bs cs b once.0) ∙ or_none (test c) in
    ap₂ (λ u w. u ∷ w) head (same_tail test b c bs bs cs (λ d i. miss b d bs once.0 i) ∙ marks_again test bs cs once.1 (omega arith))

pub code_back : (c : ℕ) → c ≤ 4 → code_of (is_parent c) (has_refine c) (has_derefine c) ≡ c
code_back zero h = refl
code_back (suc zero) h = refl
code_back (suc (suc zero)) h = refl
code_back (suc (suc (suc zero))) h = refl
code_back (suc (suc (suc (suc zero)))) h = refl
code_back (suc (suc (suc (suc (suc n))))) h = absurd (omega arith)

pub codes_back : (bs : List BlockAt) (cs : List ℕ) (f r d : BlockAt → Bool) → map f bs ≡ map is_parent cs → map r bs ≡ map has_refine cs → map d bs ≡ map has_derefine cs → AllByRecursion (λ c. c ≤ 4) cs → map (λ b. code_of (f b) (r b) (d b)) bs ≡ cs
codes_back [] [] f r d ef er ed h = refl
codes_back [] (c ∷ cs) f r d ef er ed h = absurd cc
codes_back (b ∷ bs) [] f r d ef er ed h = absurd cc
codes_back (b ∷ bs) (c ∷ cs) f r d ef er ed h =
    let hf : f b ≡ is_parent c = cc in
    let hr : r b ≡ has_refine c = cc in
    let hd : d b ≡ has_derefine c = cc in
    let tf : map f bs ≡ map is_parent cs = cc in
    let tr : map r bs ≡ map has_refine cs = cc in
    let td : map d bs ≡ map has_derefine cs = cc in
    let head : code_of (f b) (r b) (d b) ≡ c = (λ i. code_of (hf i) (hr i) (hd i)) ∙ code_back c h.0 in
    ap₂ (λ u w. u ∷ w) head (codes_back bs cs f r d tf tr td h.1)

pub refine_low : (c : ℕ) → has_refine c ≡ true → is_parent c ≡ false
refine_low c t = elim (either_true (c == 1) (c == 3) t) [
  | inl e ↦ let one = eqb-true c 1 e in ap is_parent one
  | inr e ↦ let one = eqb-true c 3 e in ap is_parent one
]

pub derefine_low : (c : ℕ) → has_derefine c ≡ true → is_parent c ≡ false
derefine_low c t = elim (either_true (c == 2) (c == 3) t) [
  | inl e ↦ let one = eqb-true c 2 e in ap is_parent one
  | inr e ↦ let one = eqb-true c 3 e in ap is_parent one
]

lowered_more : (b : BlockAt) (t : Bool) (flags : List Bool) (n : BlockAt) (bs : List BlockAt) → IsIn b (lowered flags bs) → IsIn b (lowered (t ∷ flags) (n ∷ bs))
lowered_more b true flags n bs i = i
lowered_more b false flags n bs i = inr i

pub implied : (a b : Bool) → (not a || b) ≡ true → a ≡ true → b ≡ true
implied true b h e = h
implied false b h e = absurd cc

module _ (s : Shape) where
  refine_says : (bs : List BlockAt) (cs : List ℕ) (b : BlockAt) → marks_stand s bs cs ≡ true → marked has_refine bs cs b ≡ true → IsIn b (lowered (map is_parent cs) bs) × (b.level < s.max)
  refine_says [] cs b h t = absurd cc
  refine_says (n ∷ bs) [] b h t = absurd cc
  refine_says (n ∷ bs) (c ∷ cs) b h t = elim (either_true (is_same_block n b && has_refine c) (marked has_refine bs cs b) t) [
    | inl hit ↦
        let e = same_says n b (and_left (is_same_block n b) (has_refine c) hit) in
        let has = and_right (is_same_block n b) (has_refine c) hit in
        let test = and_left (not (has_refine c) || nat_lt n.level s.max) (not (has_derefine c) || nat_lt s.min n.level) (and_left ((not (has_refine c) || nat_lt n.level s.max) && (not (has_derefine c) || nat_lt s.min n.level)) (marks_stand s bs cs) h) in
        let low = ltb-true _ _ (implied (has_refine c) (nat_lt n.level s.max) test has) in
        (subst (λ u. IsIn b (lowered (u ∷ map is_parent cs) (n ∷ bs))) (sym (refine_low c has)) (inl e), subst (λ u. u.level < s.max) e low)
    | inr more ↦
        let rest = refine_says bs cs b (and_right ((not (has_refine c) || nat_lt n.level s.max) && (not (has_derefine c) || nat_lt s.min n.level)) (marks_stand s bs cs) h) more in
        (lowered_more b (is_parent c) (map is_parent cs) n bs rest.0, rest.1)
  ]

  derefine_says : (bs : List BlockAt) (cs : List ℕ) (b : BlockAt) → marks_stand s bs cs ≡ true → marked has_derefine bs cs b ≡ true → IsIn b (lowered (map is_parent cs) bs) × (s.min < b.level)
  derefine_says [] cs b h t = absurd cc
  derefine_says (n ∷ bs) [] b h t = absurd cc
  derefine_says (n ∷ bs) (c ∷ cs) b h t = elim (either_true (is_same_block n b && has_derefine c) (marked has_derefine bs cs b) t) [
    | inl hit ↦
        let e = same_says n b (and_left (is_same_block n b) (has_derefine c) hit) in
        let has = and_right (is_same_block n b) (has_derefine c) hit in
        let test = and_right (not (has_refine c) || nat_lt n.level s.max) (not (has_derefine c) || nat_lt s.min n.level) (and_left ((not (has_refine c) || nat_lt n.level s.max) && (not (has_derefine c) || nat_lt s.min n.level)) (marks_stand s bs cs) h) in
        let low = ltb-true _ _ (implied (has_derefine c) (nat_lt s.min n.level) test has) in
        (subst (λ u. IsIn b (lowered (u ∷ map is_parent cs) (n ∷ bs))) (sym (derefine_low c has)) (inl e), subst (λ u. s.min < u.level) e low)
    | inr more ↦
        let rest = derefine_says bs cs b (and_right ((not (has_refine c) || nat_lt n.level s.max) && (not (has_derefine c) || nat_lt s.min n.level)) (marks_stand s bs cs) h) more in
        (lowered_more b (is_parent c) (map is_parent cs) n bs rest.0, rest.1)
  ]

-- ---- the grid

opened : (o : Option (List BlockAt)) → is_some o ≡ true → o ≡ Some (unwrap_or o [])
opened None h = absurd cc
opened (Some bs) h = refl

module _ (s : Shape) (shape : IsShape s) (codes : List ℕ) (fits : TreeFits s codes) where
  run : visited s.max (map is_parent codes) (start_leaves s) ≡ Some (blocks_by s codes)
  unfolding blocks_by
  run = opened (visited s.max (map is_parent codes) (start_leaves s)) fits.whole

  says : Says s (map is_parent codes) (blocks_by s codes)
  says = said s shape (map is_parent codes) (blocks_by s codes) run

  pub grid_valid : Valid (grid_by s codes)
  unfolding grid_by keeps_rule
  grid_valid = record {
    shape = shape;
    tiles = says.tiles;
    rule = record {
      near = λ a b i j t.
          let ls = lowered (map is_parent codes) (blocks_by s codes) in
          let row = of_all (λ u. list_all (λ w. not (touches s u w) || nat_le u.level (suc w.level)) ls) a ls i fits.rule in
          let one = of_all (λ w. not (touches s a w) || nat_le a.level (suc w.level)) b ls j row in
          leb-true _ _ (implied (touches s a b) (nat_le a.level (suc b.level)) one t);
    };
  }

  pub grid_sorted : Sorted (grid_by s codes).leaves
  unfolding grid_by
  grid_sorted = says.order

  pub grid_nodes : nodes (grid_by s codes).leaves ≡ blocks_by s codes
  unfolding grid_by
  grid_nodes = says.nodes_are

  pub grid_flags : map (is_split_block (grid_by s codes)) (nodes (grid_by s codes).leaves) ≡ map is_parent codes
  unfolding grid_by
  grid_flags = says.flags_are

  same_length : length (nodes (grid_by s codes).leaves) ≡ length codes
  same_length = sym (length-map (nodes (grid_by s codes).leaves) (is_split_block (grid_by s codes))) ∙ ap length grid_flags ∙ length-map codes is_parent

  pub grid_shape : (grid_by s codes).shape ≡ s
  unfolding grid_by
  grid_shape = refl

  pub grid_few : FewNodes (grid_by s codes)
  unfolding grid_by
  grid_few = let few = fits.few in let l = same_length in omega arith

  nodes_once : Once (blocks_by s codes)
  nodes_once = subst (λ u. Once u) grid_nodes (sorted_once (nodes (grid_by s codes).leaves) (nodes_sorted (grid_by s codes) grid_valid grid_sorted))

  pub codes_again : map (λ b. code_of (is_split_block (grid_by s codes) b) (marked has_refine (blocks_by s codes) codes b) (marked has_derefine (blocks_by s codes) codes b)) (nodes (grid_by s codes).leaves) ≡ codes
  codes_again =
      let bs = blocks_by s codes in
      let len : length bs ≡ length codes = ap length (sym grid_nodes) ∙ same_length in
      ap (map (λ b. code_of (is_split_block (grid_by s codes) b) (marked has_refine bs codes b) (marked has_derefine bs codes b))) grid_nodes
      ∙ codes_back bs codes (is_split_block (grid_by s codes)) (marked has_refine bs codes) (marked has_derefine bs codes) (ap (map (is_split_block (grid_by s codes))) (sym grid_nodes) ∙ grid_flags) (marks_again has_refine bs codes nodes_once len) (marks_again has_derefine bs codes nodes_once len) fits.small

  pub refine_fits : (b : BlockAt) → marked has_refine (blocks_by s codes) codes b ≡ true → IsIn b (grid_by s codes).leaves × (b.level < s.max)
  unfolding grid_by
  refine_fits b t = refine_says s (blocks_by s codes) codes b fits.marks t

  pub derefine_fits : (b : BlockAt) → marked has_derefine (blocks_by s codes) codes b ≡ true → IsIn b (grid_by s codes).leaves × (s.min < b.level)
  unfolding grid_by
  derefine_fits b t = derefine_says s (blocks_by s codes) codes b fits.marks t

-- ---- numbers

by_places : {A : Type 0} (xs : List A) (a : ℕ) (d : A) (at : ℕ → A) → ((i : ℕ) → i < length xs → at (a + i) ≡ get_or xs i d) → map at (range_with_len a (length xs)) ≡ xs
by_places [] a d at h = refl
by_places (x ∷ xs) a d at h =
    let zero_is : a + 0 ≡ a = omega arith in
    ap₂ (λ u w. u ∷ w) (ap at (sym zero_is) ∙ h 0 (omega arith)) (by_places xs (a + 1) d at (λ i lt.
    let moved : a + 1 + i ≡ a + suc i = omega arith in ap at moved ∙ h (suc i) (omega arith)))

all_at : {A : Type 0} (P : A → Type 0) (xs : List A) (d : A) (i : ℕ) → AllByRecursion P xs → i < length xs → P (get_or xs i d)
all_at P [] d i h lt = absurd (omega arith)
all_at P (x ∷ xs) d zero h lt = h.0
all_at P (x ∷ xs) d (suc i) h lt = all_at P xs d i h.1 (omega arith)

module _ (s : Stored) (fits : StoredFits s) where
  abbrev g : Grid
  g = grid_by s.head.shape s.nodes

  faces_once : Once (face_places s.head.names g)
  unfolding leaf_faces
  faces_once = elim (is_some s.head.names.face) as (λ u. Once (if u then leaf_faces g else [])) [
    | true ↦ fresh_once FaceAt is_same_face face_says face_shows [] (filter (λ h. is_canonical g.shape h && is_leaf_face g h) (faces_walked g))
    | false ↦ tt
  ]

  edges_once : Once (edge_places s.head.names g)
  unfolding leaf_edges
  edges_once = elim (is_some s.head.names.edge) as (λ u. Once (if u then leaf_edges g else [])) [
    | true ↦ fresh_once EdgeAt is_same_edge edge_says edge_shows [] (filter (λ h. is_canonical_edge g.shape h && is_leaf_edge g h) (edges_walked g))
    | false ↦ tt
  ]

  variable_again : (v : ℕ) → v < length s.cells → ((of_variable s v).0, map (value_at is_same_cell (cells_walked g) (of_variable s v).1) (cells_walked g)) ≡ of_variable s v
  variable_again v lt =
      let here = all_at (CellsFit (length (cells_walked g))) s.cells (pos 0, []) v fits.cells lt in
      let same = numbers_again CellAt is_same_cell cell_says cell_shows (cells_walked g) (of_variable s v).1 (cells_once g (grid_sorted s.head.shape fits.shape s.nodes fits.tree)) here.contents.count in
      λ i. ((of_variable s v).0, same i)

  cells_again : map (cell_numbers (mesh_of s)) (range_with_len 0 (length s.head.names.cells)) ≡ s.cells
  unfolding mesh_of
  cells_again =
      ap (λ k. map (cell_numbers (mesh_of s)) (range_with_len 0 k)) (sym fits.variables)
      ∙ by_places s.cells 0 (pos 0, []) (cell_numbers (mesh_of s)) (λ i lt. let zero_i : 0 + i ≡ i = omega arith in ap (cell_numbers (mesh_of s)) zero_i ∙ variable_again i lt)

  pub stored_again : stored (mesh_of s) s.head.turn ≡ s
  unfolding stored mesh_of
  stored_again =
      let shape_is = grid_shape s.head.shape fits.shape s.nodes fits.tree in
      let nodes_are = codes_again s.head.shape fits.shape s.nodes fits.tree in
      let faces_are = numbers_again FaceAt is_same_face face_says face_shows (face_places s.head.names g) s.faces faces_once fits.faces.count in
      let edges_are = numbers_again EdgeAt is_same_edge edge_says edge_shows (edge_places s.head.names g) s.edges edges_once fits.edges.count in
      λ i. record {
        head = record { turn = s.head.turn; shape = shape_is i; names = s.head.names };
        nodes = nodes_are i;
        cells = cells_again i;
        faces = faces_are i;
        edges = edges_are i;
      }

  on_leaves : OnLeaves (mesh_of s)
  unfolding mesh_of leaf_faces leaf_edges
  on_leaves = record {
    cells = λ v c off. field_off CellAt is_same_cell cell_says cell_shows (cells_walked g) (of_variable s v).1 c (λ i. let t = leaf_of_walked g c i in cc);
    faces = λ f off. field_off FaceAt is_same_face face_says face_shows (face_places s.head.names g) s.faces f (λ i. let t = face_passes f i in cc);
    edges = λ e off. field_off EdgeAt is_same_edge edge_says edge_shows (edge_places s.head.names g) s.edges e (λ i. let t = edge_passes e i in cc);
  }
    where
      face_in : (d : Bool) (f : FaceAt) → Member f (if d then leaf_faces g else []) → (is_canonical g.shape f && is_leaf_face g f) ≡ true
      face_in true f i = from_filter (λ h. is_canonical g.shape h && is_leaf_face g h) f (faces_walked g) (fresh_from FaceAt is_same_face face_says face_shows [] (filter (λ h. is_canonical g.shape h && is_leaf_face g h) (faces_walked g)) f i)
      face_in false f i = absurd i

      face_passes : (f : FaceAt) → Member f (face_places s.head.names g) → (is_canonical g.shape f && is_leaf_face g f) ≡ true
      face_passes f i = face_in (is_some s.head.names.face) f i

      edge_in : (d : Bool) (e : EdgeAt) → Member e (if d then leaf_edges g else []) → (is_canonical_edge g.shape e && is_leaf_edge g e) ≡ true
      edge_in true e i = from_filter (λ h. is_canonical_edge g.shape h && is_leaf_edge g h) e (edges_walked g) (fresh_from EdgeAt is_same_edge edge_says edge_shows [] (filter (λ h. is_canonical_edge g.shape h && is_leaf_edge g h) (edges_walked g)) e i)
      edge_in false e i = absurd i

      edge_passes : (e : EdgeAt) → Member e (edge_places s.head.names g) → (is_canonical_edge g.shape e && is_leaf_edge g e) ≡ true
      edge_passes e i = edge_in (is_some s.head.names.edge) e i

  past_none : (v : ℕ) → length s.head.names.cells ≤ v → of_variable s v ≡ (pos 0, [])
  past_none v h = get_or_past s.cells v (pos 0, []) (let e = fits.variables in omega arith)

  no_numbers : (ks : List CellAt) (c : CellAt) → value_at is_same_cell ks [] c ≡ pos 0
  no_numbers [] c = refl
  no_numbers (k ∷ ks) c = refl

  of_declared : OfDeclared (mesh_of s)
  unfolding mesh_of
  of_declared = record {
    few = fits.names;
    cells = λ v h c. ap (λ (u : ℤ × List ℤ). value_at is_same_cell (cells_walked g) u.1 c) (past_none v h) ∙ no_numbers (cells_walked g) c;
    outs = λ v h. ap (λ (u : ℤ × List ℤ). u.0) (past_none v h);
    faces = λ none f. ap (λ u. value_at is_same_face (if is_some u then leaf_faces g else []) s.faces f) none;
    edges = λ none e. ap (λ u. value_at is_same_edge (if is_some u then leaf_edges g else []) s.edges e) none;
  }

  variable_within : (v : ℕ) → Within (2 ^ 100) (of_variable s v).0 × AllByRecursion (Within (2 ^ 40)) (of_variable s v).1
  variable_within v = elim (cases_lt v (length s.cells)) [
    | inl lt ↦ let here = all_at (CellsFit (length (cells_walked g))) s.cells (pos 0, []) v fits.cells lt in (here.out, here.contents.within)
    | inr le ↦ subst (λ (u : ℤ × List ℤ). Within (2 ^ 100) u.0 × AllByRecursion (Within (2 ^ 40)) u.1) (sym (get_or_past s.cells v (pos 0, []) le)) (omega arith, tt)
  ]

  in_range : InRange (mesh_of s)
  unfolding mesh_of
  in_range = record {
    cells = λ v c. field_within CellAt is_same_cell cell_says cell_shows (2 ^ 40) (cells_walked g) (of_variable s v).1 c (variable_within v).1;
    outs = λ v. (variable_within v).0;
    faces = λ f. field_within FaceAt is_same_face face_says face_shows (2 ^ 40) (face_places s.head.names g) s.faces f fits.faces.within;
    edges = λ e. field_within EdgeAt is_same_edge edge_says edge_shows (2 ^ 40) (edge_places s.head.names g) s.edges e fits.edges.within;
  }

  marks_fit : MarksFit (plain.marked (mesh_of s))
  unfolding mesh_of grid_by
  marks_fit = record {
    refine = λ b t. let fit = refine_fits s.head.shape fits.shape s.nodes fits.tree b t in (leaf_shows g b fit.0, fit.1);
    derefine = λ b t. let fit = derefine_fits s.head.shape fits.shape s.nodes fits.tree b t in (leaf_shows g b fit.0, fit.1);
  }

  pub mesh_valid : ValidMesh (mesh_of s)
  unfolding mesh_of
  mesh_valid = record {
    grid = grid_valid s.head.shape fits.shape s.nodes fits.tree;
    order = grid_sorted s.head.shape fits.shape s.nodes fits.tree;
    nodes = grid_few s.head.shape fits.shape s.nodes fits.tree;
    numbers = on_leaves;
    declared = of_declared;
    range = in_range;
    marks = marks_fit;
  }
