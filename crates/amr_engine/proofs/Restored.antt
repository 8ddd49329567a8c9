-- The mesh of an image that was read is the one that an engine has of its parts.
use Rattle.std.proofs.Common.{◌≡◌, ◌⊎◌, inl, inr, ℕ, zero, suc, Bool, true, false, List, [], ◌∷◌, length, get_or, drop, map, Result, Ok, Err, ℤ, pos, zip, refl, sym, ap, subst, ◌∙◌, arith}
use Rattle.std.specs.Prelude.{◌↔◌, None, slice_index_or}
use Rattle.std.specs.List.{range_with_len}
use Rattle.std.proofs.lemmas.Bool.{cases_Bool}
use Rattle.std.proofs.lemmas.List.{length-map}
use Rattle.amr_num.specs.declared.BlockAt.{BlockAt}
use Rattle.block_store.specs.Held.{numbers}
use Rattle.block_tree.specs.GridOf.{grid_of}
use Rattle.block_tree.specs.Marked.{derefine_of, refine_of}
use Rattle.block_tree.specs.declared.marks.Marks.{Marks}
use Rattle.block_tree.proofs.Leaves.{leaf_node, split_leaf}
use Rattle.check_format.specs.Nodes.{codes_of}
use Rattle.check_format.specs.ReadImages.{IsRead, stored_in}
use Rattle.check_format.specs.declared.reading.images.Image.{Image}
use Rattle.check_format.proofs.Final.{images_are_read, read_is_image}
use Rattle.mesh_model.specs.Fields.Arrays.{Counts}
use Rattle.mesh_model.specs.Fields.Plain.{Mesh}
use Rattle.mesh_model.specs.Fields.Ranks.{WorldState}
use Rattle.mesh_model.specs.Geometry.Limits.{most_nodes}
use Rattle.mesh_restore.specs.Restoring.{IsStoredOf}
use Rattle.rank_world.specs.Holding.{IsOfMesh}
use Rattle.amr_engine.specs.EngineMesh as engine
use Rattle.amr_engine.specs.EngineMesh.{IsLaidOut}
use Rattle.amr_engine.proofs.Shown.{laid_shown, mesh_shown}
use Rattle.mesh_model.specs.Fields.RangeWalk.{cells_walked}
use Rattle.mesh_model.specs.Fields.Valid.{ValidMesh}
use Rattle.mesh_model.specs.Fields.VariableNames.{VariableNames}
use Rattle.mesh_model.specs.Images.Image.{Stored, cell_numbers, code_of, edge_places, face_places, grid_by, mesh_of, node_code, node_codes, stored}
use Rattle.mesh_model.specs.Images.Laws.{IsImage}
use Rattle.mesh_model.specs.Images.Reading.{NamesFit, read}
use Rattle.mesh_model.specs.Tree.Kinds.{Grid, is_leaf_block, is_split_block}
use Rattle.mesh_model.specs.Tree.Order.{IsIn, nodes}
use Rattle.mesh_model.specs.Tree.ValidGrid.{Valid}
use Rattle.mesh_model.proofs.FieldLemmas.Walking.{Member, in_leaves}
use Rattle.mesh_model.proofs.TreeLemmas.Tests.{refuted}
use Rattle.mesh_model.proofs.TreeLemmas.Tiling.{leaf_says}

-- what two lists of the same places have in common
same_at : {A : Type 0} (f k : A → ℕ) (xs : List A) (b : A) → map f xs ≡ map k xs → Member b xs → f b ≡ k b
same_at f k [] b e there = absurd there
same_at f k (x ∷ xs) b e (inl is) = subst (λ y. f y ≡ k y) is (ap (λ l. get_or l 0 (f x)) e)
same_at f k (x ∷ xs) b e (inr more) = same_at f k xs b (ap (drop 1) e) more

same_tests : (x y : Bool) → (x ≡ true → x ≡ y) → (y ≡ true → x ≡ y) → x ≡ y
same_tests true y if_x if_y = if_x refl
same_tests false true if_x if_y = if_y refl
same_tests false false if_x if_y = refl

-- the code of a leaf tells its marks
code_tells : (r d p q : Bool) → code_of false r d ≡ code_of false p q → (r ≡ p) × (d ≡ q)
code_tells true true true true e = (refl, refl)
code_tells true true true false e = absurd (omega (arith, e))
code_tells true true false true e = absurd (omega (arith, e))
code_tells true true false false e = absurd (omega (arith, e))
code_tells true false true true e = absurd (omega (arith, e))
code_tells true false true false e = (refl, refl)
code_tells true false false true e = absurd (omega (arith, e))
code_tells true false false false e = absurd (omega (arith, e))
code_tells false true true true e = absurd (omega (arith, e))
code_tells false true true false e = absurd (omega (arith, e))
code_tells false true false true e = (refl, refl)
code_tells false true false false e = absurd (omega (arith, e))
code_tells false false true true e = absurd (omega (arith, e))
code_tells false false true false e = absurd (omega (arith, e))
code_tells false false false true e = absurd (omega (arith, e))
code_tells false false false false e = (refl, refl)

-- the first and the second of a list of pairs
zip_first : (xs : List ℤ) (ys : List (List ℤ)) (v : ℕ) → length xs ≡ length ys → (slice_index_or (zip xs ys) v (pos 0, [])).0 ≡ get_or xs v (pos 0)
zip_first [] [] v same = refl
zip_first [] (y ∷ ys) v same = absurd (omega (arith, same))
zip_first (x ∷ xs) [] v same = absurd (omega (arith, same))
zip_first (x ∷ xs) (y ∷ ys) zero same = refl
zip_first (x ∷ xs) (y ∷ ys) (suc v) same = zip_first xs ys v (omega (arith, same))

ok_same : {A E : Type 0} {x y : A} → ◌≡◌ {A = Result A E} (Ok x) (Ok y) → x ≡ y
ok_same e = cc e

module _ (im : Image) (was : IsRead im) where
  is_image : IsImage was.bytes (mesh_of (stored_in im)) (stored_in im).head.turn
  is_image = read_is_image was.bytes (stored_in im) was.are was.read

  pub read_valid : ValidMesh (mesh_of (stored_in im))
  read_valid = is_image.valid

  pub read_names : NamesFit im.declared.names
  unfolding mesh_of stored_in
  read_names = is_image.names

  pub read_named : (mesh_of (stored_in im)).names ≡ im.declared.names
  unfolding mesh_of stored_in
  read_named = refl

  pub read_grid : (mesh_of (stored_in im)).grid ≡ grid_of im.tree
  unfolding mesh_of stored_in
  read_grid = was.whole.grid

  -- what is stored of the mesh is what was read
  pub read_stored : stored (mesh_of (stored_in im)) (stored_in im).head.turn ≡ stored_in im
  read_stored =
      let m = mesh_of (stored_in im) in
      let turn = (stored_in im).head.turn in
      ok_same (sym (images_are_read m turn is_image.valid is_image.names is_image.small) ∙ ap read (sym is_image.spelled) ∙ was.read)

  codes_same : node_codes (mesh_of (stored_in im)) ≡ codes_of (grid_of im.tree) im.marks
  unfolding stored stored_in
  codes_same = ap (λ (s : Stored). s.nodes) read_stored

  leaf_codes : (b : BlockAt) → is_leaf_block (grid_of im.tree) b ≡ true → node_code (mesh_of (stored_in im)) b ≡ code_of (is_split_block (grid_of im.tree) b) (refine_of (grid_of im.tree) im.marks b) (derefine_of (grid_of im.tree) im.marks b)
  unfolding codes_of
  leaf_codes b leaf =
      let m = mesh_of (stored_in im) in
      let g = grid_of im.tree in
      let valid : Valid g = subst Valid read_grid read_valid.grid in
      same_at (node_code m) (λ c. code_of (is_split_block g c) (refine_of g im.marks c) (derefine_of g im.marks c)) (nodes g.leaves) b
      (ap (λ (h : Grid). map (node_code m) (nodes h.leaves)) (sym read_grid) ∙ codes_same) (in_leaves b (nodes g.leaves) (leaf_node g valid b (leaf_says g b leaf)))

  marks_at : (b : BlockAt) → is_leaf_block (grid_of im.tree) b ≡ true → ((mesh_of (stored_in im)).refine b ≡ refine_of (grid_of im.tree) im.marks b) × ((mesh_of (stored_in im)).derefine b ≡ derefine_of (grid_of im.tree) im.marks b)
  marks_at b leaf =
      let m = mesh_of (stored_in im) in
      let g = grid_of im.tree in
      let valid : Valid g = subst Valid read_grid read_valid.grid in
      let whole : is_split_block g b ≡ false = refuted (is_split_block g b) (λ t. let odd : true ≡ false = sym leaf ∙ split_leaf g valid b t in cc odd) in
      let whole_m : is_split_block m.grid b ≡ false = ap (λ h. is_split_block h b) read_grid ∙ whole in
      code_tells (m.refine b) (m.derefine b) (refine_of g im.marks b) (derefine_of g im.marks b)
      (sym (ap (λ t. code_of t (m.refine b) (m.derefine b)) whole_m) ∙ leaf_codes b leaf ∙ ap (λ t. code_of t (refine_of g im.marks b) (derefine_of g im.marks b)) whole)

  in_grid : (b : BlockAt) → is_leaf_block (mesh_of (stored_in im)).grid b ≡ true → is_leaf_block (grid_of im.tree) b ≡ true
  in_grid b leaf = subst (λ h. is_leaf_block h b ≡ true) read_grid leaf

  pub read_refine : (b : BlockAt) → refine_of (grid_of im.tree) im.marks b ≡ (mesh_of (stored_in im)).refine b
  read_refine b = sym (same_tests _ _ (λ t. (marks_at b (in_grid b (read_valid.marks.refine b t).0)).0) (λ t. (marks_at b (was.whole.marks.fit.refine b t).0).0))

  pub read_derefine : (b : BlockAt) → derefine_of (grid_of im.tree) im.marks b ≡ (mesh_of (stored_in im)).derefine b
  read_derefine b = sym (same_tests _ _ (λ t. (marks_at b (in_grid b (read_valid.marks.derefine b t).0)).1) (λ t. (marks_at b (was.whole.marks.fit.derefine b t).0).1))

  pub read_outs : (v : ℕ) → get_or im.outs.items v (pos 0) ≡ (mesh_of (stored_in im)).outs v
  unfolding mesh_of stored_in
  read_outs v = sym (zip_first im.outs.items (map (λ contents. contents.items) im.cells.items) v (omega (arith, was.whole.outs, was.whole.cells, length-map im.cells.items (λ contents. contents.items))))

-- the second of a list of pairs
zip_second : (xs : List ℤ) (ys : List (List ℤ)) → length xs ≡ length ys → map (λ (p : ℤ × List ℤ). p.1) (zip xs ys) ≡ ys
zip_second [] [] same = refl
zip_second [] (y ∷ ys) same = absurd (omega (arith, same))
zip_second (x ∷ xs) [] same = absurd (omega (arith, same))
zip_second (x ∷ xs) (y ∷ ys) same = ap (λ l. y ∷ l) (zip_second xs ys (omega (arith, same)))

map_second : (f : ℕ → ℤ × List ℤ) (vs : List ℕ) → map (λ (p : ℤ × List ℤ). p.1) (map f vs) ≡ map (λ v. (f v).1) vs
map_second f [] = refl
map_second f (v ∷ vs) = ap (λ l. (f v).1 ∷ l) (map_second f vs)

-- the lists of the image are those of the mesh
module _ (im : Image) (was : IsRead im) where
  read_contents : numbers im.cells.items ≡ map (λ v. map ((mesh_of (stored_in im)).cells v) (cells_walked (mesh_of (stored_in im)).grid)) (range_with_len 0 (length (mesh_of (stored_in im)).names.cells))
  unfolding stored stored_in
  read_contents =
      let m = mesh_of (stored_in im) in
      let vs = range_with_len 0 (length m.names.cells) in
      let same : map (cell_numbers m) vs ≡ zip im.outs.items (map (λ contents. contents.items) im.cells.items) = ap (λ (s : Stored). s.cells) (read_stored im was) in
      sym (sym (map_second (cell_numbers m) vs) ∙ ap (λ (ps : List (ℤ × List ℤ)). map (λ (p : ℤ × List ℤ). p.1) ps) same
      ∙ zip_second im.outs.items (map (λ contents. contents.items) im.cells.items) (omega (arith, was.whole.outs, was.whole.cells, length-map im.cells.items (λ contents. contents.items))))

  read_faces : im.faces.items ≡ map (mesh_of (stored_in im)).faces (face_places (mesh_of (stored_in im)).names (mesh_of (stored_in im)).grid)
  unfolding stored stored_in
  read_faces = sym (ap (λ (s : Stored). s.faces) (read_stored im was))

  read_edges : im.edges.items ≡ map (mesh_of (stored_in im)).edges (edge_places (mesh_of (stored_in im)).names (mesh_of (stored_in im)).grid)
  unfolding stored stored_in
  read_edges = sym (ap (λ (s : Stored). s.edges) (read_stored im was))

  pub read_lists : (n : Counts) → n.cells ≡ length im.declared.names.cells → (n.faces ≡ 0) ↔ (im.declared.names.face ≡ None) → (n.edges ≡ 0) ↔ (im.declared.names.edge ≡ None) →
      IsStoredOf (mesh_of (stored_in im)) (grid_of im.tree) n (numbers im.cells.items) im.faces.items im.edges.items
  read_lists n cells faces edges = record {
    grid = sym (read_grid im was);
    layout = record {
      cells = cells ∙ ap (λ (v : VariableNames). length v.cells) (sym (read_named im was));
      faces = subst (λ (v : VariableNames). (n.faces ≡ 0) ↔ (v.face ≡ None)) (sym (read_named im was)) faces;
      edges = subst (λ (v : VariableNames). (n.edges ≡ 0) ↔ (v.edge ≡ None)) (sym (read_named im was)) edges;
    };
    cells = read_contents;
    faces = read_faces;
    edges = read_edges;
  }

  -- the engine of these parts has the mesh of the image
  pub restored_is : (w : WorldState) → IsOfMesh w (mesh_of (stored_in im)) → engine.mesh_of im.declared.names w im.outs.items im.marks ≡ mesh_of (stored_in im)
  restored_is w of =
      mesh_shown im.declared.names w im.outs.items im.marks (mesh_of (stored_in im)) of (read_valid im was) (sym (read_named im was)) (read_outs im was)
      (λ b. ap (λ h. refine_of h im.marks b) (of.grid ∙ read_grid im was) ∙ read_refine im was b) (λ b. ap (λ h. derefine_of h im.marks b) (of.grid ∙ read_grid im was) ∙ read_derefine im was b)

  pub restored_laid : (w : WorldState) → IsOfMesh w (mesh_of (stored_in im)) → IsLaidOut im.declared.names w im.outs.items im.marks
  restored_laid w of =
      laid_shown im.declared.names w im.outs.items im.marks (mesh_of (stored_in im)) of (read_valid im was) (sym (read_named im was)) was.whole.outs
      (was.whole.room ∙ ap most_nodes (sym was.whole.shape ∙ sym (ap (λ (h : Grid). h.shape) (of.grid ∙ read_grid im was))))

  pub restored_valid : (w : WorldState) → IsOfMesh w (mesh_of (stored_in im)) → ValidMesh (engine.mesh_of im.declared.names w im.outs.items im.marks)
  restored_valid w of = subst ValidMesh (sym (restored_is w of)) (read_valid im was)

  pub restored_shape : (w : WorldState) → IsOfMesh w (mesh_of (stored_in im)) → w.told.grid.shape ≡ im.declared.shape
  restored_shape w of = ap (λ (h : Grid). h.shape) (of.grid ∙ read_grid im was) ∙ was.whole.shape
