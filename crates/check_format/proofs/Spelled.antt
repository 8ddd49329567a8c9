-- The body of an image is the spelling of what is stored, and what is stored of a valid mesh fits.
use Rattle.std.proofs.Common.{◌≡◌, ℕ, zero, suc, ◌+◌, ◌-◌, ◌*◌, ◌^◌, ◌<◌, ◌≤◌, ◌==◌, ◌⊎◌, Bool, true, false, not, ◌&&◌, ◌||◌, cond, if◌then◌else◌, nat_lt, refl, sym, ap, ap₂, subst, ◌∙◌, arith, inl, inr, List, [], ◌∷◌, ◌++◌, map, flat_map, length, append_assoc, Option, Some, None, ℤ, pos, lt-ltb}
use Rattle.std.specs.Prelude.{nat_le, codes, is_some, unwrap_or}
use Rattle.std.specs.List.{list_all, AllByRecursion, range_with_len}
use Rattle.std.specs.Option.{option_to_list}
use Rattle.std.proofs.lemmas.Bool.{cases_Bool, le-leb}
use Rattle.std.proofs.lemmas.List.{append-nil, length-map, map-id}
use Rattle.std.proofs.lemmas.List.Concat.{flat_map_single}
use Rattle.amr_num.specs.declared.BlockAt.{BlockAt}
use Rattle.amr_num.specs.declared.SideKind.{SideKind}
use Rattle.amr_num.specs.Numbers.{Within}
use Rattle.mesh_model.specs.declared.geometry.Shape.{Shape}
use Rattle.mesh_model.specs.Tree.Order.{IsIn, nodes}
use Rattle.mesh_model.specs.Tree.Kinds.{Grid, is_split_block}
use Rattle.mesh_model.specs.Fields.Plain.{Mesh}
use Rattle.mesh_model.specs.Fields.RangeWalk.{cells_walked}
use Rattle.mesh_model.specs.Tree.Start.{start_leaves}
use Rattle.mesh_model.specs.Geometry.Touch.{touches}
use Rattle.mesh_model.specs.Tree.ValidGrid.{Valid}
use Rattle.mesh_model.specs.Fields.Valid.{ValidMesh}
use Rattle.mesh_model.specs.Geometry.Blocks.{InDomain}
use Rattle.mesh_model.proofs.TreeLemmas.Tests.{refuted, and_both, for_all, or_left, or_right}
use Rattle.block_tree.proofs.Leaves.{leaf_node}
use Rattle.byteorder.specs.Endian.{little_bytes}
use Rattle.mesh_model.specs.Images.Fits.{keeps_rule, marks_stand, TreeFits, NumbersFit, CellsFit, StoredFits}
use Rattle.mesh_model.specs.Tree.Forest.{flags_of, visited, lowered}
use Rattle.mesh_model.specs.Images.Image.{Head, Stored, stored, body, head_bytes, side_code, name_bytes, node_code, node_codes, code_of, content_bytes, out_bytes, cell_bytes, cell_numbers, face_places, edge_places, blocks_by, grid_by, is_parent, has_refine, has_derefine}
use Rattle.mesh_model.specs.Images.Reading.{NamesFit, HeadFits, ValuesFit, name, side, head, tree, content, out, values}
use Rattle.check_format.proofs.Again.{blocks_again, grid_again, flags_again}
use Rattle.block_tree.proofs.Forests.{read_again}
use Rattle.std.proofs.lemmas.Nat.{pow_pos}
use Rattle.std.proofs.Math.Nat.{mul-le-mul_right}

-- ---- the bytes

each_same : {A : Type 0} (f g : A → List ℕ) (xs : List A) → ((x : A) → f x ≡ g x) → flat_map f xs ≡ flat_map g xs
each_same f g xs h = ap (λ u. flat_map u xs) (λ i x. h x i)

singles : (bs : List ℕ) → flat_map (λ b. b ∷ []) bs ≡ bs
singles bs = flat_map_single (λ b. b) bs ∙ map-id bs

name_same : (w : List ℕ) → name.write w ≡ name_bytes w
name_same w = ap (λ u. length w ∷ u) (singles w)

-- the bytes of what is stored
unfoldable pub spelling : Stored → List ℕ
spelling s = head.write s.head ++ ((tree s.head.shape).write s.nodes ++ (values s.head.names (grid_by s.head.shape s.nodes)).write (s.cells, (s.faces, s.edges)))

regroup_head : (m k a b c : List ℕ) → m ++ (k ++ (a ++ (b ++ c))) ≡ (((m ++ k) ++ a) ++ b) ++ c
regroup_head m k a b c = simp append_assoc

regroup_body : (h l n c f e : List ℕ) → ((((h ++ l) ++ n) ++ c) ++ f) ++ e ≡ h ++ ((l ++ n) ++ (c ++ (f ++ e)))
regroup_body h l n c f e = simp append_assoc

head_same : (h : Head) → head.write h ≡ head_bytes h
head_same h =
    let cs = codes "AMRCHK01" in
    let ns = h.turn ∷ h.shape.n ∷ h.shape.g ∷ h.shape.rx ∷ h.shape.ry ∷ h.shape.rz ∷ h.shape.min ∷ h.shape.max ∷ [] in
    let ks = length h.names.cells ∷ length (option_to_list h.names.face) ∷ length (option_to_list h.names.edge) ∷ [] in
    let sides_are : flat_map side.write h.shape.sides ≡ map side_code h.shape.sides = flat_map_single side_code h.shape.sides in
    let a = each_same name.write name_bytes h.names.cells name_same in
    let b = each_same name.write name_bytes (option_to_list h.names.face) name_same in
    let c = each_same name.write name_bytes (option_to_list h.names.edge) name_same in
    ap (λ u. cs ++ (ns ++ u)) ((λ i. sides_are i ++ (ks ++ (a i ++ (b i ++ c i)))) ∙ regroup_head (map side_code h.shape.sides) ks (flat_map name_bytes h.names.cells) (flat_map name_bytes (option_to_list h.names.face)) (flat_map name_bytes (option_to_list h.names.edge)))

pub body_is : (m : Mesh) (turn : ℕ) → body m turn ≡ spelling (stored m turn)
unfolding body spelling stored
body_is m turn =
    let h : Head = record { turn = turn; shape = m.grid.shape; names = m.names } in
    let cs = flat_map cell_bytes (map (cell_numbers m) (range_with_len 0 (length m.names.cells))) in
    let fs = flat_map content_bytes (map m.faces (face_places m.names m.grid)) in
    let es = flat_map content_bytes (map m.edges (edge_places m.names m.grid)) in
    let len = sym (length-map (nodes m.grid.leaves) (node_code m)) in
    regroup_body (head_bytes h) (little_bytes 4 (length (nodes m.grid.leaves))) (node_codes m) cs fs es
    ∙ (λ i. head_same_back h i ++ ((little_bytes 4 (len i) ++ singles_back (node_codes m) i) ++ (cs ++ (fs ++ es))))
  where
    head_same_back : (h : Head) → head_bytes h ≡ head.write h
    head_same_back h = sym (head_same h)

    singles_back : (bs : List ℕ) → bs ≡ flat_map (λ b. b ∷ []) bs
    singles_back bs = sym (singles bs)

-- ---- what is stored of a valid mesh

code_small : (s r d : Bool) → code_of s r d ≤ 4
code_small true r d = omega arith
code_small false true true = omega arith
code_small false true false = omega arith
code_small false false true = omega arith
code_small false false false = omega arith

refine_of_code : (s r d : Bool) → has_refine (code_of s r d) ≡ true → r ≡ true
refine_of_code true r d h = absurd cc
refine_of_code false true d h = refl
refine_of_code false false true h = absurd cc
refine_of_code false false false h = absurd cc

derefine_of_code : (s r d : Bool) → has_derefine (code_of s r d) ≡ true → d ≡ true
derefine_of_code true r d h = absurd cc
derefine_of_code false r true h = refl
derefine_of_code false true false h = absurd cc
derefine_of_code false false false h = absurd cc

where_then : (a b : Bool) → (a ≡ true → b ≡ true) → (not a || b) ≡ true
where_then true b h = h refl
where_then false b h = refl

all_codes : (m : Mesh) (bs : List BlockAt) → AllByRecursion (λ c. c ≤ 4) (map (node_code m) bs)
all_codes m [] = tt
all_codes m (b ∷ bs) = (code_small (is_split_block m.grid b) (m.refine b) (m.derefine b), all_codes m bs)

within_all : {A : Type 0} (most : ℕ) (f : A → ℤ) (ks : List A) → ((a : A) → Within most (f a)) → AllByRecursion (Within most) (map f ks)
within_all most f [] h = tt
within_all most f (k ∷ ks) h = (h k, within_all most f ks h)

some_in : (b : BlockAt) (bs : List BlockAt) → IsIn b bs → 0 < length bs
some_in b [] i = absurd i
some_in b (c ∷ bs) i = omega arith

length_range : (a n : ℕ) → length (range_with_len a n) ≡ n
length_range a zero = refl
length_range a (suc n) = ap suc (length_range (a + 1) n)

-- the finest block at the origin
corner : ℕ → BlockAt
corner top = record { level = top; x = 0; y = 0; z = 0 }

-- the test of the level rule passes at valid grids
pub rule_shows : (g : Grid) → Valid g → keeps_rule g ≡ true
unfolding keeps_rule
rule_shows g valid =
    let ls = g.leaves in
    for_all (λ a. list_all (λ b. not (touches g.shape a b) || nat_le a.level (suc b.level)) ls) ls (λ a i.
    for_all (λ b. not (touches g.shape a b) || nat_le a.level (suc b.level)) ls (λ b j.
    where_then (touches g.shape a b) (nat_le a.level (suc b.level)) (λ t. le-leb _ _ (valid.rule.near a b i j t))))

module _ (m : Mesh) (valid : ValidMesh m) (turn : ℕ) where
  marks_from : (bs : List BlockAt) → marks_stand m.grid.shape bs (map (node_code m) bs) ≡ true
  marks_from [] = refl
  marks_from (b ∷ bs) =
      let c = node_code m b in
      let top = m.grid.shape.max in
      let low = m.grid.shape.min in
      let r = where_then (has_refine c) (nat_lt b.level top) (λ t. lt-ltb _ _ (valid.marks.refine b (refine_of_code (is_split_block m.grid b) (m.refine b) (m.derefine b) t)).1) in
      let d = where_then (has_derefine c) (nat_lt low b.level) (λ t. lt-ltb _ _ (valid.marks.derefine b (derefine_of_code (is_split_block m.grid b) (m.refine b) (m.derefine b) t)).1) in
      and_both ((not (has_refine c) || nat_lt b.level top) && (not (has_derefine c) || nat_lt low b.level)) (marks_stand m.grid.shape bs (map (node_code m) bs))
      (and_both (not (has_refine c) || nat_lt b.level top) (not (has_derefine c) || nat_lt low b.level) r d) (marks_from bs)

  pub some_node : 0 < length (nodes m.grid.leaves)
  unfolding corner
  some_node =
      let s = m.grid.shape in
      let shape = valid.grid.shape in
      let domain : InDomain s (corner s.max) = record { level = omega arith; x = root_first s.rx s.max shape.rx; y = root_first s.ry s.max shape.ry; z = root_first s.rz s.max shape.rz } in
      let leaf = valid.grid.tiles.covered (corner s.max) domain refl in
      some_in leaf.0 (nodes m.grid.leaves) (leaf_node m.grid valid.grid leaf.0 leaf.1)
    where
      root_first : (r l : ℕ) → 0 < r → 0 < r * 2 ^ l
      root_first r l h = let p = pow_pos l in let most = mul-le-mul_right {m = 1} {n = r} (2 ^ l) h in omega arith

  pub tree_fits : TreeFits m.grid.shape (node_codes m)
  tree_fits =
      let len = length-map (nodes m.grid.leaves) (node_code m) in
      let few = valid.nodes in
      let some = some_node in
      let s = m.grid.shape in
      record {
        some = omega arith;
        few = omega arith;
        small = all_codes m (nodes m.grid.leaves);
        whole = ap (λ u. is_some (visited s.max u (start_leaves s))) (flags_again m (nodes m.grid.leaves)) ∙ ap is_some (read_again m.grid valid.grid valid.order).0;
        rule = ap keeps_rule (grid_again m valid turn) ∙ rule_shows m.grid valid.grid;
        marks = ap (λ u. marks_stand s u (node_codes m)) (blocks_again m valid turn) ∙ marks_from (nodes m.grid.leaves);
      }

  variables_fit : (vs : List ℕ) → AllByRecursion (CellsFit (length (cells_walked m.grid))) (map (cell_numbers m) vs)
  variables_fit [] = tt
  variables_fit (v ∷ vs) = (
    record {
      out = valid.range.outs v;
      contents = record { count = length-map (cells_walked m.grid) (m.cells v); within = within_all (2 ^ 40) (m.cells v) (cells_walked m.grid) (valid.range.cells v) };
    },
    variables_fit vs,
  )

  pub values_fit : ValuesFit m.names m.grid (map (cell_numbers m) (range_with_len 0 (length m.names.cells)), (map m.faces (face_places m.names m.grid), map m.edges (edge_places m.names m.grid)))
  values_fit = record {
    variables = length-map (range_with_len 0 (length m.names.cells)) (cell_numbers m) ∙ length_range 0 (length m.names.cells);
    cells = variables_fit (range_with_len 0 (length m.names.cells));
    faces = record { count = length-map (face_places m.names m.grid) m.faces; within = within_all (2 ^ 40) m.faces (face_places m.names m.grid) valid.range.faces };
    edges = record { count = length-map (edge_places m.names m.grid) m.edges; within = within_all (2 ^ 40) m.edges (edge_places m.names m.grid) valid.range.edges };
  }
