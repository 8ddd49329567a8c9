-- Where the walk finds no number out of range, all numbers are in range.
use Rattle.std.proofs.Common.{◌≡◌, ℕ, zero, suc, ◌+◌, ◌*◌, ◌/◌, ◌%◌, ◌^◌, ◌<◌, ◌≤◌, ◌⊎◌, Bool, true, false, cond, ℤ, pos, refl, sym, ap, ap₂, ◌∙◌, arith, inl, inr, subst, List, [], ◌∷◌, ◌++◌, map, length, Option, Some, None, find, not, ◌&&◌, ◌||◌, ◌-◌, eq-eqb, ne_eqb, ltb-true}
use Rattle.std.specs.Prelude.{nat_lt, if◌then◌else◌, flat_map, unsigned_abs}
use Rattle.std.specs.List.{range_with_len, list_any}
use Rattle.std.specs.Option.{option_or, option_map, unwrap_or}
use Rattle.std.proofs.Math.Nat.{div-add-mod}
use Rattle.std.proofs.lemmas.Bool.{cases_Bool, cases_lt, lt-ltb, le-ltb}
use Rattle.amr_num.specs.declared.BlockAt.{BlockAt}
use Rattle.amr_num.specs.declared.CellAt.{CellAt}
use Rattle.amr_num.specs.Numbers.{Within}
use Rattle.amr_num.specs.declared.Axis.{Axis}
use Rattle.amr_num.specs.declared.Axis.TheVariants.{X, Y, Z}
use Rattle.amr_num.specs.declared.FaceAt.{FaceAt}
use Rattle.amr_num.specs.declared.EdgeAt.{EdgeAt}
use Rattle.mesh_model.proofs.GeometryLemmas.OnAxes.{on_with, with_own, with_with, with_level}
use Rattle.mesh_model.specs.declared.geometry.Shape.{Shape}
use Rattle.mesh_model.specs.declared.fields.spot.RangeStop.{RangeStop}
use Rattle.mesh_model.specs.Geometry.Limits.{IsShape}
use Rattle.mesh_model.specs.Geometry.Coordinates.{on, with, extent, is_periodic, below, above, wrapped, moved, moved_twice, next, face_of, edge_of, face_numbers, edge_numbers, low_cell, high_cell, round_edge}
use Rattle.mesh_model.specs.Tree.Kinds.{Grid, block_of, is_leaf, holds, is_leaf_face, is_split_face, is_leaf_edge, is_split_edge}
use Rattle.mesh_model.specs.Fields.Plain.{Mesh}
use Rattle.mesh_model.specs.Geometry.Canonical.{is_canonical, is_canonical_edge, is_canonical_at, canonical_face, canonical_edge}
use Rattle.mesh_model.specs.Tree.Order.{IsIn}
use Rattle.mesh_model.specs.Fields.Valid.{OnLeaves, OfDeclared}
use Rattle.mesh_model.specs.Fields.RangeWalk.{cell_above, out_above, face_above, edge_above, first_cell_above, cells_walked, faces_walked, edges_walked, is_above, first_of_all, variables, first_excess}
use Rattle.mesh_model.specs.Geometry.Places.{box_list, in_block, block_cells, block_faces, block_edges}
use Rattle.mesh_model.proofs.GeometryLemmas.ShapeLimits.{cells_some, extent_some}
use Rattle.mesh_model.proofs.TreeLemmas.Tests.{and_left, and_right, either_true}
use Rattle.mesh_model.proofs.TreeLemmas.Tiling.{leaf_says}

-- ---- members of lists

abbrev pub Member : {A : Type 0} → A → List A → Type 0
Member a [] = ⊥
Member a (b ∷ bs) = (b ≡ a) ⊎ Member a bs

pub member_left : {A : Type 0} (a : A) (xs ys : List A) → Member a xs → Member a (xs ++ ys)
member_left a [] ys h = absurd h
member_left a (x ∷ xs) ys (inl e) = inl e
member_left a (x ∷ xs) ys (inr i) = inr (member_left a xs ys i)

pub member_right : {A : Type 0} (a : A) (xs ys : List A) → Member a ys → Member a (xs ++ ys)
member_right a [] ys h = h
member_right a (x ∷ xs) ys h = inr (member_right a xs ys h)

pub member_flat : {A B : Type 0} (f : A → List B) (a : A) (b : B) (xs : List A) → Member a xs → Member b (f a) → Member b (flat_map f xs)
member_flat f a b [] i h = absurd i
member_flat f a b (x ∷ xs) (inl e) h = member_left b (f x) (flat_map f xs) (subst (λ u. Member b (f u)) (sym e) h)
member_flat f a b (x ∷ xs) (inr i) h = member_right b (f x) (flat_map f xs) (member_flat f a b xs i h)

pub member_map : {A B : Type 0} (f : A → B) (a : A) (xs : List A) → Member a xs → Member (f a) (map f xs)
member_map f a [] i = absurd i
member_map f a (x ∷ xs) (inl e) = inl (ap f e)
member_map f a (x ∷ xs) (inr i) = inr (member_map f a xs i)

pub member_range : (a n m : ℕ) → a ≤ m → m < a + n → Member m (range_with_len a n)
member_range a zero m low high = absurd (omega arith)
member_range a (suc n) m low high = elim (cases_lt a m) [
  | inl lt ↦ inr (member_range (a + 1) n m (omega arith) (omega arith))
  | inr le ↦ inl (omega arith)
]

pub member_box : {A : Type 0} (a b c i j k : ℕ) (at : ℕ → ℕ → ℕ → A) → i < a → j < b → k < c → Member (at i j k) (box_list a b c at)
member_box a b c i j k at hi hj hk =
    member_flat (λ w. flat_map (λ v. map (λ u. at u v w) (range_with_len 0 a)) (range_with_len 0 b)) k (at i j k) (range_with_len 0 c) (member_range 0 c k (omega arith) (omega arith))
    (member_flat (λ v. map (λ u. at u v k) (range_with_len 0 a)) j (at i j k) (range_with_len 0 b) (member_range 0 b j (omega arith) (omega arith))
    (member_map (λ u. at u j k) i (range_with_len 0 a) (member_range 0 a i (omega arith) (omega arith))))

pub in_leaves : (b : BlockAt) (bs : List BlockAt) → IsIn b bs → Member b bs
in_leaves b [] i = absurd i
in_leaves b (c ∷ bs) (inl e) = inl e
in_leaves b (c ∷ bs) (inr i) = inr (in_leaves b bs i)

-- ---- nothing found

find_none : {A : Type 0} (test : A → Bool) (a : A) (xs : List A) → find test xs ≡ None → Member a xs → test a ≡ false
find_none test a [] h i = absurd i
find_none test a (x ∷ xs) h i = elim (cases_Bool (test x)) [
  | inl t ↦ let some : find test (x ∷ xs) ≡ Some x = ap (λ u. cond u (Some x) (find test xs)) t in absurd (differ x (sym some ∙ h))
  | inr f ↦
      let rest : find test xs ≡ None = sym (ap (λ u. cond u (Some x) (find test xs)) f) ∙ h in
      elim i [
        | inl e ↦ ap test (sym e) ∙ f
        | inr j ↦ find_none test a xs rest j
      ]
]
  where
    differ : {A : Type 0} (x : A) → Some x ≡ None → ⊥
    differ x e = cc

pub or_none : {A : Type 0} (p q : Option A) → option_or p q ≡ None → (p ≡ None) × (q ≡ None)
or_none None q h = (refl, h)
or_none (Some x) q h = cc

map_none : {A B : Type 0} (f : A → B) (p : Option A) → option_map f p ≡ None → p ≡ None
map_none f None h = refl
map_none f (Some x) h = cc

all_none : (at : ℕ → Option RangeStop) (v : ℕ) (vs : List ℕ) → first_of_all at vs ≡ None → Member v vs → at v ≡ None
all_none at v [] h i = absurd i
all_none at v (w ∷ vs) h (inl e) = ap at (sym e) ∙ (or_none (at w) (first_of_all at vs) h).0
all_none at v (w ∷ vs) h (inr i) = all_none at v vs (or_none (at w) (first_of_all at vs) h).1 i

not_above : (most : ℕ) (z : ℤ) → is_above most z ≡ false → Within most z
not_above most z h = elim (cases_lt most (unsigned_abs z)) [
  | inl lt ↦ let t = lt-ltb most (unsigned_abs z) lt in cc
  | inr le ↦ le
]

zero_within : (most : ℕ) (z : ℤ) → z ≡ pos 0 → Within most z
zero_within most z e = subst (λ u. Within most u) (sym e) (omega arith)

-- ---- each leaf cell is walked

pub cell_walked : (g : Grid) (c : CellAt) → 0 < g.shape.n → is_leaf g c ≡ true → Member c (cells_walked g)
cell_walked g c some t =
    let n = g.shape.n in
    let b = block_of n c in
    let one : (u : ℕ) → n * (u / n) + u % n ≡ u = λ u. div-add-mod u n in
    let same : in_block n b (c.x % n) (c.y % n) (c.z % n) ≡ c = λ i. record { level = c.level; x = one c.x i; y = one c.y i; z = one c.z i } in
    member_flat (block_cells n) b c g.leaves (in_leaves b g.leaves (leaf_says g b t))
    (subst (λ u. Member u (block_cells n b)) same (member_box n n n (c.x % n) (c.y % n) (c.z % n) (in_block n b) (small c.x n some) (small c.y n some) (small c.z n some)))
  where
    small : (u n : ℕ) → 0 < n → u % n < n
    small u n h = omega arith

pub contents_in_range : (m : Mesh) → 0 < m.grid.shape.n → OnLeaves m → OfDeclared m → first_excess m ≡ None → (v : ℕ) (c : CellAt) → Within (2 ^ 40) (m.cells v c)
unfolding first_excess
contents_in_range m some on declared h v c = elim (cases_lt v (length m.names.cells)) [
  | inl lt ↦ elim (cases_Bool (is_leaf m.grid c)) [
    | inl t ↦
        let none = (or_none _ _ h).0 in
        let here = map_none (cell_above m v) (find (λ d. is_above (2 ^ 40) (m.cells v d)) (cells_walked m.grid)) (all_none (first_cell_above m) v (variables m) none (member_range 0 (length m.names.cells) v (omega arith) (omega arith))) in
        not_above (2 ^ 40) (m.cells v c) (find_none (λ d. is_above (2 ^ 40) (m.cells v d)) c (cells_walked m.grid) here (cell_walked m.grid c some t))
    | inr f ↦ zero_within (2 ^ 40) (m.cells v c) (on.cells v c f)
  ]
  | inr le ↦ zero_within (2 ^ 40) (m.cells v c) (declared.cells v le c)
]

pub outs_in_range : (m : Mesh) → OfDeclared m → first_excess m ≡ None → (v : ℕ) → Within (2 ^ 100) (m.outs v)
unfolding first_excess
outs_in_range m declared h v = elim (cases_lt v (length m.names.cells)) [
  | inl lt ↦
      let place : Member v (variables m) = member_range 0 (length m.names.cells) v (omega arith) (omega arith) in
      let rest = (or_none _ _ h).1 in
      let here = map_none (out_above m) (find (λ u. is_above (2 ^ 100) (m.outs u)) (variables m)) (or_none _ _ rest).0 in
      not_above (2 ^ 100) (m.outs v) (find_none (λ u. is_above (2 ^ 100) (m.outs u)) v (variables m) here place)
  | inr le ↦ zero_within (2 ^ 100) (m.outs v) (declared.outs v le)
]

-- ---- each canonical leaf face is walked

some_is : {A : Type 0} {a b : A} → Some a ≡ Some b → a ≡ b
some_is {a = a} h = ap (λ o. unwrap_or o a) h

named : (s : Shape) (a : Axis) (q : ℕ) (d : CellAt) → canonical_face s (face_of a (with a q d)) ≡ face_of a (with a (wrapped (is_periodic s a) (extent s a d.level) q) d)
named s a q d =
    ap (λ l. face_of a (with a (wrapped (is_periodic s a) (extent s a l) (on a (with a q d))) (with a q d))) (with_level a q d)
    ∙ ap (λ p. face_of a (with a (wrapped (is_periodic s a) (extent s a d.level) p) (with a q d))) (on_with a q d)
    ∙ ap (face_of a) (with_with a (wrapped (is_periodic s a) (extent s a d.level) q) q d)

abbrev axes : List Axis
axes = X ∷ Y ∷ Z ∷ []

pub axis_member : (a : Axis) → Member a axes
axis_member X = inl refl
axis_member Y = inr (inl refl)
axis_member Z = inr (inr (inl refl))

pub place_at : (n u o : ℕ) → n * (u / n) + (u % n + o) ≡ u + o
place_at n u o = let whole = div-add-mod u n in omega arith

below_n : (u n : ℕ) → 0 < n → u % n < n
below_n u n h = omega arith

-- a side of a cell is among the faces of its block
raw_walked : (a : Axis) (n : ℕ) (c : CellAt) (o : ℕ) → 0 < n → o ≤ 1 → Member (face_of a (with a (on a c + o) c)) (block_faces n (block_of n c) a)
raw_walked X n c o some le =
    let x = place_at n c.x o in
    let y = div-add-mod c.y n in
    let z = div-add-mod c.z n in
    let room = below_n c.x n some in
    let same : face_of X (in_block n (block_of n c) (c.x % n + o) (c.y % n) (c.z % n)) ≡ face_of X (with X (c.x + o) c) = λ i. record { axis = X; level = c.level; x = x i; y = y i; z = z i } in
    subst (λ u. Member u (block_faces n (block_of n c) X)) same (member_box (suc n) n n (c.x % n + o) (c.y % n) (c.z % n) (λ i j k. face_of X (in_block n (block_of n c) i j k)) (omega arith) (below_n c.y n some) (below_n c.z n some))
raw_walked Y n c o some le =
    let x = div-add-mod c.x n in
    let y = place_at n c.y o in
    let z = div-add-mod c.z n in
    let room = below_n c.y n some in
    let same : face_of Y (in_block n (block_of n c) (c.x % n) (c.y % n + o) (c.z % n)) ≡ face_of Y (with Y (c.y + o) c) = λ i. record { axis = Y; level = c.level; x = x i; y = y i; z = z i } in
    subst (λ u. Member u (block_faces n (block_of n c) Y)) same (member_box n (suc n) n (c.x % n) (c.y % n + o) (c.z % n) (λ i j k. face_of Y (in_block n (block_of n c) i j k)) (below_n c.x n some) (omega arith) (below_n c.z n some))
raw_walked Z n c o some le =
    let x = div-add-mod c.x n in
    let y = div-add-mod c.y n in
    let z = place_at n c.z o in
    let room = below_n c.z n some in
    let same : face_of Z (in_block n (block_of n c) (c.x % n) (c.y % n) (c.z % n + o)) ≡ face_of Z (with Z (c.z + o) c) = λ i. record { axis = Z; level = c.level; x = x i; y = y i; z = z i } in
    subst (λ u. Member u (block_faces n (block_of n c) Z)) same (member_box n n (suc n) (c.x % n) (c.y % n) (c.z % n + o) (λ i j k. face_of Z (in_block n (block_of n c) i j k)) (below_n c.x n some) (below_n c.y n some) (omega arith))

side_walked : (g : Grid) (c : CellAt) (a : Axis) (o : ℕ) → 0 < g.shape.n → o ≤ 1 → is_leaf g c ≡ true → Member (canonical_face g.shape (face_of a (with a (on a c + o) c))) (faces_walked g)
side_walked g c a o some le t =
    let n = g.shape.n in
    member_flat (λ b. flat_map (λ d. map (canonical_face g.shape) (block_faces n b d)) axes) (block_of n c) _ g.leaves (in_leaves (block_of n c) g.leaves (leaf_says g (block_of n c) t))
    (member_flat (λ d. map (canonical_face g.shape) (block_faces n (block_of n c) d)) a _ axes (axis_member a)
    (member_map (canonical_face g.shape) (face_of a (with a (on a c + o) c)) (block_faces n (block_of n c) a) (raw_walked a n c o some le)))

-- so is a face that has a leaf cell at q beside it, on the side o
beside_walked : (g : Grid) (f : FaceAt) (q o : ℕ) → 0 < g.shape.n → o ≤ 1 → is_leaf g (with f.axis q (face_numbers f)) ≡ true → wrapped (is_periodic g.shape f.axis) (extent g.shape f.axis f.level) (q + o) ≡ on f.axis (face_numbers f) → Member f (faces_walked g)
beside_walked g f q o some le t w =
    let c = with f.axis q (face_numbers f) in
    subst (λ u. Member u (faces_walked g)) (
    ap (λ p. canonical_face g.shape (face_of f.axis (with f.axis (p + o) c))) (on_with f.axis q (face_numbers f))
    ∙ ap (λ d. canonical_face g.shape (face_of f.axis d)) (with_with f.axis (q + o) q (face_numbers f))
    ∙ named g.shape f.axis (q + o) (face_numbers f)
    ∙ ap (λ p. face_of f.axis (with f.axis p (face_numbers f))) w
    ∙ ap (face_of f.axis) (with_own f.axis (face_numbers f)))
    (side_walked g c f.axis o some le t)

not_end : (periodic : Bool) (e p : ℕ) → (not periodic || nat_lt p e) ≡ true → wrapped periodic e p ≡ p
unfolding wrapped
not_end false e p h = refl
not_end true e p h = let lt = ltb-true p e h in rw (ne_eqb p e (λ same. absurd (omega arith))) refl

pub low_end_of : (periodic : Bool) (e p q : ℕ) → 0 < e → (not periodic || nat_lt p e) ≡ true → below periodic e p ≡ Some q → wrapped periodic e (q + 1) ≡ p
unfolding wrapped
low_end_of true e zero q some h b = let last : e - 1 ≡ q = some_is b in let end : q + 1 ≡ e = omega arith in rw (eq-eqb (q + 1) e end) refl
low_end_of false e zero q some h b = cc
low_end_of periodic e (suc p) q some h b = let same : p ≡ q = some_is b in let next : q + 1 ≡ suc p = omega arith in ap (wrapped periodic e) next ∙ not_end periodic e (suc p) h

pub high_end_of : (periodic : Bool) (e p q : ℕ) → (not periodic || nat_lt p e) ≡ true → above periodic e p ≡ Some q → wrapped periodic e (q + 0) ≡ p
high_end_of periodic e p q h a = elim (cases_lt p e) [
  | inl lt ↦
      let here : above periodic e p ≡ Some p = ap (λ u. if u then Some p else (if periodic then Some 0 else None)) (lt-ltb p e lt) in
      let same : p ≡ q = some_is (sym here ∙ a) in
      let next : q + 0 ≡ p = omega arith in
      ap (wrapped periodic e) next ∙ not_end periodic e p h
  | inr le ↦ past periodic e p q (le-ltb p e le) h a
]
  where
    nowhere : (q : ℕ) → None ≡ Some q → ⊥
    nowhere q e = cc

    past : (periodic : Bool) (e p q : ℕ) → nat_lt p e ≡ false → (not periodic || nat_lt p e) ≡ true → above periodic e p ≡ Some q → wrapped periodic e (q + 0) ≡ p
    past true e p q f h a = cc
    past false e p q f h a = let none : above false e p ≡ None = ap (λ u. if u then Some p else None) f in absurd (nowhere q (sym none ∙ a))

pub moved_is : (a : Axis) (o : Option ℕ) (d c : CellAt) → moved a o d ≡ Some c → (q : ℕ) × (o ≡ Some q) × (with a q d ≡ c)
moved_is a None d c h = cc
moved_is a (Some q) d c h = (q, refl, some_is h)

pub holds_some : (p : CellAt → Bool) (o : Option CellAt) → holds p o ≡ true → (c : CellAt) × (o ≡ Some c) × (p c ≡ true)
holds_some p None h = cc
holds_some p (Some c) h = (c, refl, h)

pub face_walked : (g : Grid) (f : FaceAt) → IsShape g.shape → (is_canonical g.shape f && is_leaf_face g f) ≡ true → Member f (faces_walked g)
unfolding is_leaf_face is_canonical_at
face_walked g f shape h =
    let per = is_periodic g.shape f.axis in
    let e = extent g.shape f.axis f.level in
    let p = on f.axis (face_numbers f) in
    let some = cells_some shape in
    let canonical : (not per || nat_lt p e) ≡ true = and_left (is_canonical g.shape f) (is_leaf_face g f) h in
    let leaf = and_left (holds (is_leaf g) (low_cell g.shape f) || holds (is_leaf g) (high_cell g.shape f)) (not (is_split_face g f)) (and_right (is_canonical g.shape f) (is_leaf_face g f) h) in
    elim (either_true (holds (is_leaf g) (low_cell g.shape f)) (holds (is_leaf g) (high_cell g.shape f)) leaf) [
      | inl low ↦
          let cell = holds_some (is_leaf g) (low_cell g.shape f) low in
          let at = moved_is f.axis (below per e p) (face_numbers f) cell.0 cell.1 in
          beside_walked g f at.0 1 some (omega arith) (ap (is_leaf g) at.2 ∙ cell.2) (low_end_of per e p at.0 (extent_some shape f.axis f.level) canonical at.1)
      | inr high ↦
          let cell = holds_some (is_leaf g) (high_cell g.shape f) high in
          let at = moved_is f.axis (above per e p) (face_numbers f) cell.0 cell.1 in
          beside_walked g f at.0 0 some (omega arith) (ap (is_leaf g) at.2 ∙ cell.2) (high_end_of per e p at.0 canonical at.1)
    ]

pub faces_in_range : (m : Mesh) → IsShape m.grid.shape → OnLeaves m → first_excess m ≡ None → (f : FaceAt) → Within (2 ^ 40) (m.faces f)
unfolding first_excess
faces_in_range m shape on h f = elim (cases_Bool (is_canonical m.grid.shape f && is_leaf_face m.grid f)) [
  | inl t ↦
      let place = face_walked m.grid f shape t in
      let leaf = and_right (is_canonical m.grid.shape f) (is_leaf_face m.grid f) t in
      let rest = (or_none _ _ (or_none _ _ (or_none _ _ h).1).1).0 in
      let here = map_none (face_above m) (find (λ d. is_leaf_face m.grid d && is_above (2 ^ 40) (m.faces d)) (faces_walked m.grid)) rest in
      let none = find_none (λ d. is_leaf_face m.grid d && is_above (2 ^ 40) (m.faces d)) f (faces_walked m.grid) here place in
      not_above (2 ^ 40) (m.faces f) (sym (ap (λ u. u && is_above (2 ^ 40) (m.faces f)) leaf) ∙ none)
  | inr n ↦ zero_within (2 ^ 40) (m.faces f) (on.faces f n)
]

-- ---- each canonical leaf edge is walked

-- M at u and v on the two axes after a
abbrev pub across : Axis → ℕ → ℕ → CellAt → CellAt
across a u v c = with (next (next a)) v (with (next a) u c)

-- a rim of a cell is among the edges of its block
rim_walked : (a : Axis) (n : ℕ) (c : CellAt) (o r : ℕ) → 0 < n → o ≤ 1 → r ≤ 1 → Member (edge_of a (across a (on (next a) c + o) (on (next (next a)) c + r) c)) (block_edges n (block_of n c) a)
rim_walked X n c o r some lo lr =
    let x = div-add-mod c.x n in
    let y = place_at n c.y o in
    let z = place_at n c.z r in
    let room_y = below_n c.y n some in
    let room_z = below_n c.z n some in
    let same : edge_of X (in_block n (block_of n c) (c.x % n) (c.y % n + o) (c.z % n + r)) ≡ edge_of X (across X (c.y + o) (c.z + r) c) = λ i. record { axis = X; level = c.level; x = x i; y = y i; z = z i } in
    subst (λ u. Member u (block_edges n (block_of n c) X)) same (member_box n (suc n) (suc n) (c.x % n) (c.y % n + o) (c.z % n + r) (λ i j k. edge_of X (in_block n (block_of n c) i j k)) (below_n c.x n some) (omega arith) (omega arith))
rim_walked Y n c o r some lo lr =
    let x = place_at n c.x r in
    let y = div-add-mod c.y n in
    let z = place_at n c.z o in
    let room_x = below_n c.x n some in
    let room_z = below_n c.z n some in
    let same : edge_of Y (in_block n (block_of n c) (c.x % n + r) (c.y % n) (c.z % n + o)) ≡ edge_of Y (across Y (c.z + o) (c.x + r) c) = λ i. record { axis = Y; level = c.level; x = x i; y = y i; z = z i } in
    subst (λ u. Member u (block_edges n (block_of n c) Y)) same (member_box (suc n) n (suc n) (c.x % n + r) (c.y % n) (c.z % n + o) (λ i j k. edge_of Y (in_block n (block_of n c) i j k)) (omega arith) (below_n c.y n some) (omega arith))
rim_walked Z n c o r some lo lr =
    let x = place_at n c.x o in
    let y = place_at n c.y r in
    let z = div-add-mod c.z n in
    let room_x = below_n c.x n some in
    let room_y = below_n c.y n some in
    let same : edge_of Z (in_block n (block_of n c) (c.x % n + o) (c.y % n + r) (c.z % n)) ≡ edge_of Z (across Z (c.x + o) (c.y + r) c) = λ i. record { axis = Z; level = c.level; x = x i; y = y i; z = z i } in
    subst (λ u. Member u (block_edges n (block_of n c) Z)) same (member_box (suc n) (suc n) n (c.x % n + o) (c.y % n + r) (c.z % n) (λ i j k. edge_of Z (in_block n (block_of n c) i j k)) (omega arith) (omega arith) (below_n c.z n some))

-- the canonical name of the edge at u and v, and how the places of a cell beside it add up to them
pub canonical_across : (s : Shape) (a : Axis) (u v : ℕ) (c : CellAt) → canonical_edge s (edge_of a (across a u v c)) ≡ edge_of a (across a (wrapped (is_periodic s (next a)) (extent s (next a) c.level) u) (wrapped (is_periodic s (next (next a))) (extent s (next (next a)) c.level) v) c)
canonical_across s X u v c = refl
canonical_across s Y u v c = refl
canonical_across s Z u v c = refl

pub from_cell : (a : Axis) (q t o r : ℕ) (c : CellAt) → across a (on (next a) (across a q t c) + o) (on (next (next a)) (across a q t c) + r) (across a q t c) ≡ across a (q + o) (t + r) c
from_cell X q t o r c = refl
from_cell Y q t o r c = refl
from_cell Z q t o r c = refl

pub own_place : (a : Axis) (c : CellAt) → across a (on (next a) c) (on (next (next a)) c) c ≡ c
own_place X c = refl
own_place Y c = refl
own_place Z c = refl

rim_there : (g : Grid) (e : EdgeAt) (q t o r : ℕ) → 0 < g.shape.n → o ≤ 1 → r ≤ 1 → is_leaf g (across e.axis q t (edge_numbers e)) ≡ true → wrapped (is_periodic g.shape (next e.axis)) (extent g.shape (next e.axis) e.level) (q + o) ≡ on (next e.axis) (edge_numbers e) → wrapped (is_periodic g.shape (next (next e.axis))) (extent g.shape (next (next e.axis)) e.level) (t + r) ≡ on (next (next e.axis)) (edge_numbers e) → Member e (edges_walked g)
rim_there g e q t o r some lo lr leaf first second =
    let n = g.shape.n in
    let c = across e.axis q t (edge_numbers e) in
    let raw = edge_of e.axis (across e.axis (on (next e.axis) c + o) (on (next (next e.axis)) c + r) c) in
    let walk : Member (canonical_edge g.shape raw) (edges_walked g) =
    member_flat (λ b. flat_map (λ d. map (canonical_edge g.shape) (block_edges n b d)) axes) (block_of n c) _ g.leaves (in_leaves (block_of n c) g.leaves (leaf_says g (block_of n c) leaf))
    (member_flat (λ d. map (canonical_edge g.shape) (block_edges n (block_of n c) d)) e.axis _ axes (axis_member e.axis)
    (member_map (canonical_edge g.shape) raw (block_edges n (block_of n c) e.axis) (rim_walked e.axis n c o r some lo lr))) in
    subst (λ u. Member u (edges_walked g)) (
    ap (λ d. canonical_edge g.shape (edge_of e.axis d)) (from_cell e.axis q t o r (edge_numbers e))
    ∙ canonical_across g.shape e.axis (q + o) (t + r) (edge_numbers e)
    ∙ ap₂ (λ u v. edge_of e.axis (across e.axis u v (edge_numbers e))) first second
    ∙ ap (edge_of e.axis) (own_place e.axis (edge_numbers e)))
    walk

pub moved_twice_is : (a b : Axis) (o r : Option ℕ) (d c : CellAt) → moved_twice a o b r d ≡ Some c → (q : ℕ) × (t : ℕ) × (o ≡ Some q) × (r ≡ Some t) × (with b t (with a q d) ≡ c)
moved_twice_is a b None r d c h = cc
moved_twice_is a b (Some q) r d c h = let second = moved_is b r (with a q d) c h in (q, second.0, refl, second.1, second.2)

module _ (g : Grid) (e : EdgeAt) (shape : IsShape g.shape) (h : (is_canonical_edge g.shape e && is_leaf_edge g e) ≡ true) where
  abbrev pub on_first : Bool → Option ℕ
  on_first low = if low then below (is_periodic g.shape (next e.axis)) (extent g.shape (next e.axis) e.level) (on (next e.axis) (edge_numbers e)) else above (is_periodic g.shape (next e.axis)) (extent g.shape (next e.axis) e.level) (on (next e.axis) (edge_numbers e))

  abbrev pub on_second : Bool → Option ℕ
  on_second low = if low then below (is_periodic g.shape (next (next e.axis))) (extent g.shape (next (next e.axis)) e.level) (on (next (next e.axis)) (edge_numbers e)) else above (is_periodic g.shape (next (next e.axis))) (extent g.shape (next (next e.axis)) e.level) (on (next (next e.axis)) (edge_numbers e))

  abbrev pub step_of : Bool → ℕ
  step_of low = if low then 1 else 0

  pub step_small : (low : Bool) → step_of low ≤ 1
  step_small true = omega arith
  step_small false = omega arith

  pub first_end : (low : Bool) (q : ℕ) → on_first low ≡ Some q → wrapped (is_periodic g.shape (next e.axis)) (extent g.shape (next e.axis) e.level) (q + step_of low) ≡ on (next e.axis) (edge_numbers e)
  unfolding is_canonical_at
  first_end true q b = low_end_of _ _ _ q (extent_some shape (next e.axis) e.level) (and_left (is_canonical_at g.shape (next e.axis) e.level (on (next e.axis) (edge_numbers e))) (is_canonical_at g.shape (next (next e.axis)) e.level (on (next (next e.axis)) (edge_numbers e))) (and_left (is_canonical_edge g.shape e) (is_leaf_edge g e) h)) b
  first_end false q b = high_end_of _ _ _ q (and_left (is_canonical_at g.shape (next e.axis) e.level (on (next e.axis) (edge_numbers e))) (is_canonical_at g.shape (next (next e.axis)) e.level (on (next (next e.axis)) (edge_numbers e))) (and_left (is_canonical_edge g.shape e) (is_leaf_edge g e) h)) b

  pub second_end : (low : Bool) (t : ℕ) → on_second low ≡ Some t → wrapped (is_periodic g.shape (next (next e.axis))) (extent g.shape (next (next e.axis)) e.level) (t + step_of low) ≡ on (next (next e.axis)) (edge_numbers e)
  unfolding is_canonical_at
  second_end true t b = low_end_of _ _ _ t (extent_some shape (next (next e.axis)) e.level) (and_right (is_canonical_at g.shape (next e.axis) e.level (on (next e.axis) (edge_numbers e))) (is_canonical_at g.shape (next (next e.axis)) e.level (on (next (next e.axis)) (edge_numbers e))) (and_left (is_canonical_edge g.shape e) (is_leaf_edge g e) h)) b
  second_end false t b = high_end_of _ _ _ t (and_right (is_canonical_at g.shape (next e.axis) e.level (on (next e.axis) (edge_numbers e))) (is_canonical_at g.shape (next (next e.axis)) e.level (on (next (next e.axis)) (edge_numbers e))) (and_left (is_canonical_edge g.shape e) (is_leaf_edge g e) h)) b

  slot_walked : (low low' : Bool) → holds (is_leaf g) (moved_twice (next e.axis) (on_first low) (next (next e.axis)) (on_second low') (edge_numbers e)) ≡ true → Member e (edges_walked g)
  slot_walked low low' t =
      let cell = holds_some (is_leaf g) (moved_twice (next e.axis) (on_first low) (next (next e.axis)) (on_second low') (edge_numbers e)) t in
      let at = moved_twice_is (next e.axis) (next (next e.axis)) (on_first low) (on_second low') (edge_numbers e) cell.0 cell.1 in
      rim_there g e at.0 at.1 (step_of low) (step_of low') (cells_some shape) (step_small low) (step_small low') (ap (is_leaf g) at.4 ∙ cell.2) (first_end low at.0 at.2) (second_end low' at.1 at.3)

  pub edge_walked : Member e (edges_walked g)
  unfolding is_leaf_edge
  edge_walked =
      let leaf = and_left (list_any (holds (is_leaf g)) (round_edge g.shape e)) (not (is_split_edge g e)) (and_right (is_canonical_edge g.shape e) (is_leaf_edge g e) h) in
      let slot = λ (low low' : Bool). holds (is_leaf g) (moved_twice (next e.axis) (on_first low) (next (next e.axis)) (on_second low') (edge_numbers e)) in
      elim (either_true (slot true true) (slot false true || (slot true false || (slot false false || false))) leaf) [
        | inl a ↦ slot_walked true true a
        | inr rest ↦ elim (either_true (slot false true) (slot true false || (slot false false || false)) rest) [
          | inl a ↦ slot_walked false true a
          | inr more ↦ elim (either_true (slot true false) (slot false false || false) more) [
            | inl a ↦ slot_walked true false a
            | inr last ↦ elim (either_true (slot false false) false last) [
              | inl a ↦ slot_walked false false a
              | inr never ↦ cc
            ]
          ]
        ]
      ]

pub edges_in_range : (m : Mesh) → IsShape m.grid.shape → OnLeaves m → first_excess m ≡ None → (e : EdgeAt) → Within (2 ^ 40) (m.edges e)
unfolding first_excess
edges_in_range m shape on h e = elim (cases_Bool (is_canonical_edge m.grid.shape e && is_leaf_edge m.grid e)) [
  | inl t ↦
      let place = edge_walked m.grid e shape t in
      let leaf = and_right (is_canonical_edge m.grid.shape e) (is_leaf_edge m.grid e) t in
      let cells = first_of_all (first_cell_above m) (variables m) in
      let outs = option_map (out_above m) (find (λ v. is_above (2 ^ 100) (m.outs v)) (variables m)) in
      let faces = option_map (face_above m) (find (λ f. is_leaf_face m.grid f && is_above (2 ^ 40) (m.faces f)) (faces_walked m.grid)) in
      let rest = (or_none faces _ (or_none outs _ (or_none cells _ h).1).1).1 in
      let here = map_none (edge_above m) (find (λ d. is_leaf_edge m.grid d && is_above (2 ^ 40) (m.edges d)) (edges_walked m.grid)) rest in
      let none = find_none (λ d. is_leaf_edge m.grid d && is_above (2 ^ 40) (m.edges d)) e (edges_walked m.grid) here place in
      not_above (2 ^ 40) (m.edges e) (sym (ap (λ u. u && is_above (2 ^ 40) (m.edges e)) leaf) ∙ none)
  | inr n ↦ zero_within (2 ^ 40) (m.edges e) (on.edges e n)
]
