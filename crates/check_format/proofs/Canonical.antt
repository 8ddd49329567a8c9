-- Each walked face has its canonical name, so that the test of it passes over none.
use Rattle.std.proofs.Common.{◌≡◌, ℕ, suc, ◌+◌, ◌*◌, ◌^◌, ◌<◌, ◌≤◌, ◌==◌, Bool, true, false, not, ◌&&◌, ◌||◌, if◌then◌else◌, nat_lt, refl, ap, subst, ◌∙◌, arith, inl, inr, List, [], ◌∷◌, filter, lt-ltb, eq-eqb}
use Rattle.std.specs.Prelude.{flat_map, map}
use Rattle.std.proofs.Math.Nat.{mul-le-mul_left}
use Rattle.std.proofs.lemmas.Bool.{cases_Bool, cases_lt}
use Rattle.amr_num.specs.declared.Axis.{Axis}
use Rattle.amr_num.specs.declared.Axis.TheVariants.{X, Y, Z}
use Rattle.amr_num.specs.declared.BlockAt.{BlockAt}
use Rattle.amr_num.specs.declared.CellAt.{CellAt}
use Rattle.amr_num.specs.declared.FaceAt.{FaceAt}
use Rattle.mesh_model.specs.declared.geometry.Shape.{Shape}
use Rattle.mesh_model.specs.Geometry.Coordinates.{on, extent, is_periodic, wrapped, face_of}
use Rattle.mesh_model.specs.Tree.Kinds.{Grid, is_leaf_face}
use Rattle.mesh_model.specs.Geometry.Canonical.{is_canonical, is_canonical_at}
use Rattle.mesh_model.specs.Geometry.Places.{in_block, block_faces}
use Rattle.mesh_model.specs.Geometry.Canonical.{canonical_face}
use Rattle.mesh_model.specs.Fields.RangeWalk.{faces_walked}
use Rattle.mesh_model.specs.Geometry.Blocks.{InDomain}
use Rattle.mesh_model.specs.Tree.ValidGrid.{Valid}
use Rattle.mesh_model.proofs.GeometryLemmas.ShapeLimits.{extent_some}
use Rattle.mesh_model.proofs.FieldLemmas.Walking.{Member}
use Rattle.check_format.proofs.Cells.{member_in}
use Rattle.check_format.proofs.Keys.{from_flat_map, from_map, from_box}

pub named_low : (per : Bool) (e p : ℕ) → 0 < e → p ≤ e → (not per || nat_lt (wrapped per e p) e) ≡ true
unfolding wrapped
named_low false e p some le = refl
named_low true e p some le = elim (cases_Bool (p == e)) [
  | inl t ↦ ap (λ u. nat_lt (if u then 0 else p) e) t ∙ lt-ltb 0 e some
  | inr f ↦ ap (λ u. nat_lt (if u then 0 else p) e) f ∙ lt-ltb p e (below f)
]
  where
    below : (p == e) ≡ false → p < e
    below f = elim (cases_lt p e) [ inl lt ↦ lt | inr ge ↦ let same = eq-eqb p e (omega arith) in cc ]

-- a place of a block, its far end too, does not pass the extent
pub reach : (n r l x i : ℕ) → x < r * 2 ^ l → i ≤ n → n * x + i ≤ r * n * 2 ^ l
reach n r l x i lt le =
    let more : n * suc x ≤ n * (r * 2 ^ l) = mul-le-mul_left n lt in
    let row : n * suc x ≡ n * x + n = grind arith in
    let turn : n * (r * 2 ^ l) ≡ r * n * 2 ^ l = grind arith in
    omega arith

at_axis : (s : Shape) (a : Axis) (c : CellAt) → 0 < extent s a c.level → on a c ≤ extent s a c.level → is_canonical s (canonical_face s (face_of a c)) ≡ true
unfolding is_canonical_at
at_axis s X c some le = named_low (is_periodic s X) (extent s X c.level) c.x some le
at_axis s Y c some le = named_low (is_periodic s Y) (extent s Y c.level) c.y some le
at_axis s Z c some le = named_low (is_periodic s Z) (extent s Z c.level) c.z some le

module _ (g : Grid) (valid : Valid g) where
  of_axis : (a : Axis) (b : BlockAt) → InDomain g.shape b → (h : FaceAt) → Member h (block_faces g.shape.n b a) → is_canonical g.shape (canonical_face g.shape h) ≡ true
  of_axis X b d h i =
      let n = g.shape.n in
      let at = from_box (suc n) n n (λ i j k. face_of X (in_block n b i j k)) h i in
      let r = at.3 in
      subst (λ u. is_canonical g.shape (canonical_face g.shape u) ≡ true) at.6 (at_axis g.shape X (in_block n b at.0 at.1 at.2) (extent_some valid.shape X b.level) (reach n g.shape.rx b.level b.x at.0 d.x (omega arith)))
  of_axis Y b d h i =
      let n = g.shape.n in
      let at = from_box n (suc n) n (λ i j k. face_of Y (in_block n b i j k)) h i in
      let r = at.4 in
      subst (λ u. is_canonical g.shape (canonical_face g.shape u) ≡ true) at.6 (at_axis g.shape Y (in_block n b at.0 at.1 at.2) (extent_some valid.shape Y b.level) (reach n g.shape.ry b.level b.y at.1 d.y (omega arith)))
  of_axis Z b d h i =
      let n = g.shape.n in
      let at = from_box n n (suc n) (λ i j k. face_of Z (in_block n b i j k)) h i in
      let r = at.5 in
      subst (λ u. is_canonical g.shape (canonical_face g.shape u) ≡ true) at.6 (at_axis g.shape Z (in_block n b at.0 at.1 at.2) (extent_some valid.shape Z b.level) (reach n g.shape.rz b.level b.z at.2 d.z (omega arith)))

  pub walked_canonical : (f : FaceAt) → Member f (faces_walked g) → is_canonical g.shape f ≡ true
  walked_canonical f i =
      let n = g.shape.n in
      let one = from_flat_map (λ b. flat_map (λ a. map (canonical_face g.shape) (block_faces n b a)) (X ∷ Y ∷ Z ∷ [])) f g.leaves i in
      let two = from_flat_map (λ a. map (canonical_face g.shape) (block_faces n one.0 a)) f (X ∷ Y ∷ Z ∷ []) one.2 in
      let three = from_map (canonical_face g.shape) f (block_faces n one.0 two.0) two.2 in
      subst (λ u. is_canonical g.shape u ≡ true) three.2 (of_axis two.0 one.0 (valid.tiles.inside one.0 (member_in one.0 g.leaves one.1)) three.0 three.1)

-- so faces are those that are leaf faces
same_filter : (p q : FaceAt → Bool) (fs : List FaceAt) → ((f : FaceAt) → Member f fs → p f ≡ true) → filter (λ f. p f && q f) fs ≡ filter q fs
same_filter p q [] h = refl
same_filter p q (f ∷ fs) h =
    (λ i. if h f (inl refl) i && q f then f ∷ same_filter p q fs (λ u j. h u (inr j)) i else same_filter p q fs (λ u j. h u (inr j)) i)

pub leaf_faces_only : (g : Grid) → Valid g → filter (λ f. is_canonical g.shape f && is_leaf_face g f) (faces_walked g) ≡ filter (is_leaf_face g) (faces_walked g)
leaf_faces_only g valid = same_filter (is_canonical g.shape) (is_leaf_face g) (faces_walked g) (walked_canonical g valid)
