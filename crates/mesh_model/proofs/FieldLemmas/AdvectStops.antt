-- Which number an advect is refused for: numbers of other variables are in range as they were.
use Rattle.std.proofs.Common.{◌≡◌, ℕ, zero, suc, ◌+◌, ◌^◌, ◌<◌, ◌≤◌, Bool, true, false, ◌&&◌, if◌then◌else◌, List, [], ◌∷◌, length, Option, Some, None, find, ℤ, unsigned_abs, refl, sym, ap, ◌∙◌, arith, inl, inr, ne_eqb}
use Rattle.std.proofs.lemmas.Bool.{and_right, cases_Bool, cases_eq, cases_lt, ltb-true}
use Rattle.std.specs.List.{range_with_len}
use Rattle.std.specs.Option.{option_or, option_map}
use Rattle.amr_num.specs.Numbers.{Within}
use Rattle.amr_num.specs.declared.CellAt.{CellAt}
use Rattle.amr_num.specs.declared.EdgeAt.{EdgeAt}
use Rattle.amr_num.specs.declared.FaceAt.{FaceAt}
use Rattle.mesh_model.specs.declared.fields.spot.RangeStop.{RangeStop}
use Rattle.mesh_model.specs.Fields.Advect.{Speeds, advect}
use Rattle.mesh_model.specs.Fields.Plain.{Mesh}
use Rattle.mesh_model.specs.Tree.Kinds.{is_leaf_edge, is_leaf_face}
use Rattle.mesh_model.specs.Fields.RangeWalk.{cell_above, cells_walked, edge_above, edges_walked, face_above, faces_walked, first_cell_above, first_excess, first_of_all, is_above, out_above, out_excess}
use Rattle.mesh_model.specs.Fields.Valid.{ValidMesh}

-- what is in range is not found
pub not_above : (most : ℕ) (z : ℤ) → Within most z → is_above most z ≡ false
not_above most z h = elim (cases_Bool (is_above most z)) [
  | inl t ↦ absurd (let lt = ltb-true most (unsigned_abs z) t in omega (arith, h, lt))
  | inr f ↦ f
]

pub none_found : {A : Type 0} (p : A → Bool) (xs : List A) → ((x : A) → p x ≡ false) → find p xs ≡ None
none_found p [] h = refl
none_found p (x ∷ xs) h = rw (h x) (none_found p xs h)

pub map_none : {A B : Type 0} (f : A → B) (o : Option A) → o ≡ None → option_map f o ≡ None
map_none f o h = rw h refl

or_nothing : {A : Type 0} (p q : Option A) → q ≡ None → option_or p q ≡ p
or_nothing None q h = h
or_nothing (Some x) q h = refl

later : (a v : ℕ) → a ≤ v → (a ≡ v → ⊥) → a + 1 ≤ v
later a v h ne = elim (cases_lt a v) [ inl lt ↦ omega (arith, lt) | inr le ↦ absurd (ne (omega (arith, h, le))) ]

apart : (u v : ℕ) → v < u → u ≡ v → ⊥
apart u v lt e = omega (arith, lt, e)

-- where one of a range of numbers alone may have something, the first is that one's
none_later : (at : ℕ → Option RangeStop) (a n v : ℕ) → ((u : ℕ) → (u ≡ v → ⊥) → at u ≡ None) → v < a → first_of_all at (range_with_len a n) ≡ None
none_later at a zero v others h = refl
none_later at a (suc n) v others h = rw (others a (apart a v h)) (none_later at (a + 1) n v others (omega arith))

one_of_all : (at : ℕ → Option RangeStop) (a n v : ℕ) → ((u : ℕ) → (u ≡ v → ⊥) → at u ≡ None) → a ≤ v → v < a + n → first_of_all at (range_with_len a n) ≡ at v
one_of_all at a zero v others h k = absurd (omega arith)
one_of_all at a (suc n) v others h k = elim (cases_eq a v) [
  | inl e ↦ or_nothing (at a) _ (none_later at (a + 1) n v others (omega (arith, e))) ∙ ap at e
  | inr ne ↦ rw (others a ne) (one_of_all at (a + 1) n v others (later a v h ne) (omega arith))
]

not_found_later : (p : ℕ → Bool) (a n v : ℕ) → ((u : ℕ) → (u ≡ v → ⊥) → p u ≡ false) → v < a → find p (range_with_len a n) ≡ None
not_found_later p a zero v others h = refl
not_found_later p a (suc n) v others h = rw (others a (apart a v h)) (not_found_later p (a + 1) n v others (omega arith))

one_found : (p : ℕ → Bool) (a n v : ℕ) → ((u : ℕ) → (u ≡ v → ⊥) → p u ≡ false) → a ≤ v → v < a + n → find p (range_with_len a n) ≡ (if p v then Some v else None)
one_found p a zero v others h k = absurd (omega arith)
one_found p a (suc n) v others h k = elim (cases_eq a v) [
  | inl e ↦ elim (cases_Bool (p a)) [
    | inl t ↦ rw (t, sym (ap p e) ∙ t) (ap Some e)
    | inr f ↦ rw (f, sym (ap p e) ∙ f) (not_found_later p (a + 1) n v others (omega (arith, e)))
  ]
  | inr ne ↦ rw (others a ne) (one_found p (a + 1) n v others (later a v h ne) (omega arith))
]

-- the first number out of range of a mesh that may have one in a variable alone
one_variable : (m : Mesh) (v : ℕ) → v < length m.names.cells → ((u : ℕ) → (u ≡ v → ⊥) → (c : CellAt) → Within (2 ^ 40) (m.cells u c)) → ((u : ℕ) → (u ≡ v → ⊥) → Within (2 ^ 100) (m.outs u)) →
    ((f : FaceAt) → Within (2 ^ 40) (m.faces f)) → ((e : EdgeAt) → Within (2 ^ 40) (m.edges e)) → first_excess m ≡ option_or (first_cell_above m v) (out_excess m v)
unfolding first_excess
one_variable m v there cells outs faces edges =
    let contents = one_of_all (first_cell_above m) 0 (length m.names.cells) v (λ u ne. map_none (cell_above m u) _ (none_found (λ c. is_above (2 ^ 40) (m.cells u c)) (cells_walked m.grid) (λ c. not_above (2 ^ 40) (m.cells u c) (cells u ne c)))) (omega arith) (omega (arith, there)) in
    let flowed = one_found (λ u. is_above (2 ^ 100) (m.outs u)) 0 (length m.names.cells) v (λ u ne. not_above (2 ^ 100) (m.outs u) (outs u ne)) (omega arith) (omega (arith, there)) in
    let no_face = map_none (face_above m) _ (none_found (λ f. is_leaf_face m.grid f && is_above (2 ^ 40) (m.faces f)) (faces_walked m.grid) (λ f. and_right (is_leaf_face m.grid f) _ (not_above (2 ^ 40) (m.faces f) (faces f)))) in
    let no_edge = map_none (edge_above m) _ (none_found (λ e. is_leaf_edge m.grid e && is_above (2 ^ 40) (m.edges e)) (edges_walked m.grid) (λ e. and_right (is_leaf_edge m.grid e) _ (not_above (2 ^ 40) (m.edges e) (edges e)))) in
    rw (contents, flowed, no_face, no_edge) (ap (option_or (first_cell_above m v)) (or_nothing _ None refl ∙ mapped (is_above (2 ^ 100) (m.outs v))))
  where
    mapped : (b : Bool) → option_map (out_above m) (if b then Some v else None) ≡ (if b then Some (out_above m v) else None)
    mapped true = refl
    mapped false = refl

-- the first number out of range after an advect
pub advect_excess : (m : Mesh) (v : ℕ) (n : Speeds) → ValidMesh m → v < length m.names.cells → first_excess (advect m v n) ≡ option_or (first_cell_above (advect m v n) v) (out_excess (advect m v n) v)
advect_excess m v n valid there = one_variable (advect m v n) v there
    (λ u ne c. rw (ne_eqb u v ne) (valid.range.cells u c))
    (λ u ne. rw (ne_eqb u v ne) (valid.range.outs u))
    valid.range.faces valid.range.edges
