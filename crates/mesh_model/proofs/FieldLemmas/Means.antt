-- In a valid mesh the last rules for faces and edges speak of views.
use Rattle.std.proofs.Common.{◌≡◌, ℕ, suc, ◌-◌, ◌*◌, ◌%◌, ◌<◌, ◌≤◌, Bool, false, ◌&&◌, ◌==◌, ℤ, refl, sym, ap, ap₂, ◌∙◌, arith, inl, inr, subst, Some, List, [], ◌∷◌, map, length, ◌++◌, ◌⊎◌, eq-eqb}
use Rattle.std.specs.Prelude.{flat_map}
use Rattle.std.proofs.lemmas.Bool.{cases_Bool, cases_lt}
use Rattle.amr_num.specs.declared.Axis.{Axis}
use Rattle.amr_num.specs.declared.Axis.TheVariants.{X, Y, Z}
use Rattle.amr_num.specs.declared.CellAt.{CellAt}
use Rattle.amr_num.specs.declared.FaceAt.{FaceAt}
use Rattle.amr_num.specs.declared.EdgeAt.{EdgeAt}
use Rattle.amr_num.specs.Numbers.{floor_div}
use Rattle.mesh_model.specs.Geometry.Coordinates.{parent_face, edge_of, edge_numbers, face_numbers, after, wrapped, with, on, next, extent, is_periodic, high_cell, Inside, EdgeInside}
use Rattle.mesh_model.specs.Tree.Kinds.{Grid, is_split_edge, is_leaf_edge, is_split_face, is_leaf_face}
use Rattle.mesh_model.specs.Tree.ValidGrid.{Valid}
use Rattle.mesh_model.specs.Fields.Views.{is_even, evens, even_round, sum_of, outer_edge_view, edge_view_at, is_even_edge, edge_view, outer_face_view, face_view_at, face_view, sides_of, inner_face}
use Rattle.mesh_model.proofs.FieldLemmas.Beside.{own, above_in}
use Rattle.mesh_model.proofs.GeometryLemmas.OnAxes.{with_level, with_own}
use Rattle.mesh_model.proofs.FieldLemmas.CellKinds.{wide_of}
use Rattle.mesh_model.proofs.FieldLemmas.Slots.{extent_double}
use Rattle.mesh_model.proofs.FieldLemmas.Round.{Beside, across, across_level, shifted_first, shifted_second}
use Rattle.mesh_model.proofs.FieldLemmas.ValidGrid.{tree}
use Rattle.mesh_model.proofs.FieldLemmas.Inside.{not_even, at_odd, same_sides}
use Rattle.mesh_model.proofs.FieldLemmas.EdgeSums as edges

-- ---- lists of cells

abbrev pub AllIn : (CellAt → Type 0) → List CellAt → Type 0
AllIn p [] = Unit
AllIn p (c ∷ cs) = p c × AllIn p cs

map_same : (f h : CellAt → ℤ) (cs : List CellAt) → AllIn (λ c. f c ≡ h c) cs → map f cs ≡ map h cs
map_same f h [] a = refl
map_same f h (c ∷ cs) a = ap₂ (λ u us. u ∷ us) a.0 (map_same f h cs a.1)

all_append : (p : CellAt → Type 0) (xs ys : List CellAt) → AllIn p xs → AllIn p ys → AllIn p (xs ++ ys)
all_append p [] ys a b = b
all_append p (x ∷ xs) ys a b = (a.0, all_append p xs ys a.1 b)

all_flat : (p q : CellAt → Type 0) (f : CellAt → List CellAt) (cs : List CellAt) → ((c : CellAt) → p c → AllIn q (f c)) → AllIn p cs → AllIn q (flat_map f cs)
all_flat p q f [] step a = tt
all_flat p q f (c ∷ cs) step a = all_append q (f c) (flat_map f cs) (step c a.0) (all_flat p q f cs step a.1)

all_imply : (p q : CellAt → Type 0) (cs : List CellAt) → ((c : CellAt) → p c → q c) → AllIn p cs → AllIn q cs
all_imply p q [] step a = tt
all_imply p q (c ∷ cs) step a = (step c a.0, all_imply p q cs step a.1)

-- ---- even positions

wrapped_even : (p : Bool) (e q : ℕ) → q % 2 ≡ 0 → wrapped p e q % 2 ≡ 0
unfolding wrapped
wrapped_even p e q h = elim (cases_Bool (p && (q == e))) [
  | inl t ↦ rw t refl
  | inr f ↦ rw f h
]

odd_or_even : (q : ℕ) → (q % 2 ≡ 0) ⊎ (q % 2 ≡ 1)
odd_or_even q = elim (cases_lt (q % 2) 1) [ inl h ↦ inl (omega arith) | inr h ↦ inr (omega arith) ]

-- d is c moved to an even position beside it on the axis a
abbrev Moves : Grid → Axis → CellAt → ℕ → CellAt → Type 0
Moves g a c e d = (r : ℕ) × Beside (is_periodic g.shape a) e (on a c) r × (with a r c ≡ d)

evens_beside : (g : Grid) (a : Axis) (c : CellAt) (e : ℕ) → extent g.shape a c.level ≡ 2 * e → on a c ≤ extent g.shape a c.level → AllIn (Moves g a c (extent g.shape a c.level)) (evens g a c)
evens_beside g a c e twice le = elim (odd_or_even (on a c)) [
  | inl h ↦
      let same : evens g a c ≡ (c ∷ []) = rw (eq-eqb (on a c % 2) 0 h) refl in
      subst (λ u. AllIn (Moves g a c (extent g.shape a c.level)) u) (sym same) ((on a c, record { even = h; here = inl refl }, with_own a c), tt)
  | inr h ↦
      let same : evens g a c ≡ (with a (on a c - 1) c ∷ after g.shape a c ∷ []) = rw (not_even (on a c) h) refl in
      let lt : on a c < extent g.shape a c.level = omega arith in
      let back : suc (on a c - 1) ≡ on a c = omega arith in
      subst (λ u. AllIn (Moves g a c (extent g.shape a c.level)) u) (sym same) (
        (on a c - 1, record { even = omega arith; here = inr (lt, inl back) }, refl),
        (
          (wrapped (is_periodic g.shape a) (extent g.shape a c.level) (suc (on a c)), record { even = wrapped_even _ _ _ (omega arith); here = inr (lt, inr refl) }, refl),
          tt,
        ),
      )
]

-- ---- the edges of a mean

second_stays : (a : Axis) (r : ℕ) (c : CellAt) → on (next (next a)) (with (next a) r c) ≡ on (next (next a)) c
second_stays X r c = refl
second_stays Y r c = refl
second_stays Z r c = refl

module _ (g : Grid) (valid : Valid g) (l : ℕ) (e : EdgeAt) (deep : e.level ≡ suc l) (i : EdgeInside g.shape e) where
  -- n moved to even positions beside e
  abbrev Around : CellAt → Type 0
  Around d = (r : ℕ) × (t : ℕ) × Beside (is_periodic g.shape (next e.axis)) (extent g.shape (next e.axis) e.level) (on (next e.axis) (edge_numbers e)) r × Beside (is_periodic g.shape (next (next e.axis))) (extent g.shape (next (next e.axis)) e.level) (on (next (next e.axis)) (edge_numbers e)) t × (across e.axis r t (edge_numbers e) ≡ d)

  doubled : (a : Axis) → extent g.shape a e.level ≡ 2 * extent g.shape a l
  doubled a = ap (extent g.shape a) deep ∙ extent_double g.shape a l

  one_more : (c : CellAt) → Moves g (next e.axis) (edge_numbers e) (extent g.shape (next e.axis) e.level) c → AllIn Around (evens g (next (next e.axis)) c)
  one_more c (r, br, eq) =
      let level : c.level ≡ e.level = ap (λ (d : CellAt). d.level) (sym eq) ∙ with_level (next e.axis) r (edge_numbers e) in
      let place : on (next (next e.axis)) c ≡ on (next (next e.axis)) (edge_numbers e) = ap (on (next (next e.axis))) (sym eq) ∙ second_stays e.axis r (edge_numbers e) in
      let width = ap (extent g.shape (next (next e.axis))) level in
      all_imply _ Around (evens g (next (next e.axis)) c)
      (λ d move. (r, move.0, br, subst (λ w. Beside (is_periodic g.shape (next (next e.axis))) w (on (next (next e.axis)) (edge_numbers e)) move.0) width (subst (λ q. Beside (is_periodic g.shape (next (next e.axis))) (extent g.shape (next (next e.axis)) c.level) q move.0) place move.1), ap (with (next (next e.axis)) move.0) eq ∙ move.2))
      (evens_beside g (next (next e.axis)) c (extent g.shape (next (next e.axis)) l) (width ∙ doubled (next (next e.axis))) (subst (λ q. q ≤ extent g.shape (next (next e.axis)) c.level) (sym place) (subst (λ w. on (next (next e.axis)) (edge_numbers e) ≤ w) (sym width) i.second)))

  all_around : AllIn Around (even_round g e)
  all_around = all_flat (Moves g (next e.axis) (edge_numbers e) (extent g.shape (next e.axis) e.level)) Around (evens g (next (next e.axis))) (evens g (next e.axis) (edge_numbers e)) one_more (evens_beside g (next e.axis) (edge_numbers e) (extent g.shape (next e.axis) l) (doubled (next e.axis)) i.first)

  module _ (v : EdgeAt → ℤ) (whole : is_split_edge g e ≡ false) (no_leaf : is_leaf_edge g e ≡ false) where
    -- what the mean takes at an even position
    even_at : CellAt → ℤ
    even_at c = outer_edge_view g v (edge_view_at g v l) (edge_of e.axis c)

    at_mean : is_even_edge e ≡ false → edge_view_at g v (suc l) e ≡ floor_div (sum_of (map even_at (even_round g e))) (length (even_round g e))
    unfolding edge_view_at even_at
    at_mean h = rw (whole, no_leaf, h, edge_view_at) refl

    even_is_view : (c : CellAt) → Around c → even_at c ≡ edge_view g v (edge_of e.axis c)
    unfolding even_at
    even_is_view c (r, t, br, bt, eq) =
        let level : c.level ≡ suc l = ap (λ (u : CellAt). u.level) (sym eq) ∙ across_level e.axis r t (edge_numbers e) ∙ deep in
        let first : on (next e.axis) c % 2 ≡ 0 = ap (λ u. on (next e.axis) u % 2) (sym eq) ∙ ap (λ q. q % 2) (shifted_first e.axis r t (edge_numbers e)) ∙ br.even in
        let second : on (next (next e.axis)) c % 2 ≡ 0 = ap (λ u. on (next (next e.axis)) u % 2) (sym eq) ∙ ap (λ q. q % 2) (shifted_second e.axis r t (edge_numbers e)) ∙ bt.even in
        edges.rim_is_view g (tree g valid) (wide_of g.shape valid.shape) v l (edge_of e.axis c) level first second

    -- an edge with an odd position that is no leaf edge has the floored mean of the views at the even positions beside it
    pub view_mean : (is_even (on (next e.axis) (edge_numbers e)) && is_even (on (next (next e.axis)) (edge_numbers e))) ≡ false → edge_view g v e ≡ floor_div (sum_of (map (λ c. edge_view g v (edge_of e.axis c)) (even_round g e))) (length (even_round g e))
    view_mean h =
        ap (λ k. edge_view_at g v k e) deep ∙ at_mean h
        ∙ ap (λ ns. floor_div (sum_of ns) (length (even_round g e))) (map_same even_at (λ c. edge_view g v (edge_of e.axis c)) (even_round g e) (all_imply Around (λ c. even_at c ≡ edge_view g v (edge_of e.axis c)) (even_round g e) even_is_view all_around))

-- ---- the faces inside a cell

module _ (g : Grid) (valid : Valid g) (l : ℕ) (f : FaceAt) (deep : f.level ≡ suc l) (i : Inside g.shape (face_numbers f)) (whole : is_split_face g f ≡ false) (no_leaf : is_leaf_face g f ≡ false) where
  high : high_cell g.shape f ≡ Some (face_numbers f)
  high = own f.axis (face_numbers f) _ (above_in _ _ _ (i f.axis))

  round : CellAt
  round = face_numbers (parent_face f)

  -- a face at an odd position that is no leaf face is what the inner rule gives of the views round its cell
  pub view_inner : (v : FaceAt → ℤ) → on f.axis (face_numbers f) % 2 ≡ 1 → face_view g v f ≡ inner_face (sides_of g (face_view g v) (face_numbers (parent_face f))) f.axis (f.x % 2) (f.y % 2) (f.z % 2)
  unfolding round
  view_inner v odd =
      let c = face_numbers (parent_face f) in
      let level : l ≡ c.level = omega arith in
      let width = wide_of g.shape valid.shape in
      ap (λ k. face_view_at g v k f) deep
      ∙ at_odd g (tree g valid) width v l f whole no_leaf odd
      ∙ ap (λ k. inner_face (sides_of g (outer_face_view g v (face_view_at g v k)) c) f.axis (f.x % 2) (f.y % 2) (f.z % 2)) level
      ∙ ap (λ o. inner_face o f.axis (f.x % 2) (f.y % 2) (f.z % 2)) (same_sides g (tree g valid) width v c)
