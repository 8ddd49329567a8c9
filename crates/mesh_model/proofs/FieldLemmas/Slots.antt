-- The cells beside a subface are sub-cells of the cells beside the face, and so round an edge.
use Rattle.std.proofs.Common.{◌≡◌, ℕ, zero, suc, ◌+◌, ◌*◌, ◌/◌, ◌%◌, ◌<◌, Bool, true, false, ◌||◌, refl, sym, ap, ap₂, ◌∙◌, arith, inl, inr, Option, Some, None}
use Rattle.std.proofs.lemmas.Bool.{cases_lt, le-ltb, lt-ltb}
use Rattle.std.specs.Prelude.{option_map, if◌then◌else◌}
use Rattle.amr_num.specs.declared.Axis.{Axis}
use Rattle.amr_num.specs.declared.Axis.TheVariants.{X, Y, Z}
use Rattle.amr_num.specs.declared.CellAt.{CellAt}
use Rattle.amr_num.specs.declared.FaceAt.{FaceAt}
use Rattle.amr_num.specs.declared.EdgeAt.{EdgeAt}
use Rattle.mesh_model.specs.declared.geometry.Shape.{Shape}
use Rattle.mesh_model.specs.Geometry.Coordinates.{sub_cell, below, above, low_cell, high_cell, moved, moved_twice, half_edge, parent_edge, round_edge, edge_numbers, next, sub_face, parent_face, extent, is_periodic, on, face_numbers}
use Rattle.mesh_model.specs.Tree.Kinds.{holds}
use Rattle.std.specs.List.{list_any}
use Rattle.mesh_model.specs.Fields.Views.{quarter_of, half_of}
use Rattle.mesh_model.proofs.TreeLemmas.Tests.{or_left, or_right}

pub below_double : (periodic : Bool) (e p : ℕ) → 0 < e → below periodic (2 * e) (2 * p) ≡ option_map (λ r. 2 * r + 1) (below periodic e p)
below_double true e zero h = ap Some (omega arith)
below_double false e zero h = refl
below_double periodic e (suc p) h =
    let twice : 2 * suc p ≡ suc (2 * p + 1) = omega arith in
    ap (below periodic (2 * e)) twice

zero_or_none : (periodic : Bool) → (if periodic then Some 0 else None) ≡ option_map (λ r. 2 * r) (if periodic then Some 0 else None)
zero_or_none true = refl
zero_or_none false = refl

pub above_double : (periodic : Bool) (e p : ℕ) → above periodic (2 * e) (2 * p) ≡ option_map (λ r. 2 * r) (above periodic e p)
above_double periodic e p = elim (cases_lt p e) [
  | inl h ↦ rw (lt-ltb p e h, lt-ltb (2 * p) (2 * e) (omega arith)) refl
  | inr h ↦ rw (le-ltb p e h, le-ltb (2 * p) (2 * e) (omega arith)) (zero_or_none periodic)
]

pub extent_double : (s : Shape) (a : Axis) (l : ℕ) → extent s a (suc l) ≡ 2 * extent s a l
extent_double s a l = grind arith

-- the octant beside a quarter of a face, on the low side (1) or the high side (0)
abbrev pub octant_beside : Axis → ℕ → ℕ → ℕ
octant_beside X h q = h + 2 * (q % 2) + 4 * (q / 2 % 2)
octant_beside Y h q = q % 2 + 2 * h + 4 * (q / 2 % 2)
octant_beside Z h q = q % 2 + 2 * (q / 2 % 2) + 4 * h

same_face : (f g : FaceAt) → f.axis ≡ g.axis → f.level ≡ g.level → f.x ≡ g.x → f.y ≡ g.y → f.z ≡ g.z → f ≡ g
same_face f g a l x y z = λ i. record { axis = a i; level = l i; x = x i; y = y i; z = z i }

pub same_cell : (c d : CellAt) → c.level ≡ d.level → c.x ≡ d.x → c.y ≡ d.y → c.z ≡ d.z → c ≡ d
same_cell c d l x y z = λ i. record { level = l i; x = x i; y = y i; z = z i }

moved_low : (a : Axis) (l x y z q : ℕ) (o : Option ℕ) → let f : FaceAt = record { axis = a; level = l; x = x; y = y; z = z } in moved a (option_map (λ r. 2 * r + 1) o) (face_numbers (sub_face f q)) ≡ option_map (λ c. sub_cell c (octant_beside a 1 q)) (moved a o (face_numbers f))
moved_low a l x y z q None = refl
moved_low X l x y z q (Some r) = ap Some (same_cell _ _ refl (omega arith) (omega arith) (omega arith))
moved_low Y l x y z q (Some r) = ap Some (same_cell _ _ refl (omega arith) (omega arith) (omega arith))
moved_low Z l x y z q (Some r) = ap Some (same_cell _ _ refl (omega arith) (omega arith) (omega arith))

moved_high : (a : Axis) (l x y z q : ℕ) (o : Option ℕ) → let f : FaceAt = record { axis = a; level = l; x = x; y = y; z = z } in moved a (option_map (λ r. 2 * r) o) (face_numbers (sub_face f q)) ≡ option_map (λ c. sub_cell c (octant_beside a 0 q)) (moved a o (face_numbers f))
moved_high a l x y z q None = refl
moved_high X l x y z q (Some r) = ap Some (same_cell _ _ refl (omega arith) (omega arith) (omega arith))
moved_high Y l x y z q (Some r) = ap Some (same_cell _ _ refl (omega arith) (omega arith) (omega arith))
moved_high Z l x y z q (Some r) = ap Some (same_cell _ _ refl (omega arith) (omega arith) (omega arith))

-- the doubled position
pub position_double : (a : Axis) (l x y z q : ℕ) → let f : FaceAt = record { axis = a; level = l; x = x; y = y; z = z } in on a (face_numbers (sub_face f q)) ≡ 2 * on a (face_numbers f)
position_double X l x y z q = omega arith
position_double Y l x y z q = omega arith
position_double Z l x y z q = omega arith

pub low_cell_sub : (s : Shape) (f : FaceAt) (q : ℕ) → 0 < extent s f.axis f.level → low_cell s (sub_face f q) ≡ option_map (λ c. sub_cell c (octant_beside f.axis 1 q)) (low_cell s f)
low_cell_sub s f q h =
    ap₂ (λ e p. moved f.axis (below (is_periodic s f.axis) e p) (face_numbers (sub_face f q))) (extent_double s f.axis f.level) (position_double f.axis f.level f.x f.y f.z q)
    ∙ ap (λ o. moved f.axis o (face_numbers (sub_face f q))) (below_double (is_periodic s f.axis) (extent s f.axis f.level) (on f.axis (face_numbers f)) h)
    ∙ moved_low f.axis f.level f.x f.y f.z q _

pub high_cell_sub : (s : Shape) (f : FaceAt) (q : ℕ) → high_cell s (sub_face f q) ≡ option_map (λ c. sub_cell c (octant_beside f.axis 0 q)) (high_cell s f)
high_cell_sub s f q =
    ap₂ (λ e p. moved f.axis (above (is_periodic s f.axis) e p) (face_numbers (sub_face f q))) (extent_double s f.axis f.level) (position_double f.axis f.level f.x f.y f.z q)
    ∙ ap (λ o. moved f.axis o (face_numbers (sub_face f q))) (above_double (is_periodic s f.axis) (extent s f.axis f.level) (on f.axis (face_numbers f)))
    ∙ moved_high f.axis f.level f.x f.y f.z q _

pub even_position : (f : FaceAt) (q : ℕ) → on f.axis (face_numbers (sub_face f q)) % 2 ≡ 0
even_position f q = let e = position_double f.axis f.level f.x f.y f.z q in omega arith

quarter_at : (a : Axis) (l x y z q : ℕ) → q < 4 → let f : FaceAt = record { axis = a; level = l; x = x; y = y; z = z } in quarter_of (sub_face f q) ≡ q
quarter_at X l x y z q h = omega arith
quarter_at Y l x y z q h = omega arith
quarter_at Z l x y z q h = omega arith

pub quarter_of_sub : (f : FaceAt) (q : ℕ) → q < 4 → quarter_of (sub_face f q) ≡ q
quarter_of_sub f q h = quarter_at f.axis f.level f.x f.y f.z q h

parent_at : (a : Axis) (l x y z q : ℕ) → let f : FaceAt = record { axis = a; level = l; x = x; y = y; z = z } in parent_face (sub_face f q) ≡ f
parent_at X l x y z q = same_face _ _ refl (omega arith) (omega arith) (omega arith) (omega arith)
parent_at Y l x y z q = same_face _ _ refl (omega arith) (omega arith) (omega arith) (omega arith)
parent_at Z l x y z q = same_face _ _ refl (omega arith) (omega arith) (omega arith) (omega arith)

pub parent_of_sub_face : (f : FaceAt) (q : ℕ) → parent_face (sub_face f q) ≡ f
parent_of_sub_face f q = parent_at f.axis f.level f.x f.y f.z q

-- ---- edges

no_more : (o : Option ℕ) → option_map (λ r. 2 * r) o ≡ option_map (λ r. 2 * r + 0) o
no_more None = refl
no_more (Some r) = ap Some (omega arith)

-- the octant round a half edge, with j and k on the next axis and the one after
abbrev pub octant_round : Axis → ℕ → ℕ → ℕ → ℕ
octant_round X h j k = h + 2 * j + 4 * k
octant_round Y h j k = k + 2 * h + 4 * j
octant_round Z h j k = j + 2 * k + 4 * h

round_at : (a : Axis) (l x y z h j k : ℕ) → h < 2 → j < 2 → k < 2 → (o p : Option ℕ) → let e : EdgeAt = record { axis = a; level = l; x = x; y = y; z = z } in moved_twice (next a) (option_map (λ r. 2 * r + j) o) (next (next a)) (option_map (λ r. 2 * r + k) p) (edge_numbers (half_edge e h)) ≡ option_map (λ c. sub_cell c (octant_round a h j k)) (moved_twice (next a) o (next (next a)) p (edge_numbers e))
round_at a l x y z h j k hh hj hk None p = refl
round_at a l x y z h j k hh hj hk (Some r) None = refl
round_at X l x y z h j k hh hj hk (Some r) (Some q) = ap Some (same_cell _ _ refl (omega arith) (omega arith) (omega arith))
round_at Y l x y z h j k hh hj hk (Some r) (Some q) = ap Some (same_cell _ _ refl (omega arith) (omega arith) (omega arith))
round_at Z l x y z h j k hh hj hk (Some r) (Some q) = ap Some (same_cell _ _ refl (omega arith) (omega arith) (omega arith))

positions_double : (a : Axis) (l x y z h : ℕ) → let e : EdgeAt = record { axis = a; level = l; x = x; y = y; z = z } in (on (next a) (edge_numbers (half_edge e h)) ≡ 2 * on (next a) (edge_numbers e)) × (on (next (next a)) (edge_numbers (half_edge e h)) ≡ 2 * on (next (next a)) (edge_numbers e))
positions_double X l x y z h = (omega arith, omega arith)
positions_double Y l x y z h = (omega arith, omega arith)
positions_double Z l x y z h = (omega arith, omega arith)

pub even_positions : (e : EdgeAt) (h : ℕ) → (on (next e.axis) (edge_numbers (half_edge e h)) % 2 ≡ 0) × (on (next (next e.axis)) (edge_numbers (half_edge e h)) % 2 ≡ 0)
even_positions e h = let d = positions_double e.axis e.level e.x e.y e.z h in (omega arith, omega arith)

pub four_fail : (a b c d : Bool) → (a || (b || (c || (d || false)))) ≡ false → (a ≡ false) × (b ≡ false) × (c ≡ false) × (d ≡ false)
four_fail false false false false h = (refl, refl, refl, refl)
four_fail true b c d h = cc
four_fail false true c d h = cc
four_fail false false true d h = cc
four_fail false false false true h = cc

pub four_failed : (a b c d : Bool) → a ≡ false → b ≡ false → c ≡ false → d ≡ false → (a || (b || (c || (d || false)))) ≡ false
four_failed a b c d p q r t = rw (p, q, r, t) refl

four_hold : (a b c d a' b' c' d' : Bool) → (a ≡ true → a' ≡ true) → (b ≡ true → b' ≡ true) → (c ≡ true → c' ≡ true) → (d ≡ true → d' ≡ true) → (a || (b || (c || (d || false)))) ≡ true → (a' || (b' || (c' || (d' || false)))) ≡ true
four_hold true b c d a' b' c' d' p q r t h = or_left a' _ (p refl)
four_hold false true c d a' b' c' d' p q r t h = or_right a' _ (or_left b' _ (q refl))
four_hold false false true d a' b' c' d' p q r t h = or_right a' _ (or_right b' _ (or_left c' _ (r refl)))
four_hold false false false true a' b' c' d' p q r t h = or_right a' _ (or_right b' _ (or_right c' _ (or_left d' _ (t refl))))
four_hold false false false false a' b' c' d' p q r t h = cc

passes : (test next_test : CellAt → Bool) → ((c : CellAt) (q : ℕ) → test c ≡ false → next_test (sub_cell c q) ≡ false) → (o o' : Option CellAt) (q : ℕ) → o' ≡ option_map (λ c. sub_cell c q) o → holds test o ≡ false → holds next_test o' ≡ false
passes test next_test step None o' q e h = ap (holds next_test) e
passes test next_test step (Some c) o' q e h = ap (holds next_test) e ∙ step c q h

gives : (test first_test second_test : CellAt → Bool) → ((c : CellAt) (q : ℕ) → test c ≡ true → first_test (sub_cell c q) ≡ false → second_test (sub_cell c q) ≡ true) → (o o' : Option CellAt) (q : ℕ) → o' ≡ option_map (λ c. sub_cell c q) o → holds first_test o' ≡ false → holds test o ≡ true → holds second_test o' ≡ true
gives test first_test second_test step None o' q e f h = cc
gives test first_test second_test step (Some c) o' q e f h = ap (holds second_test) e ∙ step c q h (sym (ap (holds first_test) e) ∙ f)

half_at : (a : Axis) (l x y z h : ℕ) → h < 2 → let e : EdgeAt = record { axis = a; level = l; x = x; y = y; z = z } in half_of (half_edge e h) ≡ h
half_at X l x y z h p = omega arith
half_at Y l x y z h p = omega arith
half_at Z l x y z h p = omega arith

pub half_of_half : (e : EdgeAt) (h : ℕ) → h < 2 → half_of (half_edge e h) ≡ h
half_of_half e h p = half_at e.axis e.level e.x e.y e.z h p

same_edge : (f g : EdgeAt) → f.axis ≡ g.axis → f.level ≡ g.level → f.x ≡ g.x → f.y ≡ g.y → f.z ≡ g.z → f ≡ g
same_edge f g a l x y z = λ i. record { axis = a i; level = l i; x = x i; y = y i; z = z i }

parent_half_at : (a : Axis) (l x y z h : ℕ) → h < 2 → let e : EdgeAt = record { axis = a; level = l; x = x; y = y; z = z } in parent_edge (half_edge e h) ≡ e
parent_half_at X l x y z h p = same_edge _ _ refl (omega arith) (omega arith) (omega arith) (omega arith)
parent_half_at Y l x y z h p = same_edge _ _ refl (omega arith) (omega arith) (omega arith) (omega arith)
parent_half_at Z l x y z h p = same_edge _ _ refl (omega arith) (omega arith) (omega arith) (omega arith)

pub parent_of_half : (e : EdgeAt) (h : ℕ) → h < 2 → parent_edge (half_edge e h) ≡ e
parent_of_half e h p = parent_half_at e.axis e.level e.x e.y e.z h p

module _ (s : Shape) (wide : (a : Axis) (l : ℕ) → 0 < extent s a l) (e : EdgeAt) (h : ℕ) (hh : h < 2) where
  pub b_low : below (is_periodic s (next e.axis)) (extent s (next e.axis) (suc e.level)) (on (next e.axis) (edge_numbers (half_edge e h))) ≡ option_map (λ r. 2 * r + 1) (below (is_periodic s (next e.axis)) (extent s (next e.axis) e.level) (on (next e.axis) (edge_numbers e)))
  b_low = ap₂ (below (is_periodic s (next e.axis))) (extent_double s (next e.axis) e.level) (positions_double e.axis e.level e.x e.y e.z h).0 ∙ below_double _ _ _ (wide (next e.axis) e.level)

  pub b_high : above (is_periodic s (next e.axis)) (extent s (next e.axis) (suc e.level)) (on (next e.axis) (edge_numbers (half_edge e h))) ≡ option_map (λ r. 2 * r + 0) (above (is_periodic s (next e.axis)) (extent s (next e.axis) e.level) (on (next e.axis) (edge_numbers e)))
  b_high = ap₂ (above (is_periodic s (next e.axis))) (extent_double s (next e.axis) e.level) (positions_double e.axis e.level e.x e.y e.z h).0 ∙ above_double _ _ _ ∙ no_more _

  pub d_low : below (is_periodic s (next (next e.axis))) (extent s (next (next e.axis)) (suc e.level)) (on (next (next e.axis)) (edge_numbers (half_edge e h))) ≡ option_map (λ r. 2 * r + 1) (below (is_periodic s (next (next e.axis))) (extent s (next (next e.axis)) e.level) (on (next (next e.axis)) (edge_numbers e)))
  d_low = ap₂ (below (is_periodic s (next (next e.axis)))) (extent_double s (next (next e.axis)) e.level) (positions_double e.axis e.level e.x e.y e.z h).1 ∙ below_double _ _ _ (wide (next (next e.axis)) e.level)

  pub d_high : above (is_periodic s (next (next e.axis))) (extent s (next (next e.axis)) (suc e.level)) (on (next (next e.axis)) (edge_numbers (half_edge e h))) ≡ option_map (λ r. 2 * r + 0) (above (is_periodic s (next (next e.axis))) (extent s (next (next e.axis)) e.level) (on (next (next e.axis)) (edge_numbers e)))
  d_high = ap₂ (above (is_periodic s (next (next e.axis)))) (extent_double s (next (next e.axis)) e.level) (positions_double e.axis e.level e.x e.y e.z h).1 ∙ above_double _ _ _ ∙ no_more _

  pub round_cell : (j k : ℕ) → j < 2 → k < 2 → (o p o' p' : Option ℕ) → o' ≡ option_map (λ r. 2 * r + j) o → p' ≡ option_map (λ r. 2 * r + k) p → moved_twice (next e.axis) o' (next (next e.axis)) p' (edge_numbers (half_edge e h)) ≡ option_map (λ c. sub_cell c (octant_round e.axis h j k)) (moved_twice (next e.axis) o (next (next e.axis)) p (edge_numbers e))
  round_cell j k hj hk o p o' p' eo ep =
      ap₂ (λ u w. moved_twice (next e.axis) u (next (next e.axis)) w (edge_numbers (half_edge e h))) eo ep ∙ round_at e.axis e.level e.x e.y e.z h j k hh hj hk o p

  slot : ℕ → Option CellAt → Option CellAt
  slot q o = option_map (λ c. sub_cell c q) o

  -- what fails of each cell round the edge fails, in its next form, of each cell round the half
  pub round_fails : (test next_test : CellAt → Bool) → ((c : CellAt) (q : ℕ) → test c ≡ false → next_test (sub_cell c q) ≡ false) → list_any (holds test) (round_edge s e) ≡ false → list_any (holds next_test) (round_edge s (half_edge e h)) ≡ false
  round_fails test next_test step f =
      let each = four_fail _ _ _ _ f in
      four_failed _ _ _ _
      (passes test next_test step _ _ _ (round_cell 1 1 (omega arith) (omega arith) _ _ _ _ b_low d_low) each.0)
      (passes test next_test step _ _ _ (round_cell 0 1 (omega arith) (omega arith) _ _ _ _ b_high d_low) each.1)
      (passes test next_test step _ _ _ (round_cell 1 0 (omega arith) (omega arith) _ _ _ _ b_low d_high) each.2)
      (passes test next_test step _ _ _ (round_cell 0 0 (omega arith) (omega arith) _ _ _ _ b_high d_high) each.3)

  -- where a cell round the edge passes, and in each place below one of two tests holds, then the second holds somewhere where the first holds nowhere
  pub round_holds : (test first_test second_test : CellAt → Bool) → ((c : CellAt) (q : ℕ) → test c ≡ true → first_test (sub_cell c q) ≡ false → second_test (sub_cell c q) ≡ true) → list_any (holds test) (round_edge s e) ≡ true → list_any (holds first_test) (round_edge s (half_edge e h)) ≡ false → list_any (holds second_test) (round_edge s (half_edge e h)) ≡ true
  round_holds test first_test second_test step t f =
      let each = four_fail _ _ _ _ f in
      four_hold _ _ _ _ _ _ _ _
      (gives test first_test second_test step _ _ _ (round_cell 1 1 (omega arith) (omega arith) _ _ _ _ b_low d_low) each.0)
      (gives test first_test second_test step _ _ _ (round_cell 0 1 (omega arith) (omega arith) _ _ _ _ b_high d_low) each.1)
      (gives test first_test second_test step _ _ _ (round_cell 1 0 (omega arith) (omega arith) _ _ _ _ b_low d_high) each.2)
      (gives test first_test second_test step _ _ _ (round_cell 0 0 (omega arith) (omega arith) _ _ _ _ b_high d_high) each.3)
      t
