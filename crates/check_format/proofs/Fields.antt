-- The laws of an image's fields.
use Rattle.std.proofs.Common.{◌≡◌, ℕ, zero, suc, ◌^◌, ◌<◌, ◌≤◌, ◌==◌, Bool, true, false, not, ◌&&◌, ◌||◌, if◌then◌else◌, nat_lt, refl, sym, ap, subst, ◌∙◌, arith, inl, inr, List, [], ◌∷◌, map, length, Option, Some, None, ℤ, eqb-true, eq-eqb, ltb-true, lt-ltb}
use Rattle.std.specs.Prelude.{nat_le, unsigned_abs, codes, is_some}
use Rattle.std.specs.List.{list_all, AllByRecursion}
use Rattle.std.specs.Option.{option_to_list}
use Rattle.std.specs.Int.{Width, w64, w128, byte_len, cast_signed, cast_unsigned}
use Rattle.std.specs.Int.RustNames.{FitsSigned}
use Rattle.std.proofs.Math.Facts.{sfits_to_z, Fits-of_z, of_z-to_z, to_z-of_z}
use Rattle.std.proofs.Common.{Fits}
use Rattle.std.proofs.lemmas.Bool.{cases_lt, leb-true, le-leb, le-ltb}
use Rattle.std.proofs.lemmas.Int.{fits_signed_from_abs}
use Rattle.amr_num.specs.declared.Axis.{Axis}
use Rattle.amr_num.specs.declared.Axis.TheVariants.{X, Y, Z}
use Rattle.amr_num.specs.declared.SideKind.{SideKind}
use Rattle.amr_num.specs.declared.SideKind.TheVariants.{Periodic, Outflow, Closed}
use Rattle.amr_num.specs.Numbers.{Within}
use Rattle.mesh_model.specs.declared.geometry.Shape.{Shape}
use Rattle.mesh_model.specs.Geometry.Coordinates.{is_periodic_kind, side_kind, side_index}
use Rattle.mesh_model.specs.Language.Declarations.{are_paired}
use Rattle.mesh_model.specs.Geometry.Limits.{IsShape, most_nodes}
use Rattle.mesh_model.proofs.TreeLemmas.Tests.{and_left, and_right, and_both, all_three, all_four, either_true, or_left, or_right, not_true}
use Rattle.mesh_model.specs.Tree.Kinds.{Grid}
use Rattle.mesh_model.specs.Fields.RangeWalk.{cells_walked, is_above}
use Rattle.mesh_model.specs.Fields.VariableNames.{VariableNames}
use Rattle.mesh_model.specs.Language.Words.{is_name}
use Rattle.mesh_model.specs.Images.Codec.{Codec, Exact, text, number, followed, ThenFits, where_passes, PassFits, via, times, TimesFits}
use Rattle.mesh_model.specs.Images.Fits.{keeps_rule, marks_stand, TreeFits, NumbersFit, CellsFit}
use Rattle.mesh_model.specs.Tree.Forest.{visited}
use Rattle.mesh_model.specs.Images.Image.{Head, side_code, is_parent, blocks_by, grid_by, face_places, edge_places}
use Rattle.mesh_model.specs.Tree.Start.{start_leaves}
use Rattle.block_tree.proofs.Numbers.{most_few}
use Rattle.mesh_model.specs.Images.Reading.{NamesFit, HeadFits, ValuesFit, any, side, read_side, name, ShapeFields, to_shape, from_shape, is_shape, shape, first, NameFields, to_names, from_names, names_differ, upto, names, head, is_tree, tree, integer, content, out, ValueLists, values}
use Rattle.check_format.proofs.Codecs.{byte_exact, text_exact, number_exact, then_exact, pass_exact, as_exact, times_exact, some_is}

-- a value, and then another, with all arguments from the laws
then_is : {A B : Type 0} {c : Codec A} {P : A → Type 0} {d : A → Codec B} {Q : A → B → Type 0} → Exact A c P → ((a : A) → P a → Exact B (d a) (Q a)) → Exact (A × B) (followed c d) (ThenFits P Q)
then_is {A = A} {B = B} {c = c} {P = P} {d = d} {Q = Q} e next = then_exact A B c P e d Q next

times_is : {A : Type 0} {c : Codec A} {P : A → Type 0} (n : ℕ) → Exact A c P → Exact (List A) (times n c) (TimesFits n P)
times_is {A = A} {c = c} {P = P} n e = times_exact A c P e n

-- ---- single fields

Any : ℕ → Type 0
Any b = true ≡ true

any_exact : Exact ℕ any (λ b. true ≡ true)
any_exact = byte_exact (λ b. true)

all_any : (bs : List ℕ) → AllByRecursion (λ (b : ℕ). true ≡ true) bs
all_any [] = tt
all_any (b ∷ bs) = (refl, all_any bs)

side_spelled : (bytes : List ℕ) (a : SideKind) (rest : List ℕ) → read_side bytes ≡ Some (a, rest) → (bytes ≡ side_code a ∷ rest) × Unit {0}
side_spelled [] a rest e = absurd cc
side_spelled (zero ∷ bytes) a rest e = let made : SideKind × List ℕ = (Periodic, bytes) in subst (λ (y : SideKind × List ℕ). (0 ∷ bytes ≡ side_code y.0 ∷ y.1) × Unit {0}) (some_is made (a, rest) e) (refl, tt)
side_spelled (suc zero ∷ bytes) a rest e = let made : SideKind × List ℕ = (Outflow, bytes) in subst (λ (y : SideKind × List ℕ). (1 ∷ bytes ≡ side_code y.0 ∷ y.1) × Unit {0}) (some_is made (a, rest) e) (refl, tt)
side_spelled (suc (suc zero) ∷ bytes) a rest e = let made : SideKind × List ℕ = (Closed, bytes) in subst (λ (y : SideKind × List ℕ). (2 ∷ bytes ≡ side_code y.0 ∷ y.1) × Unit {0}) (some_is made (a, rest) e) (refl, tt)
side_spelled (suc (suc (suc b)) ∷ bytes) a rest e = absurd cc

side_again : (a : SideKind) (rest : List ℕ) → read_side (side_code a ∷ rest) ≡ Some (a, rest)
side_again Periodic rest = refl
side_again Outflow rest = refl
side_again Closed rest = refl

side_exact : Exact SideKind side (λ s. Unit {0})
side_exact = record { spelled = λ bytes a rest h e. side_spelled bytes a rest e; again = λ a rest f. side_again a rest }

-- so many bytes behind a number of them
pub counted_exact : (count : Codec ℕ) (P : ℕ → Type 0) → Exact ℕ count P → Exact (List ℕ) (via (λ (p : ℕ × List ℕ). p.1) (λ w. (length w, w)) (followed count (λ n. times n any))) (λ w. P (length w))
counted_exact count P e = as_exact (ℕ × List ℕ) (List ℕ) (followed count (λ n. times n any)) (ThenFits P (λ n. TimesFits n (λ b. true ≡ true)))
    (then_is e (λ n f. times_is n any_exact)) (λ p. p.1) (λ w. (length w, w)) (λ w. P (length w))
    (λ a f. (subst P (sym f.1.0) f.0, λ i. (f.1.0 i, a.1)))
    (λ w f. ((f, (refl, all_any w)), refl))

NameFits : List ℕ → Type 0
NameFits = PassFits is_name (λ w. true ≡ true)

name_exact : Exact (List ℕ) name (PassFits is_name (λ w. true ≡ true))
name_exact = pass_exact (List ℕ) (via (λ p. p.1) (λ w. (length w, w)) (followed any (λ n. times n any))) (λ w. true ≡ true) (counted_exact any (λ b. true ≡ true) any_exact) is_name

-- ---- numbers

module _ (w : Width) (most : ℕ) (below : (n : ℕ) → n < 256 ^ byte_len w → Fits w n) (above : (n : ℕ) → Fits w n → n < 256 ^ byte_len w) (room : (z : ℤ) → Within most z → FitsSigned w z) where
  integer_exact : Exact ℤ (integer w) (FitsSigned w)
  integer_exact = as_exact ℕ ℤ (number (byte_len w)) (λ n. n < 256 ^ byte_len w) (number_exact (byte_len w)) (cast_signed w) (cast_unsigned w) (FitsSigned w)
      (λ n f. (sfits_to_z (below n f), of_z-to_z (below n f))) (λ z f. (above _ (Fits-of_z f), to_z-of_z f))

  within_exact : Exact ℤ (where_passes (λ z. not (is_above most z)) (integer w)) (PassFits (λ z. not (is_above most z)) (FitsSigned w))
  within_exact = pass_exact ℤ (integer w) (FitsSigned w) integer_exact (λ z. not (is_above most z))

content_exact : Exact ℤ content (PassFits (λ z. not (is_above (2 ^ 40) z)) (FitsSigned w64))
content_exact = within_exact w64 (2 ^ 40) (λ n h. record { fits = h }) (λ n f. f.fits) (λ z h. fits_signed_from_abs w64 z (omega arith))

out_exact : Exact ℤ out (PassFits (λ z. not (is_above (2 ^ 100) z)) (FitsSigned w128))
out_exact = within_exact w128 (2 ^ 100) (λ n h. record { fits = h }) (λ n f. f.fits) (λ z h. fits_signed_from_abs w128 z (omega arith))

-- the same law, of what fits in other words
same_fits : {A : Type 0} {c : Codec A} {P : A → Type 0} (Q : A → Type 0) → Exact A c P → ((a : A) → P a → Q a) → ((a : A) → Q a → P a) → Exact A c Q
same_fits {A = A} {c = c} {P = P} Q e f h = record {
  spelled = λ bytes a rest b r. let x = e.spelled bytes a rest b r in (x.0, f a x.1);
  again = λ a rest q. e.again a rest (h a q);
}

not_above : (most : ℕ) (z : ℤ) → not (is_above most z) ≡ true → Within most z
not_above most z h = elim (cases_lt most (unsigned_abs z)) [
  | inl lt ↦ let t = lt-ltb most (unsigned_abs z) lt in let f = not_true (is_above most z) h in cc
  | inr le ↦ le
]

not_passed : (most : ℕ) (z : ℤ) → Within most z → not (is_above most z) ≡ true
not_passed most z h = ap not (le-ltb most (unsigned_abs z) h)

pub content_is : Exact ℤ content (Within (2 ^ 40))
content_is = same_fits (Within (2 ^ 40)) content_exact (λ z f. not_above (2 ^ 40) z f.1) (λ z h. (fits_signed_from_abs w64 z (omega arith), not_passed (2 ^ 40) z h))

pub out_is : Exact ℤ out (Within (2 ^ 100))
out_is = same_fits (Within (2 ^ 100)) out_exact (λ z f. not_above (2 ^ 100) z f.1) (λ z h. (fits_signed_from_abs w128 z (omega arith), not_passed (2 ^ 100) z h))

-- ---- the shape

all_sides : (ss : List SideKind) → AllByRecursion (λ (k : SideKind). Unit {0}) ss
all_sides [] = tt
all_sides (k ∷ ss) = (tt, all_sides ss)

paired_says : (low high : SideKind) → are_paired low high ≡ true → is_periodic_kind low ≡ is_periodic_kind high
paired_says low high t = by_cases (is_periodic_kind low) (is_periodic_kind high) t
  where
    by_cases : (a b : Bool) → (if a then b else not b) ≡ true → a ≡ b
    by_cases true b t = sym t
    by_cases false true t = absurd cc
    by_cases false false t = refl

paired_shows : (low high : SideKind) → is_periodic_kind low ≡ is_periodic_kind high → are_paired low high ≡ true
paired_shows low high t = by_cases (is_periodic_kind low) (is_periodic_kind high) t
  where
    by_cases : (a b : Bool) → a ≡ b → (if a then b else not b) ≡ true
    by_cases true b t = sym t
    by_cases false true t = absurd cc
    by_cases false false t = refl

pub shape_says : (s : Shape) → length s.sides ≡ 6 → is_shape s ≡ true → IsShape s
shape_says s six t =
    let ks = s.sides in
    let c1 = (s.n == 4) || (s.n == 8) in
    let c2 = (s.g == 1) || ((s.g == 2) || (s.g == 4)) in
    let c3 = nat_lt 0 s.rx && nat_le s.rx 8 in
    let c4 = nat_lt 0 s.ry && nat_le s.ry 8 in
    let c5 = nat_lt 0 s.rz && nat_le s.rz 8 in
    let c6 = nat_le s.min s.max && nat_le s.max 10 in
    let p1 = are_paired (side_kind ks 0) (side_kind ks 1) in
    let p2 = are_paired (side_kind ks 2) (side_kind ks 3) in
    let p3 = are_paired (side_kind ks 4) (side_kind ks 5) in
    let h6 = and_left (c1 && c2 && c3 && c4 && c5 && c6) (p1 && p2 && p3) t in
    let h7 = and_right (c1 && c2 && c3 && c4 && c5 && c6) (p1 && p2 && p3) t in
    let h5 = and_left (c1 && c2 && c3 && c4 && c5) c6 h6 in
    let h4 = and_left (c1 && c2 && c3 && c4) c5 h5 in
    let h3 = and_left (c1 && c2 && c3) c4 h4 in
    let h2 = and_left (c1 && c2) c3 h3 in
    let three = all_three p1 p2 p3 h7 in
    let t3 = and_right (c1 && c2) c3 h3 in
    let t4 = and_right (c1 && c2 && c3) c4 h4 in
    let t5 = and_right (c1 && c2 && c3 && c4) c5 h5 in
    let t6 = and_right (c1 && c2 && c3 && c4 && c5) c6 h6 in
    record {
      rx = ltb-true _ _ (and_left (nat_lt 0 s.rx) (nat_le s.rx 8) t3);
      ry = ltb-true _ _ (and_left (nat_lt 0 s.ry) (nat_le s.ry 8) t4);
      rz = ltb-true _ _ (and_left (nat_lt 0 s.rz) (nat_le s.rz 8) t5);
      few_x = leb-true _ _ (and_right (nat_lt 0 s.rx) (nat_le s.rx 8) t3);
      few_y = leb-true _ _ (and_right (nat_lt 0 s.ry) (nat_le s.ry 8) t4);
      few_z = leb-true _ _ (and_right (nat_lt 0 s.rz) (nat_le s.rz 8) t5);
      cells = elim (either_true (s.n == 4) (s.n == 8) (and_left c1 c2 h2)) [ inl e ↦ inl (eqb-true _ _ e) | inr e ↦ inr (eqb-true _ _ e) ];
      guards = elim (either_true (s.g == 1) ((s.g == 2) || (s.g == 4)) (and_right c1 c2 h2)) [
        | inl e ↦ inl (eqb-true _ _ e)
        | inr f ↦ elim (either_true (s.g == 2) (s.g == 4) f) [ inl e ↦ inr (inl (eqb-true _ _ e)) | inr e ↦ inr (inr (eqb-true _ _ e)) ]
      ];
      min = leb-true _ _ (and_left (nat_le s.min s.max) (nat_le s.max 10) t6);
      max = leb-true _ _ (and_right (nat_le s.min s.max) (nat_le s.max 10) t6);
      six = six;
      both = λ a. on_axis a three.0 three.1 three.2;
    }
  where
    on_axis : (a : Axis) → are_paired (side_kind s.sides 0) (side_kind s.sides 1) ≡ true → are_paired (side_kind s.sides 2) (side_kind s.sides 3) ≡ true → are_paired (side_kind s.sides 4) (side_kind s.sides 5) ≡ true → is_periodic_kind (side_kind s.sides (side_index a)) ≡ is_periodic_kind (side_kind s.sides (suc (side_index a)))
    on_axis X x y z = paired_says _ _ x
    on_axis Y x y z = paired_says _ _ y
    on_axis Z x y z = paired_says _ _ z

both_tests : (a b : Bool) → a ≡ true → b ≡ true → (a && b) ≡ true
both_tests = and_both

shape_shows : (s : Shape) → IsShape s → is_shape s ≡ true
shape_shows s h =
    let ks = s.sides in
    let c1 = (s.n == 4) || (s.n == 8) in
    let c2 = (s.g == 1) || ((s.g == 2) || (s.g == 4)) in
    let c3 = nat_lt 0 s.rx && nat_le s.rx 8 in
    let c4 = nat_lt 0 s.ry && nat_le s.ry 8 in
    let c5 = nat_lt 0 s.rz && nat_le s.rz 8 in
    let c6 = nat_le s.min s.max && nat_le s.max 10 in
    let p1 = are_paired (side_kind ks 0) (side_kind ks 1) in
    let p2 = are_paired (side_kind ks 2) (side_kind ks 3) in
    let p3 = are_paired (side_kind ks 4) (side_kind ks 5) in
    let t1 : c1 ≡ true = elim h.cells [ inl e ↦ or_left (s.n == 4) (s.n == 8) (eq-eqb _ _ e) | inr e ↦ or_right (s.n == 4) (s.n == 8) (eq-eqb _ _ e) ] in
    let t2 : c2 ≡ true = elim h.guards [
      | inl e ↦ or_left (s.g == 1) ((s.g == 2) || (s.g == 4)) (eq-eqb _ _ e)
      | inr (inl e) ↦ or_right (s.g == 1) ((s.g == 2) || (s.g == 4)) (or_left (s.g == 2) (s.g == 4) (eq-eqb _ _ e))
      | inr (inr e) ↦ or_right (s.g == 1) ((s.g == 2) || (s.g == 4)) (or_right (s.g == 2) (s.g == 4) (eq-eqb _ _ e))
    ] in
    let t3 : c3 ≡ true = and_both (nat_lt 0 s.rx) (nat_le s.rx 8) (lt-ltb _ _ h.rx) (le-leb _ _ h.few_x) in
    let t4 : c4 ≡ true = and_both (nat_lt 0 s.ry) (nat_le s.ry 8) (lt-ltb _ _ h.ry) (le-leb _ _ h.few_y) in
    let t5 : c5 ≡ true = and_both (nat_lt 0 s.rz) (nat_le s.rz 8) (lt-ltb _ _ h.rz) (le-leb _ _ h.few_z) in
    let t6 : c6 ≡ true = and_both (nat_le s.min s.max) (nat_le s.max 10) (le-leb _ _ h.min) (le-leb _ _ h.max) in
    and_both (c1 && c2 && c3 && c4 && c5 && c6) (p1 && p2 && p3)
    (and_both (c1 && c2 && c3 && c4 && c5) c6 (and_both (c1 && c2 && c3 && c4) c5 (and_both (c1 && c2 && c3) c4 (and_both (c1 && c2) c3 (and_both c1 c2 t1 t2) t3) t4) t5) t6)
    (and_both (p1 && p2) p3 (and_both p1 p2 (paired_shows _ _ (h.both X)) (paired_shows _ _ (h.both Y))) (paired_shows _ _ (h.both Z)))

sides_exact : Exact (List SideKind) (times 6 side) (TimesFits 6 (λ k. Unit {0}))
sides_exact = times_is 6 side_exact

fields_exact : Exact ShapeFields (followed any (λ n. followed any (λ g. followed any (λ rx. followed any (λ ry. followed any (λ rz. followed any (λ min. followed any (λ max. times 6 side)))))))) (ThenFits (λ n. true ≡ true) (λ n. ThenFits (λ g. true ≡ true) (λ g. ThenFits (λ x. true ≡ true) (λ x. ThenFits (λ y. true ≡ true) (λ y. ThenFits (λ z. true ≡ true) (λ z. ThenFits (λ l. true ≡ true) (λ l. ThenFits (λ h. true ≡ true) (λ h. TimesFits 6 (λ k. Unit {0})))))))))
fields_exact = then_is any_exact (λ n f. then_is any_exact (λ g f. then_is any_exact (λ x f. then_is any_exact (λ y f. then_is any_exact (λ z f. then_is any_exact (λ l f. then_is any_exact (λ h f. sides_exact)))))))

pub shape_exact : Exact Shape shape IsShape
shape_exact = same_fits IsShape
    (pass_exact Shape (via to_shape from_shape (followed any (λ n. followed any (λ g. followed any (λ rx. followed any (λ ry. followed any (λ rz. followed any (λ min. followed any (λ max. times 6 side)))))))))
    (λ s. length s.sides ≡ 6)
    (as_exact ShapeFields Shape (followed any (λ n. followed any (λ g. followed any (λ rx. followed any (λ ry. followed any (λ rz. followed any (λ min. followed any (λ max. times 6 side)))))))) _ fields_exact to_shape from_shape (λ s. length s.sides ≡ 6)
    (λ a f. (f.1.1.1.1.1.1.1.0, refl))
    (λ s f. ((refl, (refl, (refl, (refl, (refl, (refl, (refl, (f, all_sides s.sides)))))))), refl)))
    is_shape)
    (λ s f. shape_says s f.0 f.1)
    (λ s h. (h.six, shape_shows s h))

-- ---- the names

upto_exact : (most : ℕ) → Exact ℕ (upto most) (λ b. nat_le b most ≡ true)
upto_exact most = byte_exact (λ b. nat_le b most)

abbrev IsName : List ℕ → Type 0
IsName w = is_name w ≡ true

name_is : Exact (List ℕ) name IsName
name_is = same_fits IsName name_exact (λ w f. f.1) (λ w h. (refl, h))

first_back : (xs : List (List ℕ)) → length xs ≤ 1 → option_to_list (first xs) ≡ xs
first_back [] h = refl
first_back (x ∷ []) h = refl
first_back (x ∷ y ∷ xs) h = absurd (omega arith)

few_option : (o : Option (List ℕ)) → length (option_to_list o) ≤ 1
few_option None = omega arith
few_option (Some x) = omega arith

first_again : (o : Option (List ℕ)) → first (option_to_list o) ≡ o
first_again None = refl
first_again (Some x) = refl

NameFieldsFit : NameFields → Type 0
NameFieldsFit = ThenFits (λ nc. nat_le nc 4 ≡ true) (λ nc. ThenFits (λ nf. nat_le nf 1 ≡ true) (λ nf. ThenFits (λ ne. nat_le ne 1 ≡ true) (λ ne. ThenFits (TimesFits nc IsName) (λ c. ThenFits (TimesFits nf IsName) (λ f. TimesFits ne IsName)))))

name_fields_exact : Exact NameFields (followed (upto 4) (λ nc. followed (upto 1) (λ nf. followed (upto 1) (λ ne. followed (times nc name) (λ cells. followed (times nf name) (λ face. times ne name)))))) NameFieldsFit
unfolding NameFieldsFit
name_fields_exact = then_is (upto_exact 4) (λ nc f. then_is (upto_exact 1) (λ nf f. then_is (upto_exact 1) (λ ne f. then_is (times_is nc name_is) (λ c f. then_is (times_is nf name_is) (λ d f. times_is ne name_is)))))

-- all but that they differ
record NamesAlone (v : VariableNames) : Type 0 where
  few : length v.cells ≤ 4
  cells : AllByRecursion IsName v.cells
  face : AllByRecursion IsName (option_to_list v.face)
  edge : AllByRecursion IsName (option_to_list v.edge)

names_to : (a : NameFields) → NameFieldsFit a → NamesAlone (to_names a) × (from_names (to_names a) ≡ a)
unfolding NameFieldsFit
names_to a f =
    let cells_len = f.1.1.1.0.0 in
    let face_len = f.1.1.1.1.0.0 in
    let edge_len = f.1.1.1.1.1.0 in
    let nc = leb-true _ _ f.0 in
    let nf = leb-true _ _ f.1.0 in
    let ne = leb-true _ _ f.1.1.0 in
    let face = first_back a.1.1.1.1.0 (omega arith) in
    let edge = first_back a.1.1.1.1.1 (omega arith) in
    let face_n = ap length face ∙ face_len in
    let edge_n = ap length edge ∙ edge_len in (
      record {
        few = omega arith;
        cells = f.1.1.1.0.1;
        face = subst (λ u. AllByRecursion IsName u) (sym face) f.1.1.1.1.0.1;
        edge = subst (λ u. AllByRecursion IsName u) (sym edge) f.1.1.1.1.1.1;
      },
      λ i. (cells_len i, (face_n i, (edge_n i, (a.1.1.1.0, (face i, edge i))))),
    )

names_from : (v : VariableNames) → NamesAlone v → NameFieldsFit (from_names v) × (to_names (from_names v) ≡ v)
unfolding NameFieldsFit
names_from v h = (
  (le-leb _ _ h.few, (le-leb _ _ (few_option v.face), (le-leb _ _ (few_option v.edge), ((refl, h.cells), ((refl, h.face), (refl, h.edge)))))),
  λ i. record { cells = v.cells; face = first_again v.face i; edge = first_again v.edge i },
)

pub names_exact : Exact VariableNames names NamesFit
names_exact = same_fits NamesFit
    (pass_exact VariableNames (via to_names from_names (followed (upto 4) (λ nc. followed (upto 1) (λ nf. followed (upto 1) (λ ne. followed (times nc name) (λ cells. followed (times nf name) (λ face. times ne name))))))) NamesAlone
    (as_exact NameFields VariableNames (followed (upto 4) (λ nc. followed (upto 1) (λ nf. followed (upto 1) (λ ne. followed (times nc name) (λ cells. followed (times nf name) (λ face. times ne name)))))) NameFieldsFit name_fields_exact to_names from_names NamesAlone names_to names_from)
    names_differ)
    (λ v f. record { few = f.0.few; cells = f.0.cells; face = f.0.face; edge = f.0.edge; differ = f.1 })
    (λ v h. (record { few = h.few; cells = h.cells; face = h.face; edge = h.edge }, h.differ))

pub head_exact : Exact Head head HeadFits
head_exact = as_exact (Unit {0} × (ℕ × (Shape × VariableNames))) Head (followed (text (codes "AMRCHK01")) (λ magic. followed (upto 2) (λ turn. followed shape (λ s. names)))) (ThenFits (λ u. Unit {0}) (λ u. ThenFits (λ t. nat_le t 2 ≡ true) (λ t. ThenFits IsShape (λ s. NamesFit))))
    (then_is (text_exact (codes "AMRCHK01")) (λ u f. then_is (upto_exact 2) (λ t f. then_is shape_exact (λ s f. names_exact))))
    (λ p. record { turn = p.1.0; shape = p.1.1.0; names = p.1.1.1 }) (λ h. (tt, (h.turn, (h.shape, h.names)))) HeadFits
    (λ a f. (record { turn = leb-true _ _ f.1.0; shape = f.1.1.0; names = f.1.1.1 }, refl))
    (λ h f. ((tt, (le-leb _ _ f.turn, (f.shape, f.names))), refl))

-- ---- the nodes

pub small_says : (cs : List ℕ) → list_all (λ c. nat_le c 4) cs ≡ true → AllByRecursion (λ c. c ≤ 4) cs
small_says [] h = tt
small_says (c ∷ cs) h = (leb-true _ _ (and_left (nat_le c 4) (list_all (λ d. nat_le d 4) cs) h), small_says cs (and_right (nat_le c 4) (list_all (λ d. nat_le d 4) cs) h))

small_shows : (cs : List ℕ) → AllByRecursion (λ c. c ≤ 4) cs → list_all (λ c. nat_le c 4) cs ≡ true
small_shows [] h = refl
small_shows (c ∷ cs) h = and_both (nat_le c 4) (list_all (λ d. nat_le d 4) cs) (le-leb _ _ h.0) (small_shows cs h.1)

abbrev CountFits : Shape → ℕ → Type 0
CountFits s = PassFits (λ n. nat_lt 0 n && nat_le n (most_nodes s)) (λ n. n < 256 ^ 4)

pub tree_says : (s : Shape) (cs : List ℕ) → 0 < length cs → length cs ≤ most_nodes s → is_tree s cs ≡ true → TreeFits s cs
tree_says s cs some few t =
    let t1 = list_all (λ c. nat_le c 4) cs in
    let t2 = is_some (visited s.max (map is_parent cs) (start_leaves s)) in
    let t3 = keeps_rule (grid_by s cs) in
    let t4 = marks_stand s (blocks_by s cs) cs in
    let four = all_four t1 t2 t3 t4 t in
    record { some = some; few = few; small = small_says cs four.0; whole = four.1; rule = four.2; marks = four.3 }

pub tree_exact : (s : Shape) → Exact (List ℕ) (tree s) (TreeFits s)
tree_exact s = same_fits (TreeFits s)
    (pass_exact (List ℕ) (via (λ p. p.1) (λ cs. (length cs, cs)) (followed (where_passes (λ n. nat_lt 0 n && nat_le n (most_nodes s)) (number 4)) (λ n. times n any))) (λ cs. CountFits s (length cs))
    (counted_exact (where_passes (λ n. nat_lt 0 n && nat_le n (most_nodes s)) (number 4)) (CountFits s) (pass_exact ℕ (number 4) (λ n. n < 256 ^ 4) (number_exact 4) (λ n. nat_lt 0 n && nat_le n (most_nodes s))))
    (is_tree s))
    (λ cs f. tree_says s cs
    (ltb-true _ _ (and_left (nat_lt 0 (length cs)) (nat_le (length cs) (most_nodes s)) f.0.1))
    (leb-true _ _ (and_right (nat_lt 0 (length cs)) (nat_le (length cs) (most_nodes s)) f.0.1)) f.1)
    (λ cs h.
    let t1 = list_all (λ c. nat_le c 4) cs in
    let t2 = is_some (visited s.max (map is_parent cs) (start_leaves s)) in
    let t3 = keeps_rule (grid_by s cs) in
    let t4 = marks_stand s (blocks_by s cs) cs in
    let few = h.few in
    let most = most_few s in (
      (omega arith, and_both (nat_lt 0 (length cs)) (nat_le (length cs) (most_nodes s)) (lt-ltb _ _ h.some) (le-leb _ _ h.few)),
      and_both (t1 && t2 && t3) t4 (and_both (t1 && t2) t3 (and_both t1 t2 (small_shows cs h.small) h.whole) h.rule) h.marks,
    ))

-- ---- the values

numbers_exact : (n : ℕ) → Exact (List ℤ) (times n content) (NumbersFit n (2 ^ 40))
numbers_exact n = same_fits (NumbersFit n (2 ^ 40)) (times_is n content_is) (λ zs f. record { count = f.0; within = f.1 }) (λ zs h. (h.count, h.within))

variable_exact : (n : ℕ) → Exact (ℤ × List ℤ) (followed out (λ o. times n content)) (CellsFit n)
variable_exact n = same_fits (CellsFit n) (then_is out_is (λ o f. numbers_exact n)) (λ p f. record { out = f.0; contents = f.1 }) (λ p h. (h.out, h.contents))

pub values_exact : (v : VariableNames) (g : Grid) → Exact ValueLists (values v g) (ValuesFit v g)
values_exact v g = same_fits (ValuesFit v g)
    (then_is (times_is (length v.cells) (variable_exact (length (cells_walked g)))) (λ c f. then_is (numbers_exact (length (face_places v g))) (λ d f. numbers_exact (length (edge_places v g)))))
    (λ p f. record { variables = f.0.0; cells = f.0.1; faces = f.1.0; edges = f.1.1 })
    (λ p h. ((h.variables, h.cells), (h.faces, h.edges)))
