-- The faces between octants, cell by cell.
use Rattle.std.proofs.Common.{◌≡◌, ℕ, ◌+◌, ◌*◌, ◌/◌, ◌%◌, ◌^◌, ◌<◌, true, false, List, ℤ, refl, sym, ap, ap₂, ◌∙◌, arith, inl, inr, subst, eq-eqb}
use Rattle.std.proofs.lemmas.Bool.{cases_lt}
use Rattle.amr_num.specs.declared.Axis.{Axis}
use Rattle.amr_num.specs.declared.Axis.TheVariants.{X, Y, Z}
use Rattle.amr_num.specs.Numbers.{Within}
use Rattle.mesh_model.specs.Geometry.Coordinates.{quarter}
use Rattle.mesh_model.specs.Geometry.Places.{longer_on}
use Rattle.mesh_model.specs.Fields.ArrayPlaces.{IsInBox, IsSize, IsWritten, face_extents, number_at}
use Rattle.mesh_model.specs.Fields.FaceSplits.{face_between, face_box, position, sides_from}
use Rattle.mesh_model.specs.Fields.InnerRule.{Outer}
use Rattle.mesh_model.specs.Fields.Views.{inner_face, is_even}
use Rattle.mesh_model.proofs.FieldLemmas.Inside.{not_even}
use Rattle.mesh_model.proofs.GeometryLemmas.Halves.{by_size}
use Rattle.prolong_op.specs.Splitting.{AreBetween, EvenAreSmall, SidesAreSmall, cell_number, middle_box}
use Rattle.prolong_op.proofs.Lines.{block_place, face_lines, faces_of}

-- ---- odd and even

pub odd_of : (q : ℕ) → is_even q ≡ false → q % 2 ≡ 1
odd_of q h = elim (cases_lt (q % 2) 1) [ inl low ↦ (let e = eq-eqb (q % 2) 0 (omega arith) in cc) | inr high ↦ omega arith ]

pub even_is : (q : ℕ) → q % 2 ≡ 0 → is_even q ≡ true
even_is q h = eq-eqb (q % 2) 0 h

-- ---- the subfaces on the sides of a cell stand at even positions

pub record EvenPlace (n g : ℕ) (a : Axis) (x y z : ℕ) : Type 0 where
  pub i : ℕ
  pub j : ℕ
  pub k : ℕ
  pub at_x : g + i ≡ x
  pub at_y : g + j ≡ y
  pub at_z : g + k ≡ z
  pub in_x : i < longer_on a X n
  pub in_y : j < longer_on a Y n
  pub in_z : k < longer_on a Z n
  pub even : is_even (position a i j k) ≡ true

pub of_even : (n g : ℕ) (a : Axis) (x y z : ℕ) (P : ℕ → ℕ → ℕ → Type 0) → EvenPlace n g a x y z →
    ((i j k : ℕ) → i < longer_on a X n → j < longer_on a Y n → k < longer_on a Z n → is_even (position a i j k) ≡ true → P (g + i) (g + j) (g + k)) → P x y z
of_even n g a x y z P e all =
    subst (λ u. P u y z) e.at_x (subst (λ v. P (g + e.i) v z) e.at_y (subst (λ w. P (g + e.i) (g + e.j) w) e.at_z (all e.i e.j e.k e.in_x e.in_y e.in_z e.even)))

module _ (n g : ℕ) (size : IsSize n g) where
  pub twice_half : 2 * (n / 2) ≡ n
  twice_half = by_size (λ m. 2 * (m / 2) ≡ m) n size.cells (omega arith) (omega arith)

  even_place : (a : Axis) (x y z u v w q : ℕ) → x ≡ g + u → y ≡ g + v → z ≡ g + w → u % 2 ≡ 0 → v % 2 ≡ 0 → w % 2 ≡ 0 →
      u < longer_on a X n → v < longer_on a Y n → w < longer_on a Z n → EvenPlace n g a (x + (quarter a q).x) (y + (quarter a q).y) (z + (quarter a q).z)
  even_place X x y z u v w q ex ey ez pu pv pw hu hv hw = let t = twice_half in record {
    i = u;
    j = v + q % 2;
    k = w + q / 2 % 2;
    at_x = omega arith;
    at_y = omega arith;
    at_z = omega arith;
    in_x = hu;
    in_y = omega arith;
    in_z = omega arith;
    even = even_is u pu;
  }
  even_place Y x y z u v w q ex ey ez pu pv pw hu hv hw = let t = twice_half in record {
    i = u + q % 2;
    j = v;
    k = w + q / 2 % 2;
    at_x = omega arith;
    at_y = omega arith;
    at_z = omega arith;
    in_x = omega arith;
    in_y = hv;
    in_z = omega arith;
    even = even_is v pv;
  }
  even_place Z x y z u v w q ex ey ez pu pv pw hu hv hw = let t = twice_half in record {
    i = u + q % 2;
    j = v + q / 2 % 2;
    k = w;
    at_x = omega arith;
    at_y = omega arith;
    at_z = omega arith;
    in_x = omega arith;
    in_y = omega arith;
    in_z = hw;
    even = even_is w pw;
  }

  -- the cell (i, j, k) of the parent's octant
  module _ (i j k : ℕ) (hi : i < n / 2) (hj : j < n / 2) (hk : k < n / 2) where
    pub low_place : (a : Axis) (q : ℕ) → EvenPlace n g a (g + 2 * i + (quarter a q).x) (g + 2 * j + (quarter a q).y) (g + 2 * k + (quarter a q).z)
    low_place X q = let t = twice_half in even_place X (g + 2 * i) (g + 2 * j) (g + 2 * k) (2 * i) (2 * j) (2 * k) q refl refl refl (omega arith) (omega arith) (omega arith) (omega arith) (omega arith) (omega arith)
    low_place Y q = let t = twice_half in even_place Y (g + 2 * i) (g + 2 * j) (g + 2 * k) (2 * i) (2 * j) (2 * k) q refl refl refl (omega arith) (omega arith) (omega arith) (omega arith) (omega arith) (omega arith)
    low_place Z q = let t = twice_half in even_place Z (g + 2 * i) (g + 2 * j) (g + 2 * k) (2 * i) (2 * j) (2 * k) q refl refl refl (omega arith) (omega arith) (omega arith) (omega arith) (omega arith) (omega arith)

    pub high_x : (q : ℕ) → EvenPlace n g X (g + 2 * i + 2 + (quarter X q).x) (g + 2 * j + (quarter X q).y) (g + 2 * k + (quarter X q).z)
    high_x q = let t = twice_half in even_place X (g + 2 * i + 2) (g + 2 * j) (g + 2 * k) (2 * i + 2) (2 * j) (2 * k) q (omega arith) refl refl (omega arith) (omega arith) (omega arith) (omega arith) (omega arith) (omega arith)

    pub high_y : (q : ℕ) → EvenPlace n g Y (g + 2 * i + (quarter Y q).x) (g + 2 * j + 2 + (quarter Y q).y) (g + 2 * k + (quarter Y q).z)
    high_y q = let t = twice_half in even_place Y (g + 2 * i) (g + 2 * j + 2) (g + 2 * k) (2 * i) (2 * j + 2) (2 * k) q refl (omega arith) refl (omega arith) (omega arith) (omega arith) (omega arith) (omega arith) (omega arith)

    pub high_z : (q : ℕ) → EvenPlace n g Z (g + 2 * i + (quarter Z q).x) (g + 2 * j + (quarter Z q).y) (g + 2 * k + 2 + (quarter Z q).z)
    high_z q = let t = twice_half in even_place Z (g + 2 * i) (g + 2 * j) (g + 2 * k + 2) (2 * i) (2 * j) (2 * k + 2) q refl refl (omega arith) (omega arith) (omega arith) (omega arith) (omega arith) (omega arith) (omega arith)

    -- faces that are the same at even positions are the same on its sides
    pub sides_same : (f h : Axis → ℕ → ℕ → ℕ → ℤ) →
        ((a : Axis) (i j k : ℕ) → i < longer_on a X n → j < longer_on a Y n → k < longer_on a Z n → is_even (position a i j k) ≡ true → f a (g + i) (g + j) (g + k) ≡ h a (g + i) (g + j) (g + k)) →
        sides_from f (g + 2 * i) (g + 2 * j) (g + 2 * k) ≡ sides_from h (g + 2 * i) (g + 2 * j) (g + 2 * k)
    sides_same f h same =
        let is : (a : Axis) → (x y z : ℕ) → EvenPlace n g a x y z → f a x y z ≡ h a x y z = λ a x y z e. of_even n g a x y z (λ x y z. f a x y z ≡ h a x y z) e (same a) in
        λ t. record {
          x_low = λ q. is X _ _ _ (low_place X q) t;
          x_high = λ q. is X _ _ _ (high_x q) t;
          y_low = λ q. is Y _ _ _ (low_place Y q) t;
          y_high = λ q. is Y _ _ _ (high_y q) t;
          z_low = λ q. is Z _ _ _ (low_place Z q) t;
          z_high = λ q. is Z _ _ _ (high_z q) t;
        }

    pub sides_small : (f : Axis → ℕ → ℕ → ℕ → ℤ) → EvenAreSmall n g f → SidesAreSmall (sides_from f (g + 2 * i) (g + 2 * j) (g + 2 * k))
    sides_small f small =
        let is : (a : Axis) → (x y z : ℕ) → EvenPlace n g a x y z → Within (2 ^ 40) (f a x y z) = λ a x y z e. of_even n g a x y z (λ x y z. Within (2 ^ 40) (f a x y z)) e (small.at a) in
        record {
          x_low = λ q l. is X _ _ _ (low_place X q);
          x_high = λ q l. is X _ _ _ (high_x q);
          y_low = λ q l. is Y _ _ _ (low_place Y q);
          y_high = λ q l. is Y _ _ _ (high_y q);
          z_low = λ q l. is Z _ _ _ (low_place Z q);
          z_high = λ q l. is Z _ _ _ (high_z q);
        }

  -- ---- one more cell

  -- the cell with a number
  pub record CellAt (c : ℕ) : Type 0 where
    pub x : c % (n / 2) < n / 2
    pub y : c / (n / 2) % (n / 2) < n / 2
    pub z : c / (n / 2) / (n / 2) < n / 2

  pub cell_at : (c : ℕ) → c < n / 2 * (n / 2) * (n / 2) → CellAt c
  cell_at c h = record {
    x = by_size (λ m. c < m / 2 * (m / 2) * (m / 2) → c % (m / 2) < m / 2) n size.cells (λ l. omega arith) (λ l. omega arith) h;
    y = by_size (λ m. c < m / 2 * (m / 2) * (m / 2) → c / (m / 2) % (m / 2) < m / 2) n size.cells (λ l. omega arith) (λ l. omega arith) h;
    z = by_size (λ m. c < m / 2 * (m / 2) * (m / 2) → c / (m / 2) / (m / 2) < m / 2) n size.cells (λ l. omega arith) (λ l. omega arith) h;
  }

  -- it has that number, and no other cell has it
  pub number_is : (c i j k : ℕ) → i / 2 ≡ c % (n / 2) → j / 2 ≡ c / (n / 2) % (n / 2) → k / 2 ≡ c / (n / 2) / (n / 2) → cell_number (n / 2) i j k ≡ c
  number_is c i j k = by_size (λ m. i / 2 ≡ c % (m / 2) → j / 2 ≡ c / (m / 2) % (m / 2) → k / 2 ≡ c / (m / 2) / (m / 2) → cell_number (m / 2) i j k ≡ c) n size.cells
      (λ x y z. omega arith) (λ x y z. omega arith)

  pub cell_is : (c i j k : ℕ) → i / 2 < n / 2 → j / 2 < n / 2 → cell_number (n / 2) i j k ≡ c → (i / 2 ≡ c % (n / 2)) × (j / 2 ≡ c / (n / 2) % (n / 2)) × (k / 2 ≡ c / (n / 2) / (n / 2))
  cell_is c i j k = by_size (λ m. i / 2 < m / 2 → j / 2 < m / 2 → cell_number (m / 2) i j k ≡ c → (i / 2 ≡ c % (m / 2)) × (j / 2 ≡ c / (m / 2) % (m / 2)) × (k / 2 ≡ c / (m / 2) / (m / 2))) n size.cells
      (λ x y e. (omega arith, omega arith, omega arith)) (λ x y e. (omega arith, omega arith, omega arith))

  -- a face at an odd position lies in a cell
  pub odd_inside : (a : Axis) (i j k : ℕ) → i < longer_on a X n → j < longer_on a Y n → k < longer_on a Z n → is_even (position a i j k) ≡ false →
      (i / 2 < n / 2) × (j / 2 < n / 2) × (k / 2 < n / 2)
  odd_inside X i j k hi hj hk odd = let t = twice_half in let o = odd_of i odd in (omega arith, omega arith, omega arith)
  odd_inside Y i j k hi hj hk odd = let t = twice_half in let o = odd_of j odd in (omega arith, omega arith, omega arith)
  odd_inside Z i j k hi hj hk odd = let t = twice_half in let o = odd_of k odd in (omega arith, omega arith, omega arith)

  pub odd_below : (a : Axis) (i j k : ℕ) → i < longer_on a X n → j < longer_on a Y n → k < longer_on a Z n → is_even (position a i j k) ≡ false →
      cell_number (n / 2) i j k < n / 2 * (n / 2) * (n / 2)
  odd_below a i j k hi hj hk odd =
      let l = odd_inside a i j k hi hj hk odd in
      by_size (λ m. i / 2 < m / 2 → j / 2 < m / 2 → k / 2 < m / 2 → cell_number (m / 2) i j k < m / 2 * (m / 2) * (m / 2)) n size.cells (λ x y z. omega arith) (λ x y z. omega arith) l.0 l.1 l.2

  -- what stands between the octants of the cell (x, y, z)
  pub in_cell : (a : Axis) (x y z i j k : ℕ) → IsInBox (middle_box a (g + 2 * x) (g + 2 * y) (g + 2 * z)) (g + i) (g + j) (g + k) →
      (i / 2 ≡ x) × (j / 2 ≡ y) × (k / 2 ≡ z) × (is_even (position a i j k) ≡ false)
  in_cell X x y z i j k is = let u = is.x in let v = is.y in let w = is.z in (omega arith, omega arith, omega arith, not_even i (omega arith))
  in_cell Y x y z i j k is = let u = is.x in let v = is.y in let w = is.z in (omega arith, omega arith, omega arith, not_even j (omega arith))
  in_cell Z x y z i j k is = let u = is.x in let v = is.y in let w = is.z in (omega arith, omega arith, omega arith, not_even k (omega arith))

  -- lies in the block
  pub middle_inside : (a : Axis) (x y z u v w : ℕ) → x < n / 2 → y < n / 2 → z < n / 2 → IsInBox (middle_box a (g + 2 * x) (g + 2 * y) (g + 2 * z)) u v w → IsInBox (face_box n g a) u v w
  middle_inside X x y z u v w hx hy hz is = let t = twice_half in let p = is.x in let q = is.y in let r = is.z in record { x = (omega arith, omega arith); y = (omega arith, omega arith); z = (omega arith, omega arith) }
  middle_inside Y x y z u v w hx hy hz is = let t = twice_half in let p = is.x in let q = is.y in let r = is.z in record { x = (omega arith, omega arith); y = (omega arith, omega arith); z = (omega arith, omega arith) }
  middle_inside Z x y z u v w hx hy hz is = let t = twice_half in let p = is.x in let q = is.y in let r = is.z in record { x = (omega arith, omega arith); y = (omega arith, omega arith); z = (omega arith, omega arith) }

  -- and is written with what the rule gives
  pub written_middle : (a : Axis) (o : Outer) (x y z i j k : ℕ) (old new : List ℤ) → i / 2 ≡ x → j / 2 ≡ y → k / 2 ≡ z → is_even (position a i j k) ≡ false →
      IsWritten (face_extents n g a) (middle_box a (g + 2 * x) (g + 2 * y) (g + 2 * z)) (λ i j k. inner_face o a i j k) old new →
      number_at (face_extents n g a) new (g + i) (g + j) (g + k) ≡ inner_face o a (i % 2) (j % 2) (k % 2)
  written_middle X o x y z i j k old new hx hy hz odd is =
      let one = odd_of i odd in
      let at : (u v w : ℕ) → u ≡ g + i → v ≡ g + j → w ≡ g + k → number_at (face_extents n g X) new (g + i) (g + j) (g + k) ≡ number_at (face_extents n g X) new u v w =
      λ u v w p q r. sym (ap (λ u. number_at (face_extents n g X) new u v w) p ∙ ap₂ (λ v w. number_at (face_extents n g X) new (g + i) v w) q r) in
      at (g + 2 * x + 1 + 0) (g + 2 * y + j % 2) (g + 2 * z + k % 2) (omega arith) (omega arith) (omega arith) ∙ is.written 0 (j % 2) (k % 2) (omega arith) (omega arith) (omega arith)
  written_middle Y o x y z i j k old new hx hy hz odd is =
      let one = odd_of j odd in
      let at : (u v w : ℕ) → u ≡ g + i → v ≡ g + j → w ≡ g + k → number_at (face_extents n g Y) new (g + i) (g + j) (g + k) ≡ number_at (face_extents n g Y) new u v w =
      λ u v w p q r. sym (ap (λ u. number_at (face_extents n g Y) new u v w) p ∙ ap₂ (λ v w. number_at (face_extents n g Y) new (g + i) v w) q r) in
      at (g + 2 * x + i % 2) (g + 2 * y + 1 + 0) (g + 2 * z + k % 2) (omega arith) (omega arith) (omega arith) ∙ is.written (i % 2) 0 (k % 2) (omega arith) (omega arith) (omega arith)
  written_middle Z o x y z i j k old new hx hy hz odd is =
      let one = odd_of k odd in
      let at : (u v w : ℕ) → u ≡ g + i → v ≡ g + j → w ≡ g + k → number_at (face_extents n g Z) new (g + i) (g + j) (g + k) ≡ number_at (face_extents n g Z) new u v w =
      λ u v w p q r. sym (ap (λ u. number_at (face_extents n g Z) new u v w) p ∙ ap₂ (λ v w. number_at (face_extents n g Z) new (g + i) v w) q r) in
      at (g + 2 * x + i % 2) (g + 2 * y + j % 2) (g + 2 * z + 1 + 0) (omega arith) (omega arith) (omega arith) ∙ is.written (i % 2) (j % 2) 0 (omega arith) (omega arith) (omega arith)

  -- a face of a block stands within its array
  pub face_inside : (a : Axis) (i j k : ℕ) → i < longer_on a X n → j < longer_on a Y n → k < longer_on a Z n → let e = face_extents n g a in (g + i < e.x) × (g + j < e.y) × (g + k < e.z)
  face_inside a i j k hi hj hk = block_place n g size (face_extents n g a) (faces_of n a) (face_lines n g a) i j k hi hj hk

  module _ (a : Axis) (first : Axis → ℕ → ℕ → ℕ → ℤ) (old now new : List ℤ) (c : ℕ) (within : c < n / 2 * (n / 2) * (n / 2)) (so_far : AreBetween c n g a (face_between g a first) old now) where
    pub one_more_cell : let x = c % (n / 2) in let y = c / (n / 2) % (n / 2) in let z = c / (n / 2) / (n / 2) in
        IsWritten (face_extents n g a) (middle_box a (g + 2 * x) (g + 2 * y) (g + 2 * z)) (λ i j k. inner_face (sides_from first (g + 2 * x) (g + 2 * y) (g + 2 * z)) a i j k) now new →
        AreBetween (c + 1) n g a (face_between g a first) old new
    one_more_cell is =
        let x = c % (n / 2) in
        let y = c / (n / 2) % (n / 2) in
        let z = c / (n / 2) / (n / 2) in
        let cell = cell_at c within in
        record {
          size = is.size ∙ so_far.size;
          made = λ i j k hi hj hk odd h.
              let inside = face_inside a i j k hi hj hk in
              elim (cases_lt (cell_number (n / 2) i j k) c) [
                | inl before ↦
                    is.stays (g + i) (g + j) (g + k) inside.0 inside.1 inside.2 (λ box. (let there = in_cell a x y z i j k box in let same = number_is c i j k there.0 there.1 there.2 in absurd (omega arith)))
                    ∙ so_far.made i j k hi hj hk odd before
                | inr last ↦
                    let l = odd_inside a i j k hi hj hk odd in
                    let at = cell_is c i j k l.0 l.1 (omega arith) in
                    written_middle a (sides_from first (g + 2 * x) (g + 2 * y) (g + 2 * z)) x y z i j k now new at.0 at.1 at.2 odd is
                    ∙ ap (λ u. inner_face (sides_from first (g + 2 * u) (g + 2 * y) (g + 2 * z)) a (i % 2) (j % 2) (k % 2)) (sym at.0)
                    ∙ ap₂ (λ v w. inner_face (sides_from first (g + 2 * (i / 2)) (g + 2 * v) (g + 2 * w)) a (i % 2) (j % 2) (k % 2)) (sym at.1) (sym at.2)
              ];
          waits = λ i j k hi hj hk h.
              let inside = face_inside a i j k hi hj hk in
              is.stays (g + i) (g + j) (g + k) inside.0 inside.1 inside.2
              (λ box. (let there = in_cell a x y z i j k box in
              elim h [ inl even ↦ (let odd = there.3 in cc) | inr later ↦ (let same = number_is c i j k there.0 there.1 there.2 in absurd (omega arith)) ]))
              ∙ so_far.waits i j k hi hj hk (elim h [ inl even ↦ inl even | inr later ↦ inr (omega arith) ]);
          stays = λ i j k hi hj hk out.
              is.stays i j k hi hj hk (λ box. out (middle_inside a x y z i j k cell.x cell.y cell.z box))
              ∙ so_far.stays i j k hi hj hk out;
        }
