-- Faces inside a cell that is not split, and the balance of its sub-cells.
use Rattle.mesh_model.specs.Fields.Circulation.{net_flux}
use Rattle.mesh_model.specs.Fields.InnerRule.{middle_x, middle_y, middle_z, octant_out, cell_out}
use Rattle.std.proofs.Common.{◌≡◌, ℕ, suc, ◌%◌, ◌<◌, true, false, ◌||◌, ◌&&◌, not, ℤ, refl, sym, ap, ap₂, ◌∙◌, arith, Some, ne_eqb, zero, ◌+◌, ◌*◌, Bool, pos, ◌+ℤ◌, ◌-ℤ◌}
use Rattle.std.proofs.lemmas.Bool.{lt-ltb}
use Rattle.amr_num.specs.declared.Axis.{Axis}
use Rattle.amr_num.specs.declared.Axis.TheVariants.{X, Y, Z}
use Rattle.amr_num.specs.declared.CellAt.{CellAt}
use Rattle.amr_num.specs.declared.FaceAt.{FaceAt}
use Rattle.mesh_model.specs.Geometry.Coordinates.{sub_cell, sub_face, parent_face, low_cell, high_cell, extent, on, face_numbers, face_of, after, below, above, moved, is_periodic}
use Rattle.mesh_model.specs.Tree.Kinds.{Grid, is_leaf, is_split, holds, is_split_face, is_leaf_face}
use Rattle.mesh_model.specs.Fields.Views.{outer_face_view, face_view_at, face_view, is_even, sides_of, inner_face}
use Rattle.mesh_model.proofs.FieldLemmas.CellSums.{TreeLike}
use Rattle.amr_num.specs.Numbers.{sum_below}
use Rattle.mesh_model.proofs.FieldLemmas.FaceSums as faces
use Rattle.mesh_model.proofs.FieldLemmas.Balancing.{octants_balance}
use Rattle.mesh_model.proofs.FieldLemmas.Circling.{first, second}
use Rattle.mesh_model.proofs.FieldLemmas.Slots.{even_position, extent_double}

pub not_even : (p : ℕ) → p % 2 ≡ 1 → is_even p ≡ false
not_even p h = ne_eqb (p % 2) 0 (λ e. absurd (omega arith))

module _ (g : Grid) (tree : TreeLike g) (wide : (a : Axis) (l : ℕ) → 0 < extent g.shape a l) (v : FaceAt → ℤ) where
  pub at_odd : (l : ℕ) (f : FaceAt) → is_split_face g f ≡ false → is_leaf_face g f ≡ false → on f.axis (face_numbers f) % 2 ≡ 1 → face_view_at g v (suc l) f ≡ inner_face (sides_of g (outer_face_view g v (face_view_at g v l)) (face_numbers (parent_face f))) f.axis (f.x % 2) (f.y % 2) (f.z % 2)
  unfolding face_view_at
  at_odd l f n h e = rw (n, h, not_even _ e, face_view_at) refl

  -- a subface on a side is seen as the rule takes it
  outer_is_view : (f : FaceAt) (r : ℕ) → outer_face_view g v (face_view_at g v f.level) (sub_face f r) ≡ face_view g v (sub_face f r)
  outer_is_view f r = faces.side_is_view g tree wide v f.level (sub_face f r) refl (even_position f r)

  pub same_sides : (c : CellAt) → sides_of g (outer_face_view g v (face_view_at g v c.level)) c ≡ sides_of g (face_view g v) c
  same_sides c = λ i. record {
    x_low = λ q. outer_is_view (face_of X c) q i;
    x_high = λ q. outer_is_view (face_of X (after g.shape X c)) q i;
    y_low = λ q. outer_is_view (face_of Y c) q i;
    y_high = λ q. outer_is_view (face_of Y (after g.shape Y c)) q i;
    z_low = λ q. outer_is_view (face_of Z c) q i;
    z_high = λ q. outer_is_view (face_of Z (after g.shape Z c)) q i;
  }

  module _ (c : CellAt) (whole : is_split g c ≡ false) where
    whole_inside : (f : FaceAt) (p q : ℕ) → low_cell g.shape f ≡ Some (sub_cell c p) → high_cell g.shape f ≡ Some (sub_cell c q) → is_split_face g f ≡ false
    unfolding is_split_face
    whole_inside f p q low high = ap₂ (λ a b. a || b) (ap (holds (is_split g)) low ∙ tree.below_whole c p whole) (ap (holds (is_split g)) high ∙ tree.below_whole c q whole)

    no_leaf_inside : (f : FaceAt) (p q : ℕ) → low_cell g.shape f ≡ Some (sub_cell c p) → high_cell g.shape f ≡ Some (sub_cell c q) → is_leaf_face g f ≡ false
    unfolding is_leaf_face
    no_leaf_inside f p q low high = ap₂ (λ a b. (a || b) && not (is_split_face g f)) (ap (holds (is_leaf g)) low ∙ tree.below_whole_leaf c p whole) (ap (holds (is_leaf g)) high ∙ tree.below_whole_leaf c q whole)

    -- a face between two sub-cells
    inside : (f : FaceAt) (p q : ℕ) → f.level ≡ suc c.level → low_cell g.shape f ≡ Some (sub_cell c p) → high_cell g.shape f ≡ Some (sub_cell c q) → on f.axis (face_numbers f) % 2 ≡ 1 → face_numbers (parent_face f) ≡ c → face_view g v f ≡ inner_face (sides_of g (face_view g v) c) f.axis (f.x % 2) (f.y % 2) (f.z % 2)
    inside f p q level low high odd parent =
        let split : is_split_face g f ≡ false = whole_inside f p q low high in
        let leaf : is_leaf_face g f ≡ false = no_leaf_inside f p q low high in
        ap (λ l. face_view_at g v l f) level ∙ at_odd c.level f split leaf odd
        ∙ ap (λ d. inner_face (sides_of g (outer_face_view g v (face_view_at g v c.level)) d) f.axis (f.x % 2) (f.y % 2) (f.z % 2)) parent
        ∙ ap (λ o. inner_face o f.axis (f.x % 2) (f.y % 2) (f.z % 2)) (same_sides c)

    below_odd : (periodic : Bool) (e p : ℕ) → below periodic e (2 * p + 1) ≡ Some (2 * p)
    below_odd periodic e p = let odd : 2 * p + 1 ≡ suc (2 * p) = omega arith in ap (below periodic e) odd

    above_odd : (periodic : Bool) (e p : ℕ) → p < e → above periodic (2 * e) (2 * p + 1) ≡ Some (2 * p + 1)
    above_odd periodic e p h = rw (lt-ltb (2 * p + 1) (2 * e) (omega arith)) refl

    same : (a b : CellAt) → a.level ≡ b.level → a.x ≡ b.x → a.y ≡ b.y → a.z ≡ b.z → a ≡ b
    same a b l x y z = λ i. record { level = l i; x = x i; y = y i; z = z i }

    module _ (in_x : c.x < extent g.shape X c.level) (in_y : c.y < extent g.shape Y c.level) (in_z : c.z < extent g.shape Z c.level) where
      x_inside : (j k : ℕ) → j < 2 → k < 2 → let o = sides_of g (face_view g v) c in face_view g v (record { axis = X; level = suc c.level; x = 2 * c.x + 1; y = 2 * c.y + j; z = 2 * c.z + k }) ≡ middle_x o (j + 2 * k)
      x_inside j k hj hk =
          let f : FaceAt = record { axis = X; level = suc c.level; x = 2 * c.x + 1; y = 2 * c.y + j; z = 2 * c.z + k } in
          let o = sides_of g (face_view g v) c in
          let low : low_cell g.shape f ≡ Some (sub_cell c (0 + 2 * j + 4 * k)) = ap (λ w. moved X w (face_numbers f)) (below_odd (is_periodic g.shape X) (extent g.shape X (suc c.level)) c.x) ∙ ap Some (same _ _ refl (omega arith) (omega arith) (omega arith)) in
          let high : high_cell g.shape f ≡ Some (sub_cell c (1 + 2 * j + 4 * k)) = ap (λ e. moved X (above (is_periodic g.shape X) e (2 * c.x + 1)) (face_numbers f)) (extent_double g.shape X c.level) ∙ ap (λ w. moved X w (face_numbers f)) (above_odd (is_periodic g.shape X) (extent g.shape X c.level) c.x in_x) ∙ ap Some (same _ _ refl (omega arith) (omega arith) (omega arith)) in
          let odd : (2 * c.x + 1) % 2 ≡ 1 = omega arith in
          let jj : (2 * c.y + j) % 2 ≡ j = omega arith in
          let kk : (2 * c.z + k) % 2 ≡ k = omega arith in
          inside f _ _ refl low high odd (same _ _ (omega arith) (omega arith) (omega arith) (omega arith)) ∙ ap₂ (λ s t. middle_x o (s + 2 * t)) jj kk

      y_inside : (j k : ℕ) → j < 2 → k < 2 → let o = sides_of g (face_view g v) c in face_view g v (record { axis = Y; level = suc c.level; x = 2 * c.x + j; y = 2 * c.y + 1; z = 2 * c.z + k }) ≡ middle_y o j k
      y_inside j k hj hk =
          let f : FaceAt = record { axis = Y; level = suc c.level; x = 2 * c.x + j; y = 2 * c.y + 1; z = 2 * c.z + k } in
          let o = sides_of g (face_view g v) c in
          let low : low_cell g.shape f ≡ Some (sub_cell c (j + 2 * 0 + 4 * k)) = ap (λ w. moved Y w (face_numbers f)) (below_odd (is_periodic g.shape Y) (extent g.shape Y (suc c.level)) c.y) ∙ ap Some (same _ _ refl (omega arith) (omega arith) (omega arith)) in
          let high : high_cell g.shape f ≡ Some (sub_cell c (j + 2 * 1 + 4 * k)) = ap (λ e. moved Y (above (is_periodic g.shape Y) e (2 * c.y + 1)) (face_numbers f)) (extent_double g.shape Y c.level) ∙ ap (λ w. moved Y w (face_numbers f)) (above_odd (is_periodic g.shape Y) (extent g.shape Y c.level) c.y in_y) ∙ ap Some (same _ _ refl (omega arith) (omega arith) (omega arith)) in
          let odd : (2 * c.y + 1) % 2 ≡ 1 = omega arith in
          let jj : (2 * c.x + j) % 2 ≡ j = omega arith in
          let kk : (2 * c.z + k) % 2 ≡ k = omega arith in
          inside f _ _ refl low high odd (same _ _ (omega arith) (omega arith) (omega arith) (omega arith)) ∙ ap₂ (λ s t. middle_y o s t) jj kk

      z_inside : (j k : ℕ) → j < 2 → k < 2 → let o = sides_of g (face_view g v) c in face_view g v (record { axis = Z; level = suc c.level; x = 2 * c.x + j; y = 2 * c.y + k; z = 2 * c.z + 1 }) ≡ middle_z o j k
      z_inside j k hj hk =
          let f : FaceAt = record { axis = Z; level = suc c.level; x = 2 * c.x + j; y = 2 * c.y + k; z = 2 * c.z + 1 } in
          let o = sides_of g (face_view g v) c in
          let low : low_cell g.shape f ≡ Some (sub_cell c (j + 2 * k + 4 * 0)) = ap (λ w. moved Z w (face_numbers f)) (below_odd (is_periodic g.shape Z) (extent g.shape Z (suc c.level)) c.z) ∙ ap Some (same _ _ refl (omega arith) (omega arith) (omega arith)) in
          let high : high_cell g.shape f ≡ Some (sub_cell c (j + 2 * k + 4 * 1)) = ap (λ e. moved Z (above (is_periodic g.shape Z) e (2 * c.z + 1)) (face_numbers f)) (extent_double g.shape Z c.level) ∙ ap (λ w. moved Z w (face_numbers f)) (above_odd (is_periodic g.shape Z) (extent g.shape Z c.level) c.z in_z) ∙ ap Some (same _ _ refl (omega arith) (omega arith) (omega arith)) in
          let odd : (2 * c.z + 1) % 2 ≡ 1 = omega arith in
          let jj : (2 * c.x + j) % 2 ≡ j = omega arith in
          let kk : (2 * c.y + k) % 2 ≡ k = omega arith in
          inside f _ _ refl low high odd (same _ _ (omega arith) (omega arith) (omega arith) (omega arith)) ∙ ap₂ (λ s t. middle_z o s t) jj kk

      sub_0 : net_flux g (face_view g v) (sub_cell c 0) ≡ octant_out (sides_of g (face_view g v) c) 0 0 0
      sub_0 = rw (first g.shape X c.level c.x, first g.shape Y c.level c.y, first g.shape Z c.level c.z) (ap₂ (λ s t. s +ℤ t) (ap₂ (λ s t. s +ℤ t) (ap₂ (λ s t. s -ℤ t) (x_inside 0 0 (omega arith) (omega arith)) (refl)) (ap₂ (λ s t. s -ℤ t) (y_inside 0 0 (omega arith) (omega arith)) (refl))) (ap₂ (λ s t. s -ℤ t) (z_inside 0 0 (omega arith) (omega arith)) (refl)))

      sub_1 : net_flux g (face_view g v) (sub_cell c 1) ≡ octant_out (sides_of g (face_view g v) c) 1 0 0
      sub_1 = rw (second g.shape X c.level c.x, first g.shape Y c.level c.y, first g.shape Z c.level c.z) (ap₂ (λ s t. s +ℤ t) (ap₂ (λ s t. s +ℤ t) (ap₂ (λ s t. s -ℤ t) (refl) (x_inside 0 0 (omega arith) (omega arith))) (ap₂ (λ s t. s -ℤ t) (y_inside 1 0 (omega arith) (omega arith)) (refl))) (ap₂ (λ s t. s -ℤ t) (z_inside 1 0 (omega arith) (omega arith)) (refl)))

      sub_2 : net_flux g (face_view g v) (sub_cell c 2) ≡ octant_out (sides_of g (face_view g v) c) 0 1 0
      sub_2 = rw (first g.shape X c.level c.x, second g.shape Y c.level c.y, first g.shape Z c.level c.z) (ap₂ (λ s t. s +ℤ t) (ap₂ (λ s t. s +ℤ t) (ap₂ (λ s t. s -ℤ t) (x_inside 1 0 (omega arith) (omega arith)) (refl)) (ap₂ (λ s t. s -ℤ t) (refl) (y_inside 0 0 (omega arith) (omega arith)))) (ap₂ (λ s t. s -ℤ t) (z_inside 0 1 (omega arith) (omega arith)) (refl)))

      sub_3 : net_flux g (face_view g v) (sub_cell c 3) ≡ octant_out (sides_of g (face_view g v) c) 1 1 0
      sub_3 = rw (second g.shape X c.level c.x, second g.shape Y c.level c.y, first g.shape Z c.level c.z) (ap₂ (λ s t. s +ℤ t) (ap₂ (λ s t. s +ℤ t) (ap₂ (λ s t. s -ℤ t) (refl) (x_inside 1 0 (omega arith) (omega arith))) (ap₂ (λ s t. s -ℤ t) (refl) (y_inside 1 0 (omega arith) (omega arith)))) (ap₂ (λ s t. s -ℤ t) (z_inside 1 1 (omega arith) (omega arith)) (refl)))

      sub_4 : net_flux g (face_view g v) (sub_cell c 4) ≡ octant_out (sides_of g (face_view g v) c) 0 0 1
      sub_4 = rw (first g.shape X c.level c.x, first g.shape Y c.level c.y, second g.shape Z c.level c.z) (ap₂ (λ s t. s +ℤ t) (ap₂ (λ s t. s +ℤ t) (ap₂ (λ s t. s -ℤ t) (x_inside 0 1 (omega arith) (omega arith)) (refl)) (ap₂ (λ s t. s -ℤ t) (y_inside 0 1 (omega arith) (omega arith)) (refl))) (ap₂ (λ s t. s -ℤ t) (refl) (z_inside 0 0 (omega arith) (omega arith))))

      sub_5 : net_flux g (face_view g v) (sub_cell c 5) ≡ octant_out (sides_of g (face_view g v) c) 1 0 1
      sub_5 = rw (second g.shape X c.level c.x, first g.shape Y c.level c.y, second g.shape Z c.level c.z) (ap₂ (λ s t. s +ℤ t) (ap₂ (λ s t. s +ℤ t) (ap₂ (λ s t. s -ℤ t) (refl) (x_inside 0 1 (omega arith) (omega arith))) (ap₂ (λ s t. s -ℤ t) (y_inside 1 1 (omega arith) (omega arith)) (refl))) (ap₂ (λ s t. s -ℤ t) (refl) (z_inside 1 0 (omega arith) (omega arith))))

      sub_6 : net_flux g (face_view g v) (sub_cell c 6) ≡ octant_out (sides_of g (face_view g v) c) 0 1 1
      sub_6 = rw (first g.shape X c.level c.x, second g.shape Y c.level c.y, second g.shape Z c.level c.z) (ap₂ (λ s t. s +ℤ t) (ap₂ (λ s t. s +ℤ t) (ap₂ (λ s t. s -ℤ t) (x_inside 1 1 (omega arith) (omega arith)) (refl)) (ap₂ (λ s t. s -ℤ t) (refl) (y_inside 0 1 (omega arith) (omega arith)))) (ap₂ (λ s t. s -ℤ t) (refl) (z_inside 0 1 (omega arith) (omega arith))))

      sub_7 : net_flux g (face_view g v) (sub_cell c 7) ≡ octant_out (sides_of g (face_view g v) c) 1 1 1
      sub_7 = rw (second g.shape X c.level c.x, second g.shape Y c.level c.y, second g.shape Z c.level c.z) (ap₂ (λ s t. s +ℤ t) (ap₂ (λ s t. s +ℤ t) (ap₂ (λ s t. s -ℤ t) (refl) (x_inside 1 1 (omega arith) (omega arith))) (ap₂ (λ s t. s -ℤ t) (refl) (y_inside 1 1 (omega arith) (omega arith)))) (ap₂ (λ s t. s -ℤ t) (refl) (z_inside 1 1 (omega arith) (omega arith))))

      module _ (deep : (f : FaceAt) → is_split_face g f ≡ true → f.level < 10) where
        side_sum : (f : FaceAt) → face_view g v f ≡ sum_below 4 (λ q. face_view g v (sub_face f q))
        side_sum f = faces.face_view_sum g tree wide v f (deep f)

        sides_out : cell_out (sides_of g (face_view g v) c) ≡ net_flux g (face_view g v) c
        sides_out =
            sym (ap₂ (λ s t. s +ℤ t) (ap₂ (λ s t. s +ℤ t)
            (ap₂ (λ s t. s -ℤ t) (side_sum (face_of X (after g.shape X c))) (side_sum (face_of X c)))
            (ap₂ (λ s t. s -ℤ t) (side_sum (face_of Y (after g.shape Y c))) (side_sum (face_of Y c))))
            (ap₂ (λ s t. s -ℤ t) (side_sum (face_of Z (after g.shape Z c))) (side_sum (face_of Z c))))

        -- where the cell balances, so does each of its sub-cells
        pub sub_cells_balance : net_flux g (face_view g v) c ≡ pos 0 → (q : ℕ) → q < 8 → net_flux g (face_view g v) (sub_cell c q) ≡ pos 0
        sub_cells_balance h zero p = sub_0 ∙ octants_balance (sides_of g (face_view g v) c) (sides_out ∙ h) 0 0 0 (omega arith) (omega arith) (omega arith)
        sub_cells_balance h (suc zero) p = sub_1 ∙ octants_balance (sides_of g (face_view g v) c) (sides_out ∙ h) 1 0 0 (omega arith) (omega arith) (omega arith)
        sub_cells_balance h (suc (suc zero)) p = sub_2 ∙ octants_balance (sides_of g (face_view g v) c) (sides_out ∙ h) 0 1 0 (omega arith) (omega arith) (omega arith)
        sub_cells_balance h (suc (suc (suc zero))) p = sub_3 ∙ octants_balance (sides_of g (face_view g v) c) (sides_out ∙ h) 1 1 0 (omega arith) (omega arith) (omega arith)
        sub_cells_balance h (suc (suc (suc (suc zero)))) p = sub_4 ∙ octants_balance (sides_of g (face_view g v) c) (sides_out ∙ h) 0 0 1 (omega arith) (omega arith) (omega arith)
        sub_cells_balance h (suc (suc (suc (suc (suc zero))))) p = sub_5 ∙ octants_balance (sides_of g (face_view g v) c) (sides_out ∙ h) 1 0 1 (omega arith) (omega arith) (omega arith)
        sub_cells_balance h (suc (suc (suc (suc (suc (suc zero)))))) p = sub_6 ∙ octants_balance (sides_of g (face_view g v) c) (sides_out ∙ h) 0 1 1 (omega arith) (omega arith) (omega arith)
        sub_cells_balance h (suc (suc (suc (suc (suc (suc (suc zero))))))) p = sub_7 ∙ octants_balance (sides_of g (face_view g v) c) (sides_out ∙ h) 1 1 1 (omega arith) (omega arith) (omega arith)
        sub_cells_balance h (suc (suc (suc (suc (suc (suc (suc (suc q)))))))) p = absurd (omega arith)
