-- Rows of boxes.
use borrow.Rule.Slice.PartMut.{put_mid}
use Rattle.std.proofs.Common.{◌≡◌, ℕ, ◌+◌, ◌-◌, ◌*◌, ◌/◌, ◌%◌, ◌<◌, ◌≤◌, List, length, get_or, ℤ, pos, take, drop, subst, sym, ◌∙◌, arith}
use Rattle.std.proofs.lemmas.List.{length-drop, length-take-le}
use Rattle.mesh_model.specs.Fields.ArrayPlaces.{AreRowsWritten, Box, Extents, Fits, IsRowWritten, IsWritten, place_in, row_of, size_of}
use Rattle.mesh_model.proofs.FieldLemmas.BlockPlaces.{above_digit, all_rows, below_all, digit, no_rows, one_more_row, row_put}

-- how many numbers a part of an array has
pub taken : (start many : ℕ) (old : List ℤ) → start + many ≤ length old → length (take (start + many - start) (drop start old)) ≡ many
taken start many old fits = length-take-le (start + many - start) (drop start old) (omega (arith, length-drop start old)) ∙ omega arith

-- a row that was written as a part of the array
pub row_written : (e : Extents) (start many at : ℕ) (wanted : ℕ → ℤ) (old row : List ℤ) → start ≡ at → start + many ≤ size_of e → length old ≡ size_of e →
    length row ≡ length (take (start + many - start) (drop start old)) → ((t : ℕ) → t < length (take (start + many - start) (drop start old)) → get_or row t (pos 0) ≡ wanted t) →
    IsRowWritten at many wanted old (put_mid start (start + many - start) old row)
row_written e start many at wanted old row is inside whole long numbers =
    let same : start + many - start ≡ many = omega arith in
    let part = taken start many old (omega arith) in
    subst (λ s. IsRowWritten s many wanted old (put_mid start (start + many - start) old row)) is
    (subst (λ r. IsRowWritten start many wanted old (put_mid start r old row)) (sym same)
    (row_put start many wanted old row (omega arith) (long ∙ part) (λ t h. numbers t (subst (λ k. t < k) (sym part) h))))

-- ---- a box that is written row by row, and plane by plane

module _ (e : Extents) (b : Box) (fits : Fits e b) (wanted : ℕ → ℕ → ℕ → ℤ) (old : List ℤ) where
  pub no_plane : AreRowsWritten (b.along_y * 0) e b wanted old old
  no_plane = let none : 0 ≡ b.along_y * 0 = omega arith in subst (λ m. AreRowsWritten m e b wanted old old) none (no_rows e b fits wanted old)

  pub no_more_row : (k : ℕ) (now : List ℤ) → AreRowsWritten (b.along_y * k) e b wanted old now → AreRowsWritten (0 + b.along_y * k) e b wanted old now
  no_more_row k now before = let same : b.along_y * k ≡ 0 + b.along_y * k = omega arith in subst (λ m. AreRowsWritten m e b wanted old now) same before

  pub one_more_at : (j k : ℕ) (now new : List ℤ) → j < b.along_y → k < b.along_z → AreRowsWritten (j + b.along_y * k) e b wanted old now →
      IsRowWritten (place_in e b.x (b.y + j) (b.z + k)) b.along_x (λ t. wanted t j k) now new → AreRowsWritten (j + 1 + b.along_y * k) e b wanted old new
  one_more_at j k now new hj hk before row =
      let m = j + b.along_y * k in
      let y : m % b.along_y ≡ j = digit j b.along_y k hj in
      let z : m / b.along_y ≡ k = above_digit j b.along_y k hj in
      let written : IsRowWritten (row_of e b m) b.along_x (λ t. wanted t (m % b.along_y) (m / b.along_y)) now new =
      subst (λ u. IsRowWritten (place_in e b.x (b.y + u) (b.z + m / b.along_y)) b.along_x (λ t. wanted t u (m / b.along_y)) now new) (sym y)
      (subst (λ u. IsRowWritten (place_in e b.x (b.y + j) (b.z + u)) b.along_x (λ t. wanted t j u) now new) (sym z) row) in
      let next : m + 1 ≡ j + 1 + b.along_y * k = omega arith in
      subst (λ u. AreRowsWritten u e b wanted old new) next (one_more_row e b fits m wanted old now new (below_all j b.along_y k b.along_z hj hk) before written)

  pub one_more_plane : (j k : ℕ) (now : List ℤ) → j ≡ b.along_y → AreRowsWritten (j + b.along_y * k) e b wanted old now → AreRowsWritten (b.along_y * (k + 1)) e b wanted old now
  one_more_plane j k now last done = let next : j + b.along_y * k ≡ b.along_y * (k + 1) = omega arith in subst (λ u. AreRowsWritten u e b wanted old now) next done

  pub all_planes : (k : ℕ) (now : List ℤ) → k ≡ b.along_z → AreRowsWritten (b.along_y * k) e b wanted old now → IsWritten e b wanted old now
  all_planes k now last done = all_rows e b fits wanted old now (subst (λ u. AreRowsWritten (b.along_y * u) e b wanted old now) last done)
