-- Rows of a block's faces or edges, and those of its parent of which they are parts.
use Rattle.std.proofs.Common.{◌≡◌, ℕ, ◌+◌, ◌*◌, ◌/◌, ◌%◌, ◌<◌, ◌≤◌, ◌⊎◌, List, ℤ, pos, refl, sym, ap, ◌∙◌, arith, inl, inr, length, subst, take, [], ◌∷◌}
use Rattle.std.proofs.lemmas.List.{length-take-le}
use Rattle.amr_num.specs.declared.Axis.{Axis}
use Rattle.amr_num.specs.declared.Axis.TheVariants.{X, Y, Z}
use Rattle.amr_num.specs.Numbers.{at}
use Rattle.mesh_model.specs.Geometry.Places.{longer_across, longer_on}
use Rattle.mesh_model.specs.Fields.ArrayPlaces.{Extents, Fits, IsRowWritten, IsSize, edge_extents, face_extents, number_at, place_in, side, size_of}
use Rattle.mesh_model.specs.Fields.FaceSplits.{face_above}
use Rattle.mesh_model.specs.Fields.Octants.{half_at}
use Rattle.mesh_model.proofs.GeometryLemmas.Halves.{by_size}
use Rattle.mesh_model.proofs.FieldLemmas.BlockPlaces.{along_row, place_inside}

-- what a row of an array is written with, by numbers that are the same
pub row_as : (start many : ℕ) (wanted meant : ℕ → ℤ) (old new : List ℤ) → ((t : ℕ) → t < many → wanted t ≡ meant t) → IsRowWritten start many wanted old new → IsRowWritten start many meant old new
row_as start many wanted meant old new same row = record { size = row.size; here = λ t h. row.here t h ∙ same t h; below = row.below; above = row.above }

-- on an axis a block's numbers stand at its cells, or at positions, of which there is one more
abbrev pub Along : ℕ → ℕ → ℕ → ℕ → Type 0
Along n g places many = ((places ≡ side n g) × (many ≡ n)) ⊎ ((places ≡ side n g + 1) × (many ≡ n + 1))

-- the places of an array on each axis, and how many of them are the block's
pub record Lines (n g : ℕ) (e many : Extents) : Type 0 where
  pub x : Along n g e.x many.x
  pub y : Along n g e.y many.y
  pub z : Along n g e.z many.z

abbrev pub faces_of : ℕ → Axis → Extents
faces_of n a = record { x = longer_on a X n; y = longer_on a Y n; z = longer_on a Z n }

abbrev pub edges_of : ℕ → Axis → Extents
edges_of n a = record { x = longer_across a X n; y = longer_across a Y n; z = longer_across a Z n }

pub face_lines : (n g : ℕ) (a : Axis) → Lines n g (face_extents n g a) (faces_of n a)
face_lines n g X = record { x = inr (refl, refl); y = inl (refl, refl); z = inl (refl, refl) }
face_lines n g Y = record { x = inl (refl, refl); y = inr (refl, refl); z = inl (refl, refl) }
face_lines n g Z = record { x = inl (refl, refl); y = inl (refl, refl); z = inr (refl, refl) }

pub edge_lines : (n g : ℕ) (a : Axis) → Lines n g (edge_extents n g a) (edges_of n a)
edge_lines n g X = record { x = inl (refl, refl); y = inr (refl, refl); z = inr (refl, refl) }
edge_lines n g Y = record { x = inr (refl, refl); y = inl (refl, refl); z = inr (refl, refl) }
edge_lines n g Z = record { x = inr (refl, refl); y = inr (refl, refl); z = inl (refl, refl) }

module _ (n g : ℕ) (size : IsSize n g) where
  pub guards_few : (1 ≤ g) × (g ≤ 4)
  guards_few = elim size.guards [ inl one ↦ (omega arith, omega arith) | inr more ↦ elim more [ inl two ↦ (omega arith, omega arith) | inr all ↦ (omega arith, omega arith) ] ]

  cells_few : (4 ≤ n) × (n ≤ 8)
  cells_few = elim size.cells [ inl four ↦ (omega arith, omega arith) | inr eight ↦ (omega arith, omega arith) ]

  -- on one axis
  places_small : (places many : ℕ) → Along n g places many → places ≤ 17
  places_small places many (inl is) = let f = guards_few in let c = cells_few in let p = is.0 in omega arith
  places_small places many (inr is) = let f = guards_few in let c = cells_few in let p = is.0 in omega arith

  many_small : (places many : ℕ) → Along n g places many → (0 < many) × (many ≤ 9)
  many_small places many (inl is) = let c = cells_few in let m = is.1 in (omega arith, omega arith)
  many_small places many (inr is) = let c = cells_few in let m = is.1 in (omega arith, omega arith)

  many_fit : (places many : ℕ) → Along n g places many → g + many ≤ places
  many_fit places many (inl is) = let p = is.0 in let m = is.1 in omega arith
  many_fit places many (inr is) = let p = is.0 in let m = is.1 in omega arith

  -- the place of the parent in which a child's place lies
  above_below : (places many r i : ℕ) → Along n g places many → i < many → half_at n r + i / 2 < many
  above_below places many r i (inl is) h =
      subst (λ m. half_at n r + i / 2 < m) (sym is.1)
      (by_size (λ m. i < m → m / 2 * (r % 2) + i / 2 < m) n size.cells (λ l. omega arith) (λ l. omega arith) (subst (λ m. i < m) is.1 h))
  above_below places many r i (inr is) h =
      subst (λ m. half_at n r + i / 2 < m) (sym is.1)
      (by_size (λ m. i < m + 1 → m / 2 * (r % 2) + i / 2 < m + 1) n size.cells (λ l. omega arith) (λ l. omega arith) (subst (λ m. i < m) is.1 h))

  module _ (e many : Extents) (lines : Lines n g e many) where
    pub extents_small : (e.x ≤ 17) × (e.y ≤ 17) × (e.z ≤ 17)
    extents_small = (places_small e.x many.x lines.x, places_small e.y many.y lines.y, places_small e.z many.z lines.z)

    -- the block's numbers stand within its array
    pub block_fits : Fits e (record { x = g; y = g; z = g; along_x = many.x; along_y = many.y; along_z = many.z })
    block_fits = record { x = many_fit e.x many.x lines.x; y = many_fit e.y many.y lines.y; z = many_fit e.z many.z lines.z }

    pub block_place : (i j k : ℕ) → i < many.x → j < many.y → k < many.z → (g + i < e.x) × (g + j < e.y) × (g + k < e.z)
    block_place i j k hi hj hk =
        let x = many_fit e.x many.x lines.x in
        let y = many_fit e.y many.y lines.y in
        let z = many_fit e.z many.z lines.z in
        (omega arith, omega arith, omega arith)

    -- the parent's number of which one is a part stands in the parent
    pub above_in_block : (q i j k : ℕ) → i < many.x → j < many.y → k < many.z → (half_at n q + i / 2 < many.x) × (half_at n (q / 2) + j / 2 < many.y) × (half_at n (q / 4) + k / 2 < many.z)
    above_in_block q i j k hi hj hk = (above_below e.x many.x q i lines.x hi, above_below e.y many.y (q / 2) j lines.y hj, above_below e.z many.z (q / 4) k lines.z hk)

    -- and within its array
    pub above_inside : (q i j k : ℕ) → i < many.x → j < many.y → k < many.z →
        (g + half_at n q + i / 2 < e.x) × (g + half_at n (q / 2) + j / 2 < e.y) × (g + half_at n (q / 4) + k / 2 < e.z)
    above_inside q i j k hi hj hk =
        let l = above_in_block q i j k hi hj hk in
        let x = many_fit e.x many.x lines.x in
        let y = many_fit e.y many.y lines.y in
        let z = many_fit e.z many.z lines.z in
        (omega arith, omega arith, omega arith)

    pub from_inside : (q t j k : ℕ) → t < many.x → j < many.y → k < many.z →
        place_in e (g + half_at n q) (g + half_at n (q / 2) + j / 2) (g + half_at n (q / 4) + k / 2) + t / 2 < size_of e
    from_inside q t j k ht hj hk =
        let y = g + half_at n (q / 2) + j / 2 in
        let z = g + half_at n (q / 4) + k / 2 in
        let inside = above_inside q t j k ht hj hk in
        subst (λ p. p < size_of e) (along_row e (g + half_at n q) (t / 2) y z) (place_inside e (g + half_at n q + t / 2) y z inside.0 inside.1 inside.2)

    -- and is the one that stands so far from the first
    pub from_is : (q t j k : ℕ) (parent : List ℤ) →
        at parent (place_in e (g + half_at n q) (g + half_at n (q / 2) + j / 2) (g + half_at n (q / 4) + k / 2) + t / 2) ≡ face_above n g q (number_at e parent) t j k
    from_is q t j k parent = ap (at parent) (sym (along_row e (g + half_at n q) (t / 2) (g + half_at n (q / 2) + j / 2) (g + half_at n (q / 4) + k / 2)))

    -- a place in the parent's array, by the extents that the code has
    pub from_at : (q j k : ℕ) (extents : Extents) (place : ℕ) → extents ≡ e →
        place ≡ place_in extents (g + half_at n q) (g + half_at n (q / 2) + j / 2) (g + half_at n (q / 4) + k / 2) →
        place ≡ place_in e (g + half_at n q) (g + half_at n (q / 2) + j / 2) (g + half_at n (q / 4) + k / 2)
    from_at q j k extents place same is = is ∙ ap (λ d. place_in d (g + half_at n q) (g + half_at n (q / 2) + j / 2) (g + half_at n (q / 4) + k / 2)) same

    -- the room has a row's places
    pub room_taken : (taken : ℕ) → taken ≡ many.x → length (take taken (pos 0 ∷ pos 0 ∷ pos 0 ∷ pos 0 ∷ pos 0 ∷ pos 0 ∷ pos 0 ∷ pos 0 ∷ pos 0 ∷ [])) ≡ many.x
    room_taken taken is =
        let few = many_small e.x many.x lines.x in
        length-take-le taken (pos 0 ∷ pos 0 ∷ pos 0 ∷ pos 0 ∷ pos 0 ∷ pos 0 ∷ pos 0 ∷ pos 0 ∷ pos 0 ∷ []) (subst (λ m. m ≤ 9) (sym is) few.1) ∙ is
