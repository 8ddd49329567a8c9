-- A child whose edges were split from its parent's holds the views of a field.
use Rattle.std.proofs.Common.{◌≡◌, ℕ, suc, ◌+◌, ◌-◌, ◌*◌, ◌/◌, ◌%◌, ◌<◌, ◌⊎◌, Bool, true, false, not, ◌&&◌, List, ℤ, pos, ◌+ℤ◌, map, length, refl, sym, ap, ap₂, ◌∙◌, arith, inl, inr, subst, eqb-true, Option, Some}
use Rattle.std.specs.List.{list_any}
use Rattle.std.proofs.lemmas.Bool.{and_parts, cases_Bool}
use Rattle.amr_num.specs.declared.Axis.{Axis}
use Rattle.amr_num.specs.declared.Axis.TheVariants.{X, Y, Z}
use Rattle.amr_num.specs.declared.BlockAt.{BlockAt}
use Rattle.amr_num.specs.declared.CellAt.{CellAt}
use Rattle.amr_num.specs.declared.EdgeAt.{EdgeAt}
use Rattle.amr_num.specs.Numbers.{floor_div, part}
use Rattle.mesh_model.specs.declared.geometry.Shape.{Shape}
use Rattle.mesh_model.specs.Geometry.Blocks.{InDomain, child_block}
use Rattle.mesh_model.specs.Geometry.Canonical.{canonical_on}
use Rattle.mesh_model.specs.Geometry.Coordinates.{Inside, below, edge_of, extent, half_edge, is_periodic, moved_twice, next, on, round_edge}
use Rattle.mesh_model.specs.Geometry.Places.{in_block, longer_across}
use Rattle.mesh_model.specs.Geometry.Touch.{block_on}
use Rattle.mesh_model.specs.Tree.Kinds.{Grid, holds, is_leaf, is_leaf_edge, is_split, is_split_block, is_split_edge}
use Rattle.mesh_model.specs.Tree.ValidGrid.{Valid}
use Rattle.mesh_model.specs.Fields.ArrayPlaces.{HoldsEdges, edge_extents}
use Rattle.mesh_model.specs.Fields.EdgeSplits.{EdgeChildrenAreSplit, IsAxisSplit, KeptEdgesHold, OtherEdgesLieInside, are_even, edge_direction, edge_mean, edge_part, even_positions, is_boundary_edge, is_kept_edge, split_edge}
use Rattle.mesh_model.specs.Fields.FaceSplits.{position}
use Rattle.mesh_model.specs.Fields.FinePlaces.{edges_in}
use Rattle.mesh_model.specs.Fields.Octants.{half_at}
use Rattle.mesh_model.specs.Fields.Views.{edge_view, edge_view_at, is_even, sum_of}
use Rattle.mesh_model.proofs.FieldLemmas.Beside.{above_in}
use Rattle.mesh_model.proofs.FieldLemmas.CellKinds.{wide_of}
use Rattle.mesh_model.proofs.FieldLemmas.EdgeSums.{at_even}
use Rattle.mesh_model.proofs.FieldLemmas.Means.{view_mean}
use Rattle.mesh_model.proofs.FieldLemmas.Slots.{even_positions as half_positions, four_failed, half_of_half, parent_of_half}
use Rattle.mesh_model.proofs.FieldLemmas.ValidGrid.{tree}
use Rattle.prolong_op.specs.EdgeSplitting.{number_beside}
use Rattle.prolong_op.proofs.Between.{even_is, odd_of, twice_half}
use Rattle.prolong_op.proofs.EdgeMeans.{mean_at, one_even, two_even}
use Rattle.prolong_op.proofs.EdgeNames.{edge_inside, even_half, inside_all, level_at, name_at, named, odd_first, odd_second, on_first, on_second, own_place, place_below, place_beside, round_both, round_first, round_second}
use Rattle.prolong_op.proofs.FaceChildren.{calm, pick_kept, pick_part, pick_rule}
use Rattle.prolong_op.proofs.FaceNames.{canonical_below, child_inside, twice_below}
use Rattle.prolong_op.proofs.Lines.{above_in_block, edge_lines, edges_of}

-- a half that is neither split nor a leaf edge has its part of the view
half_part : (g : Grid) (field : EdgeAt → ℤ) (e : EdgeAt) (h : ℕ) → Valid g → h < 2 → is_split_edge g (half_edge e h) ≡ false → is_leaf_edge g (half_edge e h) ≡ false →
    edge_view g field (half_edge e h) ≡ part h (edge_view g field e) 2
half_part g field e h valid few whole no_leaf =
    let even = half_positions e h in
    at_even g (tree g valid) (wide_of g.shape valid.shape) field e.level (half_edge e h) whole no_leaf even.0 even.1
    ∙ ap₂ (λ r d. part r (edge_view_at g field e.level d) 2) (half_of_half e h few) (parent_of_half e h few)

below_at : (p : Bool) (e q r : ℕ) → q ≡ suc r → below p e q ≡ Some r
below_at p e q r is = ap (below p e) is

-- cells across an axis from a block's place
moved_is : (a : Axis) (n : ℕ) (b : BlockAt) (i j k p r u v : ℕ) →
    moved_twice (next a) (Some (n * block_on (next a) b + u)) (next (next a)) (Some (n * block_on (next (next a)) b + v)) (place_beside a n b i j k p r) ≡ Some (place_beside a n b i j k u v)
moved_is X n b i j k p r u v = refl
moved_is Y n b i j k p r u v = refl
moved_is Z n b i j k p r u v = refl

-- numbers at other positions, of a block's places
pub mean_by_places : (a : Axis) (numbers : ℕ → ℕ → ℕ → ℤ) (i j k : ℕ) →
    edge_mean a numbers i j k ≡ mean_at (number_beside a numbers i j k) (even_positions (position (next a) i j k)) (even_positions (position (next (next a)) i j k))
mean_by_places X numbers i j k = refl
mean_by_places Y numbers i j k = refl
mean_by_places Z numbers i j k = refl

positions_below : (a : Axis) (n i j k : ℕ) → i < longer_across a X n → j < longer_across a Y n → k < longer_across a Z n →
    (position a i j k < n) × (position (next a) i j k < n + 1) × (position (next (next a)) i j k < n + 1)
positions_below X n i j k hi hj hk = (hi, hj, hk)
positions_below Y n i j k hi hj hk = (hj, hk, hi)
positions_below Z n i j k hi hj hk = (hk, hi, hj)

not_true : (b : Bool) → not b ≡ false → b ≡ true
not_true true h = refl
not_true false h = cc

not_both : (u w : Bool) → (u ≡ false) ⊎ (w ≡ false) → (u && w) ≡ false
not_both false w h = refl
not_both true false h = refl
not_both true true (inl h) = cc
not_both true true (inr h) = cc

both_even : (p r : Bool) → p ≡ true → r ≡ true → (p && r) ≡ true
both_even p r hp hr = rw (hp, hr) refl

-- what a block's numbers are at even positions they are at those beside or round an edge
beside_by : (a : Axis) (n : ℕ) (b : BlockAt) (s : Shape) (numbers : ℕ → ℕ → ℕ → ℤ) (view : CellAt → ℤ) (i j k p r : ℕ) → i < longer_across a X n → j < longer_across a Y n → k < longer_across a Z n →
    p < n + 1 → r < n + 1 → p % 2 ≡ 0 → r % 2 ≡ 0 →
    ((i j k : ℕ) → i < longer_across a X n → j < longer_across a Y n → k < longer_across a Z n → are_even a i j k ≡ true → numbers i j k ≡ view (named s a (in_block n b i j k))) →
    number_beside a numbers i j k p r ≡ view (named s a (place_beside a n b i j k p r))
beside_by X n b s numbers view i j k p r hi hj hk hp hr ep er all = all i p r hi hp hr (both_even (is_even p) (is_even r) (even_is p ep) (even_is r er))
beside_by Y n b s numbers view i j k p r hi hj hk hp hr ep er all = all r j p hr hj hp (both_even (is_even p) (is_even r) (even_is p ep) (even_is r er))
beside_by Z n b s numbers view i j k p r hi hj hk hp hr ep er all = all p r k hp hr hk (both_even (is_even p) (is_even r) (even_is p ep) (even_is r er))

-- ---- the child

module _ (g : Grid) (b : BlockAt) (q : ℕ) (valid : Valid g) (domain : InDomain g.shape b) (whole : is_split_block g b ≡ false) where
  abbrev n : ℕ
  n = g.shape.n

  abbrev d : BlockAt
  d = child_block b q

  abbrev place : Axis → ℕ → ℕ → ℕ → ℕ → ℕ → CellAt
  place a i j k p r = place_beside a g.shape.n (child_block b q) i j k p r

  abbrev pub name : Axis → ℕ → ℕ → ℕ → EdgeAt
  name a i j k = edge_of a (named g.shape a (in_block g.shape.n (child_block b q) i j k))

  inside : (a : Axis) (i j k p r : ℕ) → position a i j k < n → p < n → r < n → Inside g.shape (place a i j k p r)
  inside X i j k p r h hp hr = child_inside g.shape b q valid.shape.cells domain i p r h hp hr
  inside Y i j k p r h hp hr = child_inside g.shape b q valid.shape.cells domain r j p hr h hp
  inside Z i j k p r h hp hr = child_inside g.shape b q valid.shape.cells domain p r k hp hr h

  level_of : (a : Axis) (i j k p r : ℕ) → (place a i j k p r).level ≡ suc b.level
  level_of X i j k p r = refl
  level_of Y i j k p r = refl
  level_of Z i j k p r = refl

  -- what fails of all cells of the child fails of all cells round an edge inside it
  module _ (test : CellAt → Bool) (fails : (i j k : ℕ) → i < n → j < n → k < n → test (in_block n d i j k) ≡ false) where
    cell_fails : (a : Axis) (i j k p r : ℕ) → position a i j k < n → p < n → r < n → holds test (Some (place a i j k p r)) ≡ false
    cell_fails X i j k p r h hp hr = fails i p r h hp hr
    cell_fails Y i j k p r h hp hr = fails r j p hr h hp
    cell_fails Z i j k p r h hp hr = fails p r k hp hr h

    inside_fails : (a : Axis) (i j k p r : ℕ) → position a i j k < n → 0 < p → p < n → 0 < r → r < n → list_any (holds test) (round_edge g.shape (edge_of a (place a i j k p r))) ≡ false
    inside_fails a i j k p r h zp hp zr hr =
        let s = g.shape in
        let c = place a i j k p r in
        let x = n * block_on (next a) d in
        let y = n * block_on (next (next a)) d in
        let first = on_first a n d i j k p r in
        let second = on_second a n d i j k p r in
        let in_ = inside a i j k p r h hp hr in
        let e = extent s (next a) c.level in
        let f = extent s (next (next a)) c.level in
        let low = below_at (is_periodic s (next a)) e (on (next a) c) (x + (p - 1)) (first ∙ omega (arith, zp)) in
        let high = above_in (is_periodic s (next a)) e (on (next a) c) (in_ (next a)) ∙ ap Some first in
        let near = below_at (is_periodic s (next (next a))) f (on (next (next a)) c) (y + (r - 1)) (second ∙ omega (arith, zr)) in
        let far = above_in (is_periodic s (next (next a))) f (on (next (next a)) c) (in_ (next (next a))) ∙ ap Some second in
        let at = λ (o u : Option ℕ). holds test (moved_twice (next a) o (next (next a)) u c) in
        let one = λ (u v : ℕ) (hu : u < n) (hv : v < n). ap (holds test) (moved_is a n d i j k p r u v) ∙ cell_fails a i j k u v h hu hv in
        four_failed _ _ _ _
        (ap₂ at low near ∙ one (p - 1) (r - 1) (omega (arith, hp)) (omega (arith, hr)))
        (ap₂ at high near ∙ one p (r - 1) hp (omega (arith, hr)))
        (ap₂ at low far ∙ one (p - 1) r (omega (arith, hp)) hr)
        (ap₂ at high far ∙ one p r hp hr)

  abbrev pub Calm : EdgeAt → Type 0
  Calm e = (is_split_edge g e ≡ false) × (is_leaf_edge g e ≡ false)

  inside_calm : (a : Axis) (i j k p r : ℕ) → position a i j k < n → 0 < p → p < n → 0 < r → r < n → Calm (edge_of a (place a i j k p r))
  unfolding is_split_edge is_leaf_edge
  inside_calm a i j k p r h zp hp zr hr =
      let own = calm g b q valid domain whole in (
        inside_fails (is_split g) (λ i j k hi hj hk. (own i j k hi hj hk).0) a i j k p r h zp hp zr hr,
        ap (λ t. t && not (is_split_edge g (edge_of a (place a i j k p r)))) (inside_fails (is_leaf g) (λ i j k hi hj hk. (own i j k hi hj hk).1) a i j k p r h zp hp zr hr),
      )

  -- names of edges inside are canonical
  inside_name : (a : Axis) (i j k p r : ℕ) → position a i j k < n → p < n → r < n → named g.shape a (place a i j k p r) ≡ place a i j k p r
  inside_name a i j k p r h hp hr =
      let in_ = inside a i j k p r h hp hr in
      let c = place a i j k p r in
      ap (λ (m : CellAt). named_on m) (canonical_below g.shape (next (next a)) c (in_ (next (next a)))) ∙ canonical_below g.shape (next a) c (in_ (next a))
    where
      named_on : CellAt → CellAt
      named_on m = canonical_on g.shape (next a) m

  module _ (kept : ℕ) (a : Axis) (others : OtherEdgesLieInside g a (child_block b q) kept) where
    -- no edge that is not kept is split or a leaf edge
    pub not_kept : (i j k : ℕ) → i < longer_across a X g.shape.n → j < longer_across a Y g.shape.n → k < longer_across a Z g.shape.n → is_kept_edge g.shape.n kept a i j k ≡ false → Calm (name a i j k)
    not_kept i j k hi hj hk free = elim (cases_Bool (is_boundary_edge n a i j k)) [
      | inl boundary ↦ others.at i j k hi hj hk boundary free
      | inr none ↦
          let p = position (next a) i j k in
          let r = position (next (next a)) i j k in
          let all = inside_all a n i j k hi hj hk (eqb-true (edge_direction n a i j k) 13 (not_true _ none)) in
          let same : place a i j k p r ≡ named g.shape a (in_block n d i j k) = sym (inside_name a i j k p r all.0 all.1.1 all.2.1) ∙ ap (named g.shape a) (own_place a n d i j k) in
          subst (λ c. (is_split_edge g (edge_of a c) ≡ false) × (is_leaf_edge g (edge_of a c) ≡ false)) same (inside_calm a i j k p r all.0 all.1.0 all.1.1 all.2.0 all.2.1)
    ]

    module _ (field : EdgeAt → ℤ) (parent old new : List ℤ) (split : IsAxisSplit g.shape.n g.shape.g q kept a parent old new)
        (views : HoldsEdges g field a b (edges_in g a parent)) (held : KeptEdgesHold g field a (child_block b q) kept (edges_in g a old)) where
      -- the parts are views
      part_view : (i j k : ℕ) → i < longer_across a X g.shape.n → j < longer_across a Y g.shape.n → k < longer_across a Z g.shape.n →
          is_kept_edge g.shape.n kept a i j k ≡ false → are_even a i j k ≡ true → edge_part g.shape.n g.shape.g q a (edges_in g a parent) i j k ≡ edge_view g field (name a i j k)
      part_view i j k hi hj hk free even =
          let e = g.shape.g in
          let u = half_at n q + i / 2 in
          let v = half_at n (q / 2) + j / 2 in
          let w = half_at n (q / 4) + k / 2 in
          let numbers = edges_in g a parent in
          let h = position a i j k % 2 in
          let up = edge_of a (named g.shape a (in_block n b u v w)) in
          let l = above_in_block n e (record { cells = valid.shape.cells; guards = valid.shape.guards }) (edge_extents n e a) (edges_of n a) (edge_lines n e a) q i j k hi hj hk in
          let both = and_parts (is_even (position (next a) i j k)) (is_even (position (next (next a)) i j k)) even in
          let same : name a i j k ≡ half_edge up h = even_half g.shape n a b q i j k valid.shape.cells (eqb-true _ 0 both.0) (eqb-true _ 0 both.1) in
          let own = not_kept i j k hi hj hk free in
          let x : e + half_at n q + i / 2 ≡ e + u = omega arith in
          let y : e + half_at n (q / 2) + j / 2 ≡ e + v = omega arith in
          let z : e + half_at n (q / 4) + k / 2 ≡ e + w = omega arith in
          ap (λ m. part h m 2)
          (ap (λ c. numbers c (e + half_at n (q / 2) + j / 2) (e + half_at n (q / 4) + k / 2)) x ∙ ap₂ (λ c d. numbers (e + u) c d) y z ∙ views.at u v w l.0 l.1 l.2)
          ∙ sym (half_part g field up h valid (omega arith) (subst (λ c. is_split_edge g c ≡ false) same own.0) (subst (λ c. is_leaf_edge g c ≡ false) same own.1))
          ∙ ap (edge_view g field) (sym same)

      abbrev numbers : ℕ → ℕ → ℕ → ℤ
      numbers i j k = edges_in g a new (g.shape.g + i) (g.shape.g + j) (g.shape.g + k)

      -- the kept edges and those at even positions hold views
      kept_view : (i j k : ℕ) → i < longer_across a X g.shape.n → j < longer_across a Y g.shape.n → k < longer_across a Z g.shape.n → is_kept_edge g.shape.n kept a i j k ≡ true → numbers i j k ≡ edge_view g field (name a i j k)
      unfolding split_edge
      kept_view i j k hi hj hk stays =
          let e = g.shape.g in
          split.written i j k hi hj hk
          ∙ pick_kept (is_kept_edge n kept a i j k) (are_even a i j k) (edges_in g a old (e + i) (e + j) (e + k)) (edge_part n e q a (edges_in g a parent) i j k) (edge_mean a numbers i j k) stays
          ∙ held.at i j k hi hj hk stays

      even_view : (i j k : ℕ) → i < longer_across a X g.shape.n → j < longer_across a Y g.shape.n → k < longer_across a Z g.shape.n → are_even a i j k ≡ true → numbers i j k ≡ edge_view g field (name a i j k)
      unfolding split_edge
      even_view i j k hi hj hk even =
          let e = g.shape.g in
          elim (cases_Bool (is_kept_edge n kept a i j k)) [
            | inl stays ↦ kept_view i j k hi hj hk stays
            | inr free ↦
                split.written i j k hi hj hk
                ∙ pick_part (is_kept_edge n kept a i j k) (are_even a i j k) (edges_in g a old (e + i) (e + j) (e + k)) (edge_part n e q a (edges_in g a parent) i j k) (edge_mean a numbers i j k) free even
                ∙ part_view i j k hi hj hk free even
          ]

      -- so do those at the even positions beside or round an edge
      abbrev view_at_name : ℕ → ℕ → ℕ → ℕ → ℕ → ℤ
      view_at_name i j k p r = edge_view g field (edge_of a (name_at g (child_block b q) valid.shape.cells a i j k p r))

      module _ (i j k : ℕ) (hi : i < longer_across a X g.shape.n) (hj : j < longer_across a Y g.shape.n) (hk : k < longer_across a Z g.shape.n) where
        abbrev F : ℕ → ℕ → ℤ
        F p r = number_beside a numbers i j k p r

        beside_view : (p r : ℕ) → p < g.shape.n + 1 → r < g.shape.n + 1 → p % 2 ≡ 0 → r % 2 ≡ 0 → F p r ≡ view_at_name i j k p r
        beside_view p r hp hr ep er = beside_by a n d g.shape numbers (λ c. edge_view g field (edge_of a c)) i j k p r hi hj hk hp hr ep er even_view

        -- at other positions an edge has the mean
        odd_view : is_kept_edge g.shape.n kept a i j k ≡ false → are_even a i j k ≡ false → numbers i j k ≡ edge_view g field (name a i j k)
        unfolding split_edge
        odd_view free odd =
            let e = g.shape.g in
            let size = valid.shape.cells in
            let t = twice_half n e (record { cells = valid.shape.cells; guards = valid.shape.guards }) in
            let p = position (next a) i j k in
            let r = position (next (next a)) i j k in
            let most = positions_below a n i j k hi hj hk in
            let hp = most.1 in
            let hr = most.2 in
            let c = name_at g d size a i j k p r in
            let own_name : named g.shape a (in_block n d i j k) ≡ c = sym (ap (named g.shape a) (own_place a n d i j k)) in
            let own = not_kept i j k hi hj hk free in
            let split_none = subst (λ c. is_split_edge g (edge_of a c) ≡ false) own_name own.0 in
            let leaf_none = subst (λ c. is_leaf_edge g (edge_of a c) ≡ false) own_name own.1 in
            let within = edge_inside g.shape d size (twice_below g.shape.rx b.level b.x (q % 2) domain.x (omega arith)) (twice_below g.shape.ry b.level b.y (q / 2 % 2) domain.y (omega arith))
            (twice_below g.shape.rz b.level b.z (q / 4 % 2) domain.z (omega arith)) in
            let mean_of = λ (cs : List CellAt). floor_div (sum_of (map (λ c. edge_view g field (edge_of a c)) cs)) (length cs) in
            let mean = λ (h : (is_even (on (next a) c) && is_even (on (next (next a)) c)) ≡ false).
            view_mean g valid b.level (edge_of a c) (level_at g d size a i j k p r) (within a i j k p r most.0 (omega (arith, hp)) (omega (arith, hr))) field split_none leaf_none h in
            let first_below = λ (less : p < n). place_below g.shape d size (twice_below g.shape.rx b.level b.x (q % 2) domain.x (omega arith)) (twice_below g.shape.ry b.level b.y (q / 2 % 2) domain.y (omega arith))
            (twice_below g.shape.rz b.level b.z (q / 4 % 2) domain.z (omega arith)) (next a) p less in
            let second_below = λ (less : r < n). place_below g.shape d size (twice_below g.shape.rx b.level b.x (q % 2) domain.x (omega arith)) (twice_below g.shape.ry b.level b.y (q / 2 % 2) domain.y (omega arith))
            (twice_below g.shape.rz b.level b.z (q / 4 % 2) domain.z (omega arith)) (next (next a)) r less in
            split.written i j k hi hj hk
            ∙ pick_rule (is_kept_edge n kept a i j k) (are_even a i j k) (edges_in g a old (e + i) (e + j) (e + k)) (edge_part n e q a (edges_in g a parent) i j k) (edge_mean a numbers i j k) free odd
            ∙ mean_by_places a numbers i j k
            ∙ (elim (cases_Bool (is_even p)) [
              | inl ep ↦ elim (cases_Bool (is_even r)) [
                | inl er ↦ (let both = both_even (is_even p) (is_even r) ep er in cc)
                | inr or ↦
                    let r_odd = odd_of r or in
                    let p_even = eqb-true (p % 2) 0 ep in
                    let less : r < n = omega (arith, r_odd, hr, t) in
                    let below = second_below less in
                    ap₂ (mean_at F) (one_even p ep).0 (two_even r or).0
                    ∙ ap₂ (λ u v. floor_div (u +ℤ (v +ℤ pos 0)) 2) (beside_view p (r - 1) hp (omega (arith, hr)) p_even (omega (arith, r_odd))) (beside_view p (r + 1) hp (omega (arith, less)) p_even (omega (arith, r_odd)))
                    ∙ sym (mean (not_both _ _ (inr (odd_second g d size a i j k p r r_odd below))) ∙ ap mean_of (round_second g d size a i j k p r p_even r_odd below))
              ]
              | inr op ↦
                  let p_odd = odd_of p op in
                  let less : p < n = omega (arith, p_odd, hp, t) in
                  let below = first_below less in
                  let not_even_first = not_both _ _ (inl (odd_first g d size a i j k p r p_odd below)) in
                  elim (cases_Bool (is_even r)) [
                    | inl er ↦
                        let r_even = eqb-true (r % 2) 0 er in
                        ap₂ (mean_at F) (two_even p op).0 (one_even r er).0
                        ∙ ap₂ (λ u v. floor_div (u +ℤ (v +ℤ pos 0)) 2) (beside_view (p - 1) r (omega (arith, hp)) hr (omega (arith, p_odd)) r_even) (beside_view (p + 1) r (omega (arith, less)) hr (omega (arith, p_odd)) r_even)
                        ∙ sym (mean not_even_first ∙ ap mean_of (round_first g d size a i j k p r p_odd r_even below))
                    | inr or ↦
                        let r_odd = odd_of r or in
                        let r_less : r < n = omega (arith, r_odd, hr, t) in
                        let p_low : (p - 1) % 2 ≡ 0 = omega (arith, p_odd) in
                        let p_high : (p + 1) % 2 ≡ 0 = omega (arith, p_odd) in
                        let r_low : (r - 1) % 2 ≡ 0 = omega (arith, r_odd) in
                        let r_high : (r + 1) % 2 ≡ 0 = omega (arith, r_odd) in
                        let h1 : p - 1 < n + 1 = omega (arith, hp) in
                        let h2 : p + 1 < n + 1 = omega (arith, less) in
                        let h3 : r - 1 < n + 1 = omega (arith, hr) in
                        let h4 : r + 1 < n + 1 = omega (arith, r_less) in
                        ap₂ (mean_at F) (two_even p op).0 (two_even r or).0
                        ∙ ap₂ (λ u v. floor_div (u +ℤ (v +ℤ (F (p + 1) (r - 1) +ℤ (F (p + 1) (r + 1) +ℤ pos 0)))) 4) (beside_view (p - 1) (r - 1) h1 h3 p_low r_low) (beside_view (p - 1) (r + 1) h1 h4 p_low r_high)
                        ∙ ap₂ (λ u v. floor_div (view_at_name i j k (p - 1) (r - 1) +ℤ (view_at_name i j k (p - 1) (r + 1) +ℤ (u +ℤ (v +ℤ pos 0)))) 4) (beside_view (p + 1) (r - 1) h2 h3 p_high r_low) (beside_view (p + 1) (r + 1) h2 h4 p_high r_high)
                        ∙ sym (mean not_even_first ∙ ap mean_of (round_both g d size a i j k p r p_odd r_odd below (second_below r_less)))
                  ]
            ])
            ∙ ap (λ c. edge_view g field (edge_of a c)) (sym own_name)

      pub all_view : HoldsEdges g field a (child_block b q) (edges_in g a new)
      all_view = record {
        at = λ i j k hi hj hk. elim (cases_Bool (is_kept_edge n kept a i j k)) [
          | inl stays ↦ kept_view i j k hi hj hk stays
          | inr free ↦ elim (cases_Bool (are_even a i j k)) [
            | inl even ↦ even_view i j k hi hj hk even
            | inr odd ↦ odd_view i j k hi hj hk free odd
          ]
        ];
      }

-- a child of a block that is not split holds views
pub children_split : EdgeChildrenAreSplit
children_split g field a b q kept parent old new valid domain hq whole split views held others = all_view g b q valid domain whole kept a others field parent old new split views held
