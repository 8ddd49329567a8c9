-- Arrays that are gathered direction by direction.
use Rattle.std.proofs.Common.{◌≡◌, ◌≢◌, ℕ, ◌+◌, ◌*◌, ◌<◌, ◌^◌, true, false, List, ℤ, refl, sym, ap, ap₂, subst, ◌∙◌, arith, inl, inr}
use Rattle.std.proofs.lemmas.Bool.{cases_Bool, cases_lt}
use Rattle.amr_num.specs.declared.Axis.TheVariants.{X, Y, Z}
use Rattle.amr_num.specs.declared.BlockAt.{BlockAt}
use Rattle.amr_num.specs.declared.CellAt.{CellAt}
use Rattle.mesh_model.specs.Fields.ArrayPlaces.{cell_extents, number_at, side}
use Rattle.mesh_model.specs.Fields.Ranks.{IsSized, WorldState}
use Rattle.mesh_model.specs.Fields.Views.{cell_view}
use Rattle.mesh_model.specs.Geometry.Blocks.{InDomain}
use Rattle.mesh_model.specs.Geometry.Coordinates.{is_periodic, roots}
use Rattle.block_tree.specs.Numbered.{IsNode, block_at}
use Rattle.rank_world.specs.Holding.{NodesHold, cell_array}
use Rattle.guard_fill.specs.declared.strips.Patch.{Patch}
use Rattle.guard_fill.specs.declared.strips.Strip.{Strip}
use Rattle.guard_fill.specs.Filling.{IsFilled, IsFilledAsked, IsGathered, IsGatheredTo, IsPatched, guard_at, is_asked}
use Rattle.guard_fill.specs.declared.filling.Guards.{Guards}
use Rattle.guard_fill.specs.Strips.{IsPatch, direction_at, side_at}
use Rattle.guard_fill.proofs.AxisStrips.{along_same}
use Rattle.guard_fill.proofs.Patches.{direction_few, filled, side_of_place, views_at}

-- a block's own cells as a patch
own_strip : ℕ → ℕ → ℕ → Strip
own_strip n g b = record { to = g; many = n; block = b; first = 0; step = 1 }

own_patch : ℕ → ℕ → BlockAt → Patch
own_patch n g b = record { x = own_strip n g b.x; y = own_strip n g b.y; z = own_strip n g b.z }

own_direction : (n g i j k : ℕ) → i < n → j < n → k < n → direction_at n g (g + i) (g + j) (g + k) ≡ 13
own_direction n g i j k hi hj hk =
    let at : (t : ℕ) → t < n → side_at n g (g + t) ≡ 1 = (λ t h. side_of_place n g 1 (g + t) (omega arith) (omega arith) (omega arith)) in
    ap₂ (λ u w. u + 3 * w + 9 * side_at n g (g + k)) (at i hi) (at j hj) ∙ ap (λ u. 1 + 3 * 1 + 9 * u) (at k hk)

module _ (n e : ℕ) (asked : Guards) (w : WorldState) (v node : ℕ) (sized : IsSized n e w.told.grid.shape) where
  abbrev pub block : BlockAt
  block = block_at w.told.grid node

  -- nothing but the leaf's own numbers
  pub none_gathered : (xs : List ℤ) → xs ≡ cell_array w v node → IsGatheredTo n e asked w v node 0 xs
  none_gathered xs is = subst (IsGatheredTo n e asked w v node 0) (sym is) (record { size = refl; cells = λ i j k hi hj hk. refl; guards = λ content holds i j k hi hj hk h a. absurd (omega arith) })

  -- one more direction
  one_gathered : (d : ℕ) (old new : List ℤ) → IsGatheredTo n e asked w v node d old → IsFilled n e w v block d old new →
      ((i j k : ℕ) → i < n → j < n → k < n → number_at (cell_extents n e) new (e + i) (e + j) (e + k) ≡ number_at (cell_extents n e) old (e + i) (e + j) (e + k)) → IsGatheredTo n e asked w v node (d + 1) new
  one_gathered d old new before fill keeps = record {
    size = fill.size ∙ before.size;
    cells = λ i j k hi hj hk. keeps i j k hi hj hk ∙ before.cells i j k hi hj hk;
    guards = λ content holds i j k hi hj hk h a. elim (cases_lt (direction_at n e i j k) d) [
      | inl less ↦ fill.stays i j k hi hj hk (λ is. omega arith) ∙ before.guards content holds i j k hi hj hk less a
      | inr last ↦ fill.guards content holds i j k hi hj hk (omega arith)
    ];
  }

  -- one in which guard cells lie
  guards_gathered : (d : ℕ) (old new : List ℤ) → d ≢ 13 → IsGatheredTo n e asked w v node d old → IsFilled n e w v block d old new → IsGatheredTo n e asked w v node (d + 1) new
  guards_gathered d old new ne before fill =
      one_gathered d old new before fill (λ i j k hi hj hk. fill.stays (e + i) (e + j) (e + k) (omega arith) (omega arith) (omega arith) (λ is. ne (sym is ∙ own_direction n e i j k hi hj hk)))

  -- one that is not asked for
  skipped : (d : ℕ) (old new : List ℤ) → is_asked asked d ≡ false → new ≡ old → IsGatheredTo n e asked w v node d old → IsGatheredTo n e asked w v node (d + 1) new
  skipped d old new none same before = subst (IsGatheredTo n e asked w v node (d + 1)) (sym same) (record {
    size = before.size;
    cells = before.cells;
    guards = λ content holds i j k hi hj hk h a. elim (cases_lt (direction_at n e i j k) d) [
      | inl less ↦ before.guards content holds i j k hi hj hk less a
      | inr last ↦ absurd (let is : direction_at n e i j k ≡ d = omega arith in let no = ap (is_asked asked) is ∙ none in cc)
    ];
  })

  pub asked_gathered : (d : ℕ) (old new : List ℤ) → d ≢ 13 → IsGatheredTo n e asked w v node d old → IsFilledAsked n e asked w v block d old new → IsGatheredTo n e asked w v node (d + 1) new
  asked_gathered d old new ne before fill = elim (cases_Bool (is_asked asked d)) [
    | inl wanted ↦ guards_gathered d old new ne before (fill.filled wanted)
    | inr passed ↦ skipped d old new passed (fill.stays passed) before
  ]

  -- and that of the leaf's own cells
  pub own_gathered : (xs : List ℤ) → InDomain w.told.grid.shape block → IsNode w.told.grid node → IsGatheredTo n e asked w v node 13 xs → IsGatheredTo n e asked w v node 14 xs
  unfolding own_patch own_strip
  own_gathered xs inside there before =
      let s = w.told.grid.shape in
      let b = block_at w.told.grid node in
      let p = own_patch n e b in
      let is : IsPatch n e s b 13 p = record {
        x = along_same n e (is_periodic s X) (roots s X * 2 ^ b.level) b.x inside.x;
        y = along_same n e (is_periodic s Y) (roots s Y * 2 ^ b.level) b.y inside.y;
        z = along_same n e (is_periodic s Z) (roots s Z * 2 ^ b.level) b.z inside.z;
      } in
      let done : IsPatched n e w v b.level p xs xs = record {
        size = refl;
        stays = λ i j k hi hj hk off. refl;
        views = λ content holds i j k hi hj hk.
            let x : n * b.x + i ≡ n * b.x + (0 + 1 * i) = omega arith in
            let y : n * b.y + j ≡ n * b.y + (0 + 1 * j) = omega arith in
            let z : n * b.z + k ≡ n * b.z + (0 + 1 * k) = omega arith in
            before.cells i j k hi hj hk ∙ views_at w.told.grid n e content b (cell_array w v node) sized (holds node there) i j k hi hj hk
            ∙ ap (cell_view w.told.grid content) (λ t. record { level = b.level; x = x t; y = y t; z = z t });
      } in
      one_gathered 13 xs xs before (filled n e 13 w v b p xs xs (omega arith) sized is done) (λ i j k hi hj hk. refl)

-- a place lies in one of the 27 directions
pub gathered_all : (n e : ℕ) (asked : Guards) (w : WorldState) (v node : ℕ) (xs : List ℤ) → IsGathered n e asked w v node xs → (content : CellAt → ℤ) → NodesHold w v content →
    (i j k : ℕ) → i < side n e → j < side n e → k < side n e → is_asked asked (direction_at n e i j k) ≡ true → number_at (cell_extents n e) xs i j k ≡ guard_at n e w.told.grid content (block_at w.told.grid node) i j k
gathered_all n e asked w v node xs all content holds i j k hi hj hk a = all.guards content holds i j k hi hj hk (direction_few n e i j k) a
