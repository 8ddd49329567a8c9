-- Places of faces and of edges that get the views that belong there.
use Rattle.std.proofs.Common.{◌≡◌, ◌≢◌, ℕ, ◌+◌, ◌-◌, ◌*◌, ◌/◌, ◌%◌, ◌^◌, ◌<◌, Bool, false, List, ℤ, refl, sym, ap, ap₂, subst, ◌∙◌, arith, inl, inr}
use Rattle.std.proofs.lemmas.Bool.{cases_lt}
use Rattle.amr_num.specs.declared.Axis.{Axis}
use Rattle.amr_num.specs.declared.Axis.TheVariants.{X, Y, Z}
use Rattle.amr_num.specs.declared.BlockAt.{BlockAt}
use Rattle.amr_num.specs.declared.CellAt.{CellAt}
use Rattle.amr_num.specs.declared.EdgeAt.{EdgeAt}
use Rattle.amr_num.specs.declared.FaceAt.{FaceAt}
use Rattle.mesh_model.specs.declared.geometry.Shape.{Shape}
use Rattle.mesh_model.specs.declared.fields.values.Var.{Var}
use Rattle.mesh_model.specs.declared.fields.values.Var.TheVariants.{Edge, Face}
use Rattle.mesh_model.specs.Geometry.Blocks.{InDomain}
use Rattle.mesh_model.specs.Geometry.Canonical.{canonical_on}
use Rattle.mesh_model.specs.Geometry.Coordinates.{edge_of, extent, face_of, is_periodic, next, roots}
use Rattle.mesh_model.specs.Geometry.Places.{guard_index, in_block}
use Rattle.mesh_model.specs.Fields.Arrays.{array_in}
use Rattle.mesh_model.specs.Fields.ArrayPlaces.{HoldsEdges, HoldsFaces, IsInBox, IsWritten, extents_of, number_at}
use Rattle.mesh_model.specs.Fields.FinePlaces.{edges_in, faces_in, half_extents}
use Rattle.mesh_model.specs.Fields.Ranks.{IsSized, WorldState, rank_at}
use Rattle.mesh_model.specs.Fields.Views.{edge_view, face_view}
use Rattle.rank_world.specs.Holding.{LeavesHoldEdges, LeavesHoldFaces}
use Rattle.block_tree.specs.Numbered.{IsNode, block_at}
use Rattle.guard_fill.specs.declared.strips.Patch.{Patch}
use Rattle.guard_fill.specs.declared.strips.Strip.{Strip}
use Rattle.guard_fill.specs.Guarding.{AreNodeViews, AreReaches, AreViews, IsReachedTo, IsSpread, IsSpreadTo, at_positions, canon, direction_in, there_in}
use Rattle.guard_fill.specs.Restricting.{HasViews}
use Rattle.guard_fill.specs.Strips.{AllReach, IsReach, block_of, box_of, brought_to, cell_at, from_places, named, one_more, side_at}
use Rattle.guard_fill.proofs.AxisStrips.{reach_along, widths}
use Rattle.guard_fill.proofs.Patches.{place_of_side, side_few, side_of_place, turn_over}

-- ---- the child that a leaf would have

pub face_named : (s : Shape) (a : Axis) (c : CellAt) → face_of a (canonical_on s a c) ≡ face_of a (canon s (Face a) c)
face_named s X c = refl
face_named s Y c = refl
face_named s Z c = refl

pub edge_named : (s : Shape) (a : Axis) (c : CellAt) → edge_of a (canonical_on s (next a) (canonical_on s (next (next a)) c)) ≡ edge_of a (canon s (Edge a) c)
edge_named s X c = refl
edge_named s Y c = refl
edge_named s Z c = refl

pub made_edges : (w : WorldState) (a : Axis) (view : CellAt → ℤ) (b : BlockAt) (xs : List ℤ) → AreViews w (Edge a) view →
    ((field : EdgeAt → ℤ) → LeavesHoldEdges false w field → HoldsEdges w.told.grid field a b (edges_in w.told.grid a xs)) →
    let s = w.told.grid.shape in HasViews s (Edge a) (λ c. view (canon s (Edge a) c)) b (number_at (extents_of s.n s.g (Edge a)) xs)
made_edges w a view b xs (field, holds, is) made = record {
  at = λ i j k hi hj hk.
      let g = w.told.grid in
      let c = in_block g.shape.n b i j k in
      (made field holds).at i j k hi hj hk ∙ ap (edge_view g field) (edge_named g.shape a c) ∙ sym (is (canon g.shape (Edge a) c));
}

pub made_faces : (w : WorldState) (a : Axis) (view : CellAt → ℤ) (b : BlockAt) (xs : List ℤ) → AreViews w (Face a) view →
    ((field : FaceAt → ℤ) → LeavesHoldFaces w field → HoldsFaces w.told.grid field a b (faces_in w.told.grid a xs)) →
    let s = w.told.grid.shape in HasViews s (Face a) (λ c. view (canon s (Face a) c)) b (number_at (extents_of s.n s.g (Face a)) xs)
made_faces w a view b xs (field, holds, is) made = record {
  at = λ i j k hi hj hk.
      let g = w.told.grid in
      let c = in_block g.shape.n b i j k in
      (made field holds).at i j k hi hj hk ∙ ap (face_view g field) (face_named g.shape a c) ∙ sym (is (canon g.shape (Face a) c));
}

-- ---- patches

-- the numbers of a block, in the sizes of a world's blocks
views_in : (s : Shape) (n e : ℕ) (var : Var) (view : CellAt → ℤ) (b : BlockAt) (xs : List ℤ) → IsSized n e s → HasViews s var view b (number_at (extents_of s.n s.g var) xs) →
    (i j k : ℕ) → i < (half_extents n var).x → j < (half_extents n var).y → k < (half_extents n var).z → number_at (extents_of n e var) xs (e + i) (e + j) (e + k) ≡ view (in_block n b i j k)
views_in s n e var view b xs sized has =
    let at : ℕ → ℕ → Type 0 = λ m d. (i j k : ℕ) → i < (half_extents m var).x → j < (half_extents m var).y → k < (half_extents m var).z → number_at (extents_of m d var) xs (d + i) (d + j) (d + k) ≡ view (in_block m b i j k) in
    subst (λ m. at m e) sized.cells (subst (λ d. at s.n d) sized.guards has.at)

-- a patch that was copied from a block's views
pub spread_from : (n e : ℕ) (w : WorldState) (var : Var) (level : ℕ) (p : Patch) (xs old new : List ℤ) → IsSized n e w.told.grid.shape → AllReach (extents_of n e var) e p →
    IsWritten (extents_of n e var) (box_of p) (from_places e p (number_at (extents_of n e var) xs)) old new →
    ((view : CellAt → ℤ) → AreNodeViews w var view → let s = w.told.grid.shape in HasViews s var (λ c. view (canon s var c)) (block_of level p) (number_at (extents_of s.n s.g var) xs)) →
    IsSpread n e w var level p old new
spread_from n e w var level p xs old new sized reach is views = record {
  size = is.size;
  stays = is.stays;
  views = λ view of i j k hi hj hk.
      let wide = widths n e var in
      let x = reach.x.from i hi in
      let y = reach.y.from j hj in
      let z = reach.z.from k hk in
      is.written i j k hi hj hk
      ∙ views_in w.told.grid.shape n e var (λ c. view (canon w.told.grid.shape var c)) (block_of level p) xs sized (views view of) (cell_at p.x i) (cell_at p.y j) (cell_at p.z k)
      (omega (arith, x, wide.x, wide.own_x)) (omega (arith, y, wide.y, wide.own_y)) (omega (arith, z, wide.z, wide.own_z));
}

-- ---- what stands for a place

-- on an axis
stands : (s : Shape) (a : Axis) (positions : Bool) (n e l b d t : ℕ) (st : Strip) → s.n ≡ n → IsReach n e positions (is_periodic s a) (roots s a * 2 ^ l) b d st → t < st.many →
    brought_to positions (is_periodic s a) (extent s a l) (guard_index n e b (st.to + t)) ≡ named positions (is_periodic s a) (extent s a l) (n * st.block + cell_at st t)
stands s a positions n e l b d t st same is h =
    let all : roots s a * 2 ^ l * n ≡ extent s a l = turn_over (roots s a) n l ∙ ap (λ m. roots s a * m * 2 ^ l) (sym same) in
    subst (λ m. brought_to positions (is_periodic s a) m (guard_index n e b (st.to + t)) ≡ named positions (is_periodic s a) m (n * st.block + cell_at st t)) all (is.stand t h)

three_digits : (a b c d : ℕ) → a < 3 → b < 3 → c < 3 → a + 3 * b + 9 * c ≡ d → (a ≡ d % 3) × (b ≡ d / 3 % 3) × (c ≡ d / 9)
three_digits a b c d ha hb hc is = (omega arith, omega arith, omega arith)

pub direction_small : (var : Var) (n g i j k : ℕ) → direction_in var n g i j k < 27
direction_small var n g i j k =
    let a = side_few (one_more (at_positions var X) n) g i in
    let b = side_few (one_more (at_positions var Y) n) g j in
    let c = side_few (one_more (at_positions var Z) n) g k in
    omega arith

-- ---- a patch in its direction

module _ (n e d : ℕ) (w : WorldState) (var : Var) (b : BlockAt) (p : Patch) (old new : List ℤ) (few : d < 27) (sized : IsSized n e w.told.grid.shape)
    (is : AreReaches n e w.told.grid.shape var b d p) (done : IsSpread n e w var b.level p old new) where
  abbrev mx : ℕ
  mx = one_more (at_positions var X) n

  abbrev my : ℕ
  my = one_more (at_positions var Y) n

  abbrev mz : ℕ
  mz = one_more (at_positions var Z) n

  -- a place of the box lies in the direction
  in_direction : (i j k : ℕ) → IsInBox (box_of p) i j k → direction_in var n e i j k ≡ d
  in_direction i j k inside =
      let x = side_of_place mx e (d % 3) i (omega arith) (let l = inside.x.0 in let t = is.x.to in omega arith) (let l = inside.x.1 in let t = is.x.to in let m = is.x.many in omega arith) in
      let y = side_of_place my e (d / 3 % 3) j (omega arith) (let l = inside.y.0 in let t = is.y.to in omega arith) (let l = inside.y.1 in let t = is.y.to in let m = is.y.many in omega arith) in
      let z = side_of_place mz e (d / 9) k (omega arith) (let l = inside.z.0 in let t = is.z.to in omega arith) (let l = inside.z.1 in let t = is.z.to in let m = is.z.many in omega arith) in
      let sum : side_at mx e i + 3 * side_at my e j + 9 * side_at mz e k ≡ d % 3 + 3 * (d / 3 % 3) + 9 * (d / 9) = ap₂ (λ u r. u + 3 * r + 9 * side_at mz e k) x y ∙ ap (λ u. d % 3 + 3 * (d / 3 % 3) + 9 * u) z in
      sum ∙ omega arith

  pub spread_to : IsSpreadTo n e w var b d old new
  spread_to = record {
    size = done.size;
    stays = λ i j k hi hj hk off. done.stays i j k hi hj hk (λ inside. off (in_direction i j k inside));
    guards = λ view of i j k hi hj hk here.
        let wide = widths n e var in
        let sides = three_digits (side_at mx e i) (side_at my e j) (side_at mz e k) d (side_few mx e i) (side_few my e j) (side_few mz e k) here in
        let x = place_of_side mx e (d % 3) i (subst (λ m. i < m) wide.x hi) sides.0 in
        let y = place_of_side my e (d / 3 % 3) j (subst (λ m. j < m) wide.y hj) sides.1 in
        let z = place_of_side mz e (d / 9) k (subst (λ m. k < m) wide.z hk) sides.2 in
        let tx = i - p.x.to in
        let ty = j - p.y.to in
        let tz = k - p.z.to in
        let lx : tx < p.x.many = (let t = is.x.to in let m = is.x.many in omega arith) in
        let ly : ty < p.y.many = (let t = is.y.to in let m = is.y.many in omega arith) in
        let lz : tz < p.z.many = (let t = is.z.to in let m = is.z.many in omega arith) in
        let ex : p.x.to + tx ≡ i = (let t = is.x.to in omega arith) in
        let ey : p.y.to + ty ≡ j = (let t = is.y.to in omega arith) in
        let ez : p.z.to + tz ≡ k = (let t = is.z.to in omega arith) in
        let s = w.told.grid.shape in
        let sx = ap (λ u. brought_to (at_positions var X) (is_periodic s X) (extent s X b.level) (guard_index n e b.x u)) (sym ex) ∙ stands s X (at_positions var X) n e b.level b.x (d % 3) tx p.x sized.cells is.x lx in
        let sy = ap (λ u. brought_to (at_positions var Y) (is_periodic s Y) (extent s Y b.level) (guard_index n e b.y u)) (sym ey) ∙ stands s Y (at_positions var Y) n e b.level b.y (d / 3 % 3) ty p.y sized.cells is.y ly in
        let sz = ap (λ u. brought_to (at_positions var Z) (is_periodic s Z) (extent s Z b.level) (guard_index n e b.z u)) (sym ez) ∙ stands s Z (at_positions var Z) n e b.level b.z (d / 9) tz p.z sized.cells is.z lz in
        let same : there_in n e s var b i j k ≡ canon s var (in_block n (block_of b.level p) (cell_at p.x tx) (cell_at p.y ty) (cell_at p.z tz)) =
        (λ t. record { level = b.level; x = sx t; y = sy t; z = sz t }) in
        ap (λ u. number_at (extents_of n e var) new u j k) (sym ex) ∙ ap₂ (λ u r. number_at (extents_of n e var) new (p.x.to + tx) u r) (sym ey) (sym ez)
        ∙ done.views view of tx ty tz lx ly lz ∙ ap view (sym same);
  }

-- ---- direction by direction

own_strip : ℕ → ℕ → ℕ → Strip
own_strip m g b = record { to = g; many = m; block = b; first = 0; step = 1 }

own_patch : ℕ → ℕ → Var → BlockAt → Patch
own_patch n g var b = record { x = own_strip (one_more (at_positions var X) n) g b.x; y = own_strip (one_more (at_positions var Y) n) g b.y; z = own_strip (one_more (at_positions var Z) n) g b.z }

-- a place of the block's own lies in the direction of its own places
own_direction : (var : Var) (n g i j k : ℕ) → i < (half_extents n var).x → j < (half_extents n var).y → k < (half_extents n var).z → direction_in var n g (g + i) (g + j) (g + k) ≡ 13
own_direction var n g i j k hi hj hk =
    let wide = widths n g var in
    let at : (m t : ℕ) → t < m → side_at m g (g + t) ≡ 1 = (λ m t h. side_of_place m g 1 (g + t) (omega arith) (omega arith) (omega arith)) in
    let x = at (one_more (at_positions var X) n) i (subst (λ m. i < m) wide.own_x hi) in
    let y = at (one_more (at_positions var Y) n) j (subst (λ m. j < m) wide.own_y hj) in
    let z = at (one_more (at_positions var Z) n) k (subst (λ m. k < m) wide.own_z hk) in
    ap₂ (λ u r. u + 3 * r + 9 * side_at (one_more (at_positions var Z) n) g (g + k)) x y ∙ ap (λ u. 1 + 3 * 1 + 9 * u) z

-- it stands within the array
own_within : (n g : ℕ) (var : Var) → ((i : ℕ) → i < (half_extents n var).x → g + i < (extents_of n g var).x)
    × ((i : ℕ) → i < (half_extents n var).y → g + i < (extents_of n g var).y) × ((i : ℕ) → i < (half_extents n var).z → g + i < (extents_of n g var).z)
own_within n g var =
    let w = widths n g var in
    (λ i h. omega (arith, w.x, w.own_x, h), λ i h. omega (arith, w.y, w.own_y, h), λ i h. omega (arith, w.z, w.own_z, h))

module _ (n e : ℕ) (w : WorldState) (var : Var) (node : ℕ) (sized : IsSized n e w.told.grid.shape) where
  abbrev pub block : BlockAt
  block = block_at w.told.grid node

  abbrev pub array : List ℤ
  array = array_in (rank_at w 0).own.values var node

  -- nothing but the leaf's own numbers
  pub none_reached : (xs : List ℤ) → xs ≡ array → IsReachedTo n e w var node 0 xs
  none_reached xs is = subst (IsReachedTo n e w var node 0) (sym is) (record { size = refl; own = λ i j k hi hj hk. refl; guards = λ view of i j k hi hj hk h. absurd (omega arith) })

  -- one more direction
  one_reached : (d : ℕ) (old new : List ℤ) → IsReachedTo n e w var node d old → IsSpreadTo n e w var block d old new →
      ((i j k : ℕ) → i < (half_extents n var).x → j < (half_extents n var).y → k < (half_extents n var).z → number_at (extents_of n e var) new (e + i) (e + j) (e + k) ≡ number_at (extents_of n e var) old (e + i) (e + j) (e + k)) → IsReachedTo n e w var node (d + 1) new
  one_reached d old new before fill keeps = record {
    size = fill.size ∙ before.size;
    own = λ i j k hi hj hk. keeps i j k hi hj hk ∙ before.own i j k hi hj hk;
    guards = λ view of i j k hi hj hk h. elim (cases_lt (direction_in var n e i j k) d) [
      | inl less ↦ fill.stays i j k hi hj hk (λ is. omega arith) ∙ before.guards view of i j k hi hj hk less
      | inr last ↦ fill.guards view of i j k hi hj hk (omega arith)
    ];
  }

  -- one in which guard places lie
  pub guards_reached : (d : ℕ) (old new : List ℤ) → d ≢ 13 → IsReachedTo n e w var node d old → IsSpreadTo n e w var block d old new → IsReachedTo n e w var node (d + 1) new
  guards_reached d old new ne before fill =
      let within = own_within n e var in
      one_reached d old new before fill (λ i j k hi hj hk. fill.stays (e + i) (e + j) (e + k) (within.0 i hi) (within.1 j hj) (within.2 k hk) (λ is. ne (sym is ∙ own_direction var n e i j k hi hj hk)))

  -- and that of the leaf's own places
  pub own_reached : (xs : List ℤ) → InDomain w.told.grid.shape block → IsNode w.told.grid node → IsReachedTo n e w var node 13 xs → IsReachedTo n e w var node 14 xs
  unfolding own_patch own_strip
  own_reached xs inside there before =
      let s = w.told.grid.shape in
      let b = block_at w.told.grid node in
      let p = own_patch n e var b in
      let wide = widths n e var in
      let is : AreReaches n e s var b 13 p = record {
        x = reach_along n e (at_positions var X) (is_periodic s X) (roots s X * 2 ^ b.level) b.x (one_more (at_positions var X) n) inside.x refl;
        y = reach_along n e (at_positions var Y) (is_periodic s Y) (roots s Y * 2 ^ b.level) b.y (one_more (at_positions var Y) n) inside.y refl;
        z = reach_along n e (at_positions var Z) (is_periodic s Z) (roots s Z * 2 ^ b.level) b.z (one_more (at_positions var Z) n) inside.z refl;
      } in
      let done : IsSpread n e w var b.level p xs xs = record {
        size = refl;
        stays = λ i j k hi hj hk off. refl;
        views = λ view of i j k hi hj hk.
            let x : n * b.x + i ≡ n * b.x + (0 + 1 * i) = omega arith in
            let y : n * b.y + j ≡ n * b.y + (0 + 1 * j) = omega arith in
            let z : n * b.z + k ≡ n * b.z + (0 + 1 * k) = omega arith in
            let wx = subst (λ m. i < m) (sym wide.own_x) hi in
            let wy = subst (λ m. j < m) (sym wide.own_y) hj in
            let wz = subst (λ m. k < m) (sym wide.own_z) hk in
            before.own i j k wx wy wz ∙ views_in s n e var (λ c. view (canon s var c)) b array sized (of.nodes node there) i j k wx wy wz
            ∙ ap (λ c. view (canon s var c)) (λ t. record { level = b.level; x = x t; y = y t; z = z t });
      } in
      one_reached 13 xs xs before (spread_to n e 13 w var b p xs xs (omega arith) sized is done) (λ i j k hi hj hk. refl)

  -- a place lies in one of the 27 directions
  pub all_reached : (xs : List ℤ) → IsReachedTo n e w var node 27 xs → (view : CellAt → ℤ) → AreNodeViews w var view → (i j k : ℕ) → i < (extents_of n e var).x → j < (extents_of n e var).y → k < (extents_of n e var).z →
      number_at (extents_of n e var) xs i j k ≡ view (there_in n e w.told.grid.shape var block i j k)
  all_reached xs all view of i j k hi hj hk = all.guards view of i j k hi hj hk (direction_small var n e i j k)
