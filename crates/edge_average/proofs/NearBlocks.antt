-- A block in a direction from another touches it, and so nothing finer stands round the children of a block that is not split.
use Rattle.std.proofs.Common.{◌≡◌, ℕ, zero, suc, ◌*◌, ◌^◌, ◌<◌, ◌≤◌, Bool, true, false, ◌||◌, ◌&&◌, Option, Some, None, refl, sym, ap, subst, arith, inl, inr}
use Rattle.amr_num.specs.declared.Axis.{Axis}
use Rattle.amr_num.specs.declared.Axis.TheVariants.{X, Y, Z}
use Rattle.amr_num.specs.declared.BlockAt.{BlockAt}
use Rattle.mesh_model.specs.declared.geometry.Shape.{Shape}
use Rattle.mesh_model.specs.Geometry.Blocks.{InDomain, child_block}
use Rattle.mesh_model.specs.Geometry.Coordinates.{is_periodic, roots}
use Rattle.mesh_model.specs.Geometry.Touch.{block_on, high_end, low_end}
use Rattle.mesh_model.specs.Tree.Kinds.{Grid, is_split_block}
use Rattle.mesh_model.specs.Tree.ValidGrid.{Valid}
use Rattle.mesh_model.proofs.FieldLemmas.Beside.{Follows, three}
use Rattle.mesh_model.proofs.TreeLemmas.Levels.{calm_block, is_child}
use Rattle.mesh_model.proofs.TreeLemmas.Tiling.{domain_child}
use Rattle.mesh_model.proofs.TreeLemmas.Touching.{Meet, Touch}
use Rattle.block_tree.specs.Directions.{block_of_three, block_toward, has_edges, is_kind, lies_round, lies_toward, passes, toward_on}
use Rattle.block_tree.specs.declared.directions.Direction.{Direction}
use Rattle.block_tree.proofs.SideAxes.{ends_meet, neighbours}
use Rattle.edge_average.specs.Lines.{step_on}

-- ---- coordinates of the block in a direction

three_of : (l : ℕ) (x y z : Option ℕ) (e : BlockAt) → block_of_three l x y z ≡ Some e → (e.level ≡ l) × (x ≡ Some e.x) × (y ≡ Some e.y) × (z ≡ Some e.z)
three_of l None y z e is = cc
three_of l (Some x) None z e is = cc
three_of l (Some x) (Some y) None e is = cc
three_of l (Some x) (Some y) (Some z) e is =
    let c : BlockAt = record { level = l; x = x; y = y; z = z } in
    let same : c ≡ e = cc in
    (ap (λ (b : BlockAt). b.level) (sym same), ap (λ (b : BlockAt). Some b.x) same, ap (λ (b : BlockAt). Some b.y) same, ap (λ (b : BlockAt). Some b.z) same)

pub record IsThere (s : Shape) (d : Direction) (b e : BlockAt) : Type 0 where
  pub level : e.level ≡ b.level
  pub on : (c : Axis) → toward_on (is_periodic s c) (step_on c d) (roots s c * 2 ^ b.level) (block_on c b) ≡ Some (block_on c e)

pub there_of : (s : Shape) (d : Direction) (b e : BlockAt) → block_toward s d b ≡ Some e → IsThere s d b e
unfolding block_toward
there_of s d b e is = let all = three_of b.level _ _ _ e is in record { level = all.0; on = three _ all.1 all.2 all.3 }

pub inside_on : (s : Shape) (b : BlockAt) → InDomain s b → (c : Axis) → block_on c b < roots s c * 2 ^ b.level
inside_on s b inside X = inside.x
inside_on s b inside Y = inside.y
inside_on s b inside Z = inside.z

-- ---- it touches the block

low_meets : (p : Bool) (e u w : ℕ) → Follows p e w u → Meet p e u (suc u) w (suc w)
low_meets p e u w (inl is) = inl (omega arith, omega arith)
low_meets p e u w (inr (t, first, end)) = inr (t, inl (omega arith))

high_meets : (p : Bool) (e u w : ℕ) → Follows p e u w → Meet p e u (suc u) w (suc w)
high_meets p e u w (inl is) = inl (omega arith, omega arith)
high_meets p e u w (inr (t, first, end)) = inr (t, inr (omega arith))

own_meets : (p : Bool) (e u w : ℕ) → u ≡ w → Meet p e u (suc u) w (suc w)
own_meets p e u w is = inl (omega arith, omega arith)

meet_toward : (p : Bool) (step e u w : ℕ) → u < e → toward_on p step e u ≡ Some w → Meet p e u (suc u) w (suc w)
meet_toward p zero e u w h is = low_meets p e u w (neighbours p false e u w h is)
meet_toward p (suc zero) e u w h is = own_meets p e u w (cc)
meet_toward p (suc (suc k)) e u w h is = high_meets p e u w (neighbours p true e u w h is).0

touch_there : (s : Shape) (d : Direction) (b e : BlockAt) → ((c : Axis) → block_on c b < roots s c * 2 ^ b.level) → b.level ≤ 10 → IsThere s d b e → Touch s b e
touch_there s d b e inside h there = record {
  on = λ c.
      subst (λ l. Meet (is_periodic s c) (roots s c * 2 ^ 10) (low_end b.level (block_on c b)) (high_end b.level (block_on c b)) (low_end l (block_on c e)) (high_end l (block_on c e))) (sym there.level)
      (ends_meet (is_periodic s c) (roots s c) b.level (block_on c b) (block_on c e) h (meet_toward (is_periodic s c) (step_on c d) (roots s c * 2 ^ b.level) (block_on c b) (block_on c e) (inside c) (there.on c)));
}

-- ---- what stands round a child

none_of : (h a b c d : Bool) → a ≡ false → b ≡ false → c ≡ false → d ≡ false → (h && (a || b || c || d)) ≡ false
none_of true a b c d p q r t = rw (p, q, r, t) refl
none_of false a b c d p q r t = refl

module _ (g : Grid) (valid : Valid g) (b : BlockAt) (inside : InDomain g.shape b) (whole : is_split_block g b ≡ false) (deep : b.level < g.shape.max) (q : ℕ) where
  abbrev child : BlockAt
  child = child_block b q

  pub child_inside : InDomain g.shape child
  child_inside = domain_child g.shape child b (is_child b q) inside (omega arith)

  calm_toward : (d : Direction) → lies_toward g false child d ≡ false
  unfolding lies_toward
  calm_toward d = at (block_toward g.shape d child) refl
    where
      at : (o : Option BlockAt) → block_toward g.shape d child ≡ o → passes (is_kind g false) o ≡ false
      at None is = refl
      at (Some e) is =
          let there = there_of g.shape d child e is in
          calm_block g valid.tiles valid.shape.max valid.rule child e b (is_child b q) whole inside there.level
          (λ h. let top = valid.shape.max in touch_there g.shape d child e (inside_on g.shape child child_inside) (omega arith) there)

  -- blocks of the level of a child that lie round it are not split
  pub calm_round : (d : Direction) → lies_round g false child d ≡ false
  unfolding lies_round
  calm_round d = none_of (has_edges d) _ _ _ _ (calm_toward d) (calm_toward (record d { x = 1 })) (calm_toward (record d { y = 1 })) (calm_toward (record d { z = 1 }))
