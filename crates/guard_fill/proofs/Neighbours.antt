-- The blocks in the 27 directions of a leaf: they touch it, and their views stand in nodes.
use Rattle.std.proofs.Common.{◌≡◌, ℕ, suc, ◌+◌, ◌-◌, ◌*◌, ◌/◌, ◌%◌, ◌^◌, ◌<◌, ◌≤◌, Bool, sym, ap, subst, ◌∙◌, arith, inl, inr}
use Rattle.std.proofs.Math.Nat.{mul_assoc}
use Rattle.std.proofs.Math.Pow.{pow-add}
use Rattle.std.proofs.lemmas.Bool.{cases_Bool, cases_lt}
use Rattle.amr_num.specs.declared.Axis.{Axis}
use Rattle.amr_num.specs.declared.Axis.TheVariants.{X, Y, Z}
use Rattle.amr_num.specs.declared.BlockAt.{BlockAt}
use Rattle.mesh_model.specs.declared.geometry.Shape.{Shape}
use Rattle.mesh_model.specs.Geometry.Blocks.{InDomain, LiesIn, child_block, parent_block}
use Rattle.mesh_model.specs.Geometry.Coordinates.{is_periodic, roots}
use Rattle.mesh_model.specs.Geometry.Touch.{block_on, high_end, low_end}
use Rattle.mesh_model.specs.Tree.Kinds.{Grid, is_leaf_block, is_split_block}
use Rattle.mesh_model.specs.Tree.Order.{IsIn}
use Rattle.mesh_model.specs.Tree.ValidGrid.{Valid}
use Rattle.mesh_model.proofs.TreeLemmas.Levels.{home}
use Rattle.mesh_model.proofs.TreeLemmas.Nodes.{in_node}
use Rattle.mesh_model.proofs.TreeLemmas.Tiling.{leaf_shows, lies_refl, same_level, split_says}
use Rattle.mesh_model.proofs.TreeLemmas.Touching.{Meet, Touch, meet_times, touch_shows, touch_up}
use Rattle.guard_fill.specs.declared.strips.Patch.{Patch}
use Rattle.guard_fill.specs.Filling.{IsKnown}
use Rattle.guard_fill.specs.Strips.{IsBeside, block_of}

-- the block of a patch is, on each axis, the same or one beside it
pub record AreBeside (s : Shape) (b : BlockAt) (p : Patch) : Type 0 where
  pub x : IsBeside (is_periodic s X) (roots s X * 2 ^ b.level) b.x p.x.block
  pub y : IsBeside (is_periodic s Y) (roots s Y * 2 ^ b.level) b.y p.y.block
  pub z : IsBeside (is_periodic s Z) (roots s Z * 2 ^ b.level) b.z p.z.block

-- ---- they touch it

meets : (periodic : Bool) (blocks b c : ℕ) → IsBeside periodic blocks b c → Meet periodic blocks b (suc b) c (suc c)
meets periodic blocks b c beside = elim beside.which [
  | inl near ↦ inl (omega arith, omega arith)
  | inr (turn, inl first) ↦ inr (turn, inl (omega arith))
  | inr (turn, inr last) ↦ inr (turn, inr (omega arith))
]

pub whole_turn : (r l : ℕ) → l ≤ 10 → r * 2 ^ l * 2 ^ (10 - l) ≡ r * 2 ^ 10
whole_turn r l h =
    let sum : l + (10 - l) ≡ 10 = omega arith in
    mul_assoc r (2 ^ l) (2 ^ (10 - l)) ∙ ap (λ n. r * n) (sym (pow-add 2 l (10 - l)) ∙ ap (λ d. 2 ^ d) sum)

meets_finest : (periodic : Bool) (r l b c : ℕ) → l ≤ 10 → IsBeside periodic (r * 2 ^ l) b c → Meet periodic (r * 2 ^ 10) (low_end l b) (high_end l b) (low_end l c) (high_end l c)
unfolding low_end high_end
meets_finest periodic r l b c deep beside =
    subst (λ e. Meet periodic e (b * 2 ^ (10 - l)) (suc b * 2 ^ (10 - l)) (c * 2 ^ (10 - l)) (suc c * 2 ^ (10 - l))) (whole_turn r l deep)
    (meet_times periodic (r * 2 ^ l) b (suc b) c (suc c) (2 ^ (10 - l)) (meets periodic (r * 2 ^ l) b c beside))

module _ (s : Shape) (b : BlockAt) (p : Patch) (is : AreBeside s b p) where
  patch_touches : b.level ≤ 10 → Touch s b (block_of b.level p)
  patch_touches deep = record { on = on }
    where
      on : (a : Axis) → Meet (is_periodic s a) (roots s a * 2 ^ 10) (low_end b.level (block_on a b)) (high_end b.level (block_on a b)) (low_end b.level (block_on a (block_of b.level p))) (high_end b.level (block_on a (block_of b.level p)))
      on X = meets_finest (is_periodic s X) s.rx b.level b.x p.x.block deep is.x
      on Y = meets_finest (is_periodic s Y) s.ry b.level b.y p.y.block deep is.y
      on Z = meets_finest (is_periodic s Z) s.rz b.level b.z p.z.block deep is.z

  pub patch_inside : InDomain s b → InDomain s (block_of b.level p)
  patch_inside inside = record { level = inside.level; x = is.x.there; y = is.y.there; z = is.z.there }

-- ---- and their views stand in nodes

parent_is : (d a : BlockAt) → LiesIn d a → d.level ≡ suc a.level → parent_block d ≡ a
parent_is d a h e =
    let one : d.level - a.level ≡ 1 = omega arith in
    let level : d.level - 1 ≡ a.level = omega arith in
    let half : (u : ℕ) → u / 2 ^ (d.level - a.level) ≡ u / 2 = λ u. ap (λ m. u / 2 ^ m) one in
    λ t. record { level = level t; x = (sym (half d.x) ∙ h.x) t; y = (sym (half d.y) ∙ h.y) t; z = (sym (half d.z) ∙ h.z) t }

pub patch_known : (g : Grid) (b : BlockAt) (p : Patch) → Valid g → IsIn b g.leaves → AreBeside g.shape b p → IsKnown g (block_of b.level p)
patch_known g b p valid leaf is =
    let s = g.shape in
    let c = block_of b.level p in
    let inside = valid.tiles.inside b leaf in
    let deep : b.level ≤ 10 = (let room = inside.level in let top = valid.shape.max in omega arith) in
    elim (cases_Bool (is_split_block g c)) [
      | inl split ↦ (let under = split_says g c split in record { which = inl (in_node g valid c under.0 under.1 under.3) })
      | inr whole ↦
          let round = home g valid.tiles valid.shape.max c (patch_inside s b p is inside) whole in
          let other = round.0 in
          let touch : Touch s b other = touch_up s b c other (patch_touches s b p is deep) round.2 deep in
          let near = valid.rule.near b other leaf round.1 (touch_shows s b other touch) in
          let over : other.level ≤ b.level = round.2.level in
          elim (cases_lt other.level b.level) [
            | inr same ↦ record { which = inl (in_node g valid c other round.1 (subst (λ u. LiesIn other u) (sym (same_level c other round.2 (omega arith))) (lies_refl other))) }
            | inl coarse ↦
                let up : parent_block c ≡ other = parent_is c other round.2 (omega arith) in
                record { which = inr (omega arith, ap (is_leaf_block g) up ∙ leaf_shows g other round.1) }
          ]
    ]

-- a block is a child of its parent
pub own_child : (b : BlockAt) → 0 < b.level → child_block (parent_block b) (b.x % 2 + 2 * (b.y % 2) + 4 * (b.z % 2)) ≡ b
own_child b h =
    let q = b.x % 2 + 2 * (b.y % 2) + 4 * (b.z % 2) in
    let level : suc (b.level - 1) ≡ b.level = omega arith in
    let x : 2 * (b.x / 2) + q % 2 ≡ b.x = omega arith in
    let y : 2 * (b.y / 2) + q / 2 % 2 ≡ b.y = omega arith in
    let z : 2 * (b.z / 2) + q / 4 % 2 ≡ b.z = omega arith in
    λ t. record { level = level t; x = x t; y = y t; z = z t }
