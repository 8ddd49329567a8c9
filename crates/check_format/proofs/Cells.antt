-- Each leaf cell is walked once.
use Rattle.std.proofs.Common.{◌≡◌, ℕ, true, ◌+◌, ◌-◌, ◌*◌, ◌/◌, ◌<◌, sym, ap, subst, ◌∙◌, arith, inl, inr, List, [], ◌∷◌}
use Rattle.std.proofs.Math.Nat.{mul_comm}
use Rattle.std.proofs.lemmas.Nat.{div-mul-add}
use Rattle.amr_num.specs.declared.BlockAt.{BlockAt}
use Rattle.amr_num.specs.declared.CellAt.{CellAt}
use Rattle.mesh_model.specs.Tree.Order.{IsIn, Sorted}
use Rattle.mesh_model.specs.Tree.Kinds.{Grid, block_of, is_leaf}
use Rattle.mesh_model.specs.Geometry.Places.{in_block, block_cells}
use Rattle.mesh_model.specs.Fields.RangeWalk.{cells_walked}
use Rattle.mesh_model.proofs.TreeLemmas.Tiling.{leaf_shows}
use Rattle.mesh_model.proofs.FieldLemmas.Walking.{Member}
use Rattle.check_format.proofs.Keys.{Once, from_box, from_flat_map, once_box, once_flat}

pub member_in : (b : BlockAt) (bs : List BlockAt) → Member b bs → IsIn b bs
member_in b [] i = i
member_in b (c ∷ bs) (inl e) = inl e
member_in b (c ∷ bs) (inr i) = inr (member_in b bs i)

pub sorted_once : (bs : List BlockAt) → Sorted bs → Once bs
sorted_once [] s = tt
sorted_once (b ∷ bs) s = (λ i. let lt = s.0 b (member_in b bs i) in absurd (omega arith), sorted_once bs s.1)

back : (n b i : ℕ) → i < n → (n * b + i) / n ≡ b
back n b i h = ap (λ u. (u + i) / n) (mul_comm n b) ∙ div-mul-add b n i h

off : (n b i : ℕ) → n * b + i - n * b ≡ i
off n b i = omega arith

pub cells_once : (g : Grid) → Sorted g.leaves → Once (cells_walked g)
cells_once g order =
    let n = g.shape.n in
    once_flat (block_cells n) (block_of n) g.leaves
    (λ b m c i.
    let at = from_box n n n (in_block n b) c i in
    ap (block_of n) (sym at.6) ∙ (λ t. record { level = b.level; x = back n b.x at.0 at.3 t; y = back n b.y at.1 at.4 t; z = back n b.z at.2 at.5 t }))
    (λ b m. once_box n n n (in_block n b) (λ c. c.x - n * b.x) (λ c. c.y - n * b.y) (λ c. c.z - n * b.z) (λ i j k. off n b.x i) (λ i j k. off n b.y j) (λ i j k. off n b.z k))
    (sorted_once g.leaves order)

pub leaf_of_walked : (g : Grid) (c : CellAt) → Member c (cells_walked g) → is_leaf g c ≡ true
leaf_of_walked g c i =
    let n = g.shape.n in
    let from = from_flat_map (block_cells n) c g.leaves i in
    let b = from.0 in
    let at = from_box n n n (in_block n b) c from.2 in
    let same : block_of n c ≡ b = ap (block_of n) (sym at.6) ∙ (λ t. record { level = b.level; x = back n b.x at.0 at.3 t; y = back n b.y at.1 at.4 t; z = back n b.z at.2 at.5 t }) in
    leaf_shows g (block_of n c) (subst (λ u. IsIn u g.leaves) (sym same) (member_in b g.leaves from.1))
