-- What is found round a line of a leaf: a split block, in whose children the halves of the line's edges lie.
use Rattle.std.proofs.Common.{◌≡◌, ℕ, ◌%◌, ◌<◌, ◌≤◌, ◌⊎◌, true, false, ◌==◌, refl, sym, ap, ap₂, subst, ◌∙◌, inl, inr}
use Rattle.std.proofs.Math.Nat.{div-eq_of_lt}
use Rattle.std.proofs.lemmas.Nat.{pow_pos}
use Rattle.amr_num.specs.declared.Axis.{Axis}
use Rattle.amr_num.specs.declared.Axis.TheVariants.{X, Y, Z}
use Rattle.amr_num.specs.declared.BlockAt.{BlockAt}
use Rattle.mesh_model.specs.Fields.EdgeSplits.{edge_direction, end_step}
use Rattle.mesh_model.specs.Fields.FaceSplits.{is_kept}
use Rattle.mesh_model.specs.Fields.Ranks.{IsSized}
use Rattle.mesh_model.specs.Geometry.Blocks.{InDomain}
use Rattle.mesh_model.specs.Geometry.Coordinates.{next}
use Rattle.mesh_model.specs.Tree.Kinds.{Grid, is_leaf_block, is_split_block}
use Rattle.mesh_model.specs.Tree.ValidGrid.{Valid}
use Rattle.mesh_model.proofs.GeometryLemmas.ShapeLimits.{cells_some}
use Rattle.mesh_model.proofs.TreeLemmas.Levels.{split_level}
use Rattle.mesh_model.proofs.TreeLemmas.Tiling.{domain_up, split_says}
use Rattle.block_tree.specs.Directions.{AreParts, IsRound, direction_of, lies_round}
use Rattle.block_tree.specs.Numbered.{block_at}
use Rattle.block_tree.specs.declared.directions.Direction.{Direction}
use Rattle.block_tree.specs.declared.directions.Round.{Round}
use Rattle.block_tree.proofs.Leaves.{split_leaf}
use Rattle.block_tree.proofs.RoundEdges.{direction_few, direction_is, part_of}
use Rattle.edge_average.specs.EdgeArrays.{IsNear}
use Rattle.edge_average.specs.Lines.{beyond, edge_there, has_finer, line_part, line_place, step_on}
use Rattle.edge_average.proofs.HalfEdges.{inside_of, is_near, part_is}
use Rattle.edge_average.proofs.LineNames.{beyond_most, beyond_name}
use Rattle.edge_average.proofs.LinePlaces.{at_line}
use Rattle.edge_average.proofs.NearBlocks.{IsThere, inside_on, there_of}

-- ---- the part of the boundary on which a line lies, by its number

part_line : (n : ℕ) → 0 < n → (a : Axis) (s t : ℕ) → s ≤ n → t ≤ n → direction_of (edge_direction n a (line_place a 0 s t).x (line_place a 0 s t).y (line_place a 0 s t).z) ≡ line_part n a s t
part_line n some a s t hs ht =
    at_line (λ i j k. direction_of (edge_direction n a i j k) ≡ part_of n a i j k) a n (direction_is n some a) 0 s t (record { along = some; first = hs; second = ht }) ∙ part_is n a 0 s t

module _ (g : Grid) (valid : Valid g) (n e : ℕ) (sized : IsSized n e g.shape) (a : Axis) (s t : ℕ) (hs : s ≤ n) (ht : t ≤ n) (part : ℕ) (is : part ≡ edge_direction n a (line_place a 0 s t).x (line_place a 0 s t).y (line_place a 0 s t).z) where
  pub part_means : direction_of part ≡ line_part g.shape.n a s t
  part_means = ap direction_of is ∙ part_line n (subst (λ m. 0 < m) sized.cells (cells_some valid.shape)) a s t hs ht ∙ ap (λ m. line_part m a s t) (sym sized.cells)

  -- finer leaves stand round it where its bit stands
  pub bit_means : (b : BlockAt) (parts : ℕ) → AreParts g false b 27 parts → part < 27 → is_kept parts part ≡ has_finer g a b s t
  unfolding has_finer
  bit_means b parts are few = are.each part few ∙ ap (lies_round g false b) part_means

-- what is found, in the words of a grid that is the same
pub round_told : (h g : Grid) (node : ℕ) (b : BlockAt) (x y : Direction) (r : Round) → h ≡ g → b ≡ block_at h node → x ≡ y → IsRound h false b x r → IsRound g false (block_at g node) y r
round_told h g node b x y r same at on round =
    subst (λ z. IsRound g false (block_at g node) z r) on (subst (λ u. IsRound u false (block_at u node) x r) same (subst (λ c. IsRound h false c x r) at round))

-- ---- the split block that is found

own_step : (g : Grid) (b : BlockAt) (a : Axis) (n s t : ℕ) (r : Round) → IsRound g false b (line_part n a s t) r → step_on a r.toward ≡ 1
own_step g b X n s t r round = elim round.on_x [ inl is ↦ is | inr is ↦ is ]
own_step g b Y n s t r round = elim round.on_y [ inl is ↦ is | inr is ↦ is ]
own_step g b Z n s t r round = elim round.on_z [ inl is ↦ is | inr is ↦ is ]

first_step : (g : Grid) (b : BlockAt) (a : Axis) (n s t : ℕ) (r : Round) → IsRound g false b (line_part n a s t) r → (step_on (next a) r.toward ≡ end_step n s) ⊎ (step_on (next a) r.toward ≡ 1)
first_step g b X n s t r round = round.on_y
first_step g b Y n s t r round = round.on_z
first_step g b Z n s t r round = round.on_x

second_step : (g : Grid) (b : BlockAt) (a : Axis) (n s t : ℕ) (r : Round) → IsRound g false b (line_part n a s t) r → (step_on (next (next a)) r.toward ≡ end_step n t) ⊎ (step_on (next (next a)) r.toward ≡ 1)
second_step g b X n s t r round = round.on_z
second_step g b Y n s t r round = round.on_x
second_step g b Z n s t r round = round.on_y

module _ (g : Grid) (valid : Valid g) (n e : ℕ) (sized : IsSized n e g.shape) (b : BlockAt) (leaf : is_leaf_block g b ≡ true) (a : Axis) (s t : ℕ) (hs : s ≤ n) (ht : t ≤ n) (r : Round)
    (round : IsRound g false b (line_part g.shape.n a s t) r) (u v : ℕ) (first : u ≡ beyond n (step_on (next a) r.toward) s) (second : v ≡ beyond n (step_on (next (next a)) r.toward) t) where
  abbrev d : BlockAt
  d = block_at g r.node

  split : is_split_block g d ≡ true
  split = round.node.kind

  pub no_leaf : is_leaf_block g d ≡ false
  no_leaf = split_leaf g valid d split

  there : IsThere g.shape r.toward b d
  there = there_of g.shape r.toward b d round.node.toward

  inside : InDomain g.shape d
  inside = let finer = split_says g d split in domain_up g.shape finer.0 d finer.3 (valid.tiles.inside finer.0 finer.1)

  pub stands_round : has_finer g a b s t ≡ true
  unfolding has_finer
  stands_round = round.round

  pub first_most : u ≤ n
  first_most = subst (λ x. x ≤ n) (sym first) (beyond_most n (step_on (next a) r.toward) s hs)

  pub second_most : v ≤ n
  second_most = subst (λ x. x ≤ n) (sym second) (beyond_most n (step_on (next (next a)) r.toward) t ht)

  to_shape : (x : ℕ) → x ≤ n → x ≤ g.shape.n
  to_shape x h = subst (λ m. x ≤ m) (sym sized.cells) h

  -- the line is one of that block
  pub same_names : (p : ℕ) → edge_there g.shape a d p u v ≡ edge_there g.shape a b p s t
  same_names p =
      ap₂ (edge_there g.shape a d p) (first ∙ ap (λ m. beyond m (step_on (next a) r.toward) s) (sym sized.cells)) (second ∙ ap (λ m. beyond m (step_on (next (next a)) r.toward) t) (sym sized.cells))
      ∙ beyond_name g.shape r.toward b d (cells_some valid.shape) (inside_on g.shape b (inside_of g valid b leaf)) there a p s t (own_step g b a g.shape.n s t r round) (first_step g b a g.shape.n s t r round)
      (second_step g b a g.shape.n s t r round)

  pub near_round : IsNear g a d u v
  near_round =
      is_near g valid b leaf a s t (to_shape s hs) (to_shape t ht) stands_round d inside split (split_level g valid.tiles valid.shape.max d split) u v (to_shape u first_most) (to_shape v second_most) same_names

-- ---- where no bit stands

no_bit : (d : ℕ) → is_kept 0 d ≡ false
no_bit d = ap (λ m. m % 2 == 1) (div-eq_of_lt (pow_pos d))

pub none_stand : (g : Grid) → Valid g → (n e : ℕ) → IsSized n e g.shape → (b : BlockAt) (parts : ℕ) → AreParts g false b 27 parts → parts ≡ 0 → (a : Axis) (s t : ℕ) → s ≤ n → t ≤ n → has_finer g a b s t ≡ false
none_stand g valid n e sized b parts are none a s t hs ht =
    let some : 0 < n = subst (λ m. 0 < m) sized.cells (cells_some valid.shape) in
    let part = edge_direction n a (line_place a 0 s t).x (line_place a 0 s t).y (line_place a 0 s t).z in
    let few : part < 27 = at_line (λ i j k. edge_direction n a i j k < 27) a n (direction_few n some a) 0 s t (record { along = some; first = hs; second = ht }) in
    sym (bit_means g valid n e sized a s t hs ht part refl b parts are few) ∙ ap (λ m. is_kept m part) none ∙ no_bit part
