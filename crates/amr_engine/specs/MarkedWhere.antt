-- Marks by what leaves contain.
use Rattle.std.specs.Prelude.{◌≡◌, ℕ, ◌<◌, Bool, true, not, ◌&&◌, ◌||◌, nat_lt, ℤ, int_le}
use Rattle.std.specs.List.{list_any}
use Rattle.amr_num.specs.declared.BlockAt.{BlockAt}
use Rattle.amr_num.specs.declared.CellAt.{CellAt}
use Rattle.block_tree.specs.Marked.{derefine_of, refine_of}
use Rattle.block_tree.specs.Numbered.{block_at}
use Rattle.block_tree.specs.declared.marks.Marks.{Marks}
use Rattle.mesh_model.specs.declared.geometry.Shape.{Shape}
use Rattle.mesh_model.specs.Fields.Plain.{Mesh}
use Rattle.mesh_model.specs.Fields.Ranks.{WorldState}
use Rattle.mesh_model.specs.Fields.Setting.{derefine_where, has_cell, refine_where}
use Rattle.mesh_model.specs.Geometry.Places.{places}
use Rattle.mesh_model.specs.Tree.Kinds.{Grid, is_leaf_block}
use Rattle.rank_world.specs.Holding.{LeavesHold}
use Rattle.amr_engine.specs.declared.marking.Where.{Where}
use Rattle.amr_engine.specs.declared.marking.Where.TheVariants.{DerefineBelow, RefineAbove}

-- a content decides: it is above the number, or it is not below
abbrev pub passes : Where → ℤ → Bool
passes (RefineAbove above) content = not (int_le content above)
passes (DerefineBelow below) content = int_le below content

-- some number of a plane does, and some of a block
abbrev pub plane_has : ℕ → (ℕ → ℕ → ℕ → ℤ) → Where → ℕ → Bool
plane_has n numbers rule k = list_any (λ j. list_any (λ i. passes rule (numbers i j k)) (places n)) (places n)

abbrev pub block_has : ℕ → (ℕ → ℕ → ℕ → ℤ) → Where → Bool
block_has n numbers rule = list_any (plane_has n numbers rule) (places n)

-- a leaf gets the mark: where it is to be refined it stands below the greatest level and some content decides; where it is to be merged it
-- stands above the least level and none does
abbrev pub is_found_by : Shape → BlockAt → Bool → Where → Bool
is_found_by s b decides (RefineAbove above) = nat_lt b.level s.max && decides
is_found_by s b decides (DerefineBelow below) = nat_lt s.min b.level && not decides

abbrev pub is_found : Grid → (CellAt → ℤ) → Where → BlockAt → Bool
is_found g content rule b = is_leaf_block g b && is_found_by g.shape b (has_cell g.shape.n b (λ c. passes rule (content c))) rule

-- a node is such a leaf
abbrev pub IsFoundAt : WorldState → ℕ → Where → ℕ → Bool → Type 0
IsFoundAt w v rule node result = (content : CellAt → ℤ) → LeavesHold w v content → result ≡ is_found w.told.grid content rule (block_at w.told.grid node)

-- a block may get the mark
abbrev pub MayMark : Grid → Where → BlockAt → Type 0
MayMark g (RefineAbove above) b = (is_leaf_block g b ≡ true) × (b.level < g.shape.max)
MayMark g (DerefineBelow below) b = (is_leaf_block g b ≡ true) × (g.shape.min < b.level)

-- the marks of a block, with those that the rule adds
abbrev pub refine_with : Where → Bool → Bool → Bool
refine_with (RefineAbove above) added before = added || before
refine_with (DerefineBelow below) added before = before

abbrev pub derefine_with : Where → Bool → Bool → Bool
derefine_with (RefineAbove above) added before = before
derefine_with (DerefineBelow below) added before = added || before

-- the leaves that are found got the mark
pub record IsMarkedWhere (w : WorldState) (v : ℕ) (rule : Where) (old new : Marks) : Type 0 where
  pub refine : (content : CellAt → ℤ) → LeavesHold w v content → (b : BlockAt) →
      refine_of w.told.grid new b ≡ refine_with rule (is_found w.told.grid content rule b) (refine_of w.told.grid old b)
  pub derefine : (content : CellAt → ℤ) → LeavesHold w v content → (b : BlockAt) →
      derefine_of w.told.grid new b ≡ derefine_with rule (is_found w.told.grid content rule b) (derefine_of w.told.grid old b)

-- the number that the rule compares with
abbrev pub number_of : Where → ℤ
number_of (RefineAbove above) = above
number_of (DerefineBelow below) = below

-- the mesh after that
abbrev pub marked_where : Mesh → ℕ → Where → Mesh
marked_where m var (RefineAbove above) = refine_where m var above
marked_where m var (DerefineBelow below) = derefine_where m var below
