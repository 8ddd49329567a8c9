-- What the laws of the keys say.
use Rattle.std.specs.Prelude.{◌≡◌, ◌≢◌, ℕ, ◌<◌}
use Rattle.amr_num.specs.Numbers.{finest_level}
use Rattle.amr_num.specs.declared.BlockAt.{BlockAt}
use Rattle.amr_num.specs.MortonKey.{key}
use Rattle.mesh_model.specs.Geometry.Blocks.{child_block, LiesIn}
use Rattle.morton_key.specs.Keyed.{HasKey}

-- blocks with the same key are the same
abbrev pub KeysAreOfOneBlock : Type 0
KeysAreOfOneBlock = (b c : BlockAt) → HasKey b → HasKey c → key b ≡ key c → b ≡ c

-- a block comes before all other blocks inside it
abbrev pub OuterBlocksComeFirst : Type 0
OuterBlocksComeFirst = (b c : BlockAt) → HasKey c → LiesIn c b → b ≢ c → key b < key c

-- so a parent comes before its children
abbrev pub ParentsComeFirst : Type 0
ParentsComeFirst = (b : BlockAt) (q : ℕ) → b.level < finest_level → q < 8 → key b < key (child_block b q)

-- the children of a block come in the order of the octants
abbrev pub ChildrenGoByOctant : Type 0
ChildrenGoByOctant = (b : BlockAt) (q r : ℕ) → b.level < finest_level → q < r → r < 8 → key (child_block b q) < key (child_block b r)

-- all blocks inside a child come before the next child, and before all blocks inside that
abbrev pub ChildrenKeepTheirBlocks : Type 0
ChildrenKeepTheirBlocks = (b c d : BlockAt) (q r : ℕ) → HasKey c → HasKey d → q < r → r < 8 →
    LiesIn c (child_block b q) → LiesIn d (child_block b r) → key c < key d
