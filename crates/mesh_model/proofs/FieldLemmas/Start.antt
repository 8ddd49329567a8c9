-- The grid whose leaves are the roots is valid.
use Rattle.std.proofs.Common.{◌≡◌, ◌-◌, ◌/◌, ◌^◌, ◌≤◌, length, refl, ap, arith}
use Rattle.amr_num.specs.declared.BlockAt.{BlockAt}
use Rattle.mesh_model.specs.Tree.Kinds.{Grid}
use Rattle.mesh_model.specs.Fields.VariableNames.{VariableNames}
use Rattle.mesh_model.specs.declared.geometry.Shape.{Shape}
use Rattle.mesh_model.specs.Tree.Start.{start_grid}
use Rattle.mesh_model.specs.Fields.Start.{start_mesh}
use Rattle.mesh_model.specs.Tree.ValidGrid.{Tiles, Valid, AllRoots}
use Rattle.mesh_model.specs.Geometry.Blocks.{LiesIn}
use Rattle.mesh_model.specs.Fields.Valid.{ValidMesh}
use Rattle.mesh_model.specs.Geometry.Limits.{IsShape}
use Rattle.mesh_model.proofs.TreeLemmas.Roots.{start_sorted, start_few, start_root, start_every}
use Rattle.mesh_model.proofs.TreeLemmas.Tiling.{nested, same_level, domain_up}

module _ (g : Grid) (shape : IsShape g.shape) (roots : AllRoots g) where
  root_of : BlockAt → BlockAt
  root_of b = record { level = 0; x = b.x / 2 ^ b.level; y = b.y / 2 ^ b.level; z = b.z / 2 ^ b.level }

  in_root : (b : BlockAt) → LiesIn b (root_of b)
  unfolding root_of
  in_root b =
      let deep : b.level - 0 ≡ b.level = omega arith in
      record { level = omega arith; x = ap (λ d. b.x / 2 ^ d) deep; y = ap (λ d. b.y / 2 ^ d) deep; z = ap (λ d. b.z / 2 ^ d) deep }

  start_tiles : Tiles g
  unfolding root_of
  start_tiles = record {
    inside = λ b i. (roots.root b i).0;
    covered = λ b d level. (root_of b, roots.every (root_of b) (domain_up g.shape b (root_of b) (in_root b) d) refl, in_root b);
    once = λ b leaf other level i j p q.
        let one = (roots.root leaf i).1 in
        let two = (roots.root other j).1 in
        same_level leaf other (nested b leaf other p q (omega arith)) (omega arith);
  }

  pub start_valid : Valid g
  start_valid = record {
    shape = shape;
    tiles = start_tiles;
    rule = record { near = λ leaf other i j t. let one = (roots.root leaf i).1 in omega arith };
  }

-- the start mesh of a shape is valid
pub start_mesh_valid : (s : Shape) (names : VariableNames) → IsShape s → length names.cells ≤ 4 → ValidMesh (start_mesh s names)
start_mesh_valid s names shape few = record {
  grid = start_valid (start_grid s) shape (record { root = start_root s; every = start_every s shape });
  order = start_sorted s;
  nodes = start_few s;
  numbers = record { cells = λ v c h. refl; faces = λ f h. refl; edges = λ e h. refl };
  declared = record { few = few; cells = λ v h c. refl; outs = λ v h. refl; faces = λ h f. refl; edges = λ h e. refl };
  range = record { cells = λ v c. omega arith; outs = λ v. omega arith; faces = λ f. omega arith; edges = λ e. omega arith };
  marks = record { refine = λ b h. cc; derefine = λ b h. cc };
}
