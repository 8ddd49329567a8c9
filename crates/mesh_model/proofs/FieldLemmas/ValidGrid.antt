-- What each valid grid gives: it is like a tree, it has kinds of cells, and its split faces and edges are not of the finest level.
use Rattle.std.proofs.Common.{◌≡◌, ◌<◌, true, false, arith}
use Rattle.amr_num.specs.declared.CellAt.{CellAt}
use Rattle.amr_num.specs.declared.FaceAt.{FaceAt}
use Rattle.amr_num.specs.declared.EdgeAt.{EdgeAt}
use Rattle.mesh_model.specs.Geometry.Coordinates.{Inside}
use Rattle.mesh_model.specs.Tree.Kinds.{Grid, is_leaf, is_split, is_split_face, is_split_edge}
use Rattle.mesh_model.specs.Tree.ValidGrid.{Valid}
use Rattle.mesh_model.proofs.FieldLemmas.CellSums.{TreeLike}
use Rattle.mesh_model.proofs.FieldLemmas.CellKinds.{Kinds, kinds_of_tiles}
use Rattle.mesh_model.proofs.FieldLemmas.LeafFaces.{face_top}
use Rattle.mesh_model.proofs.FieldLemmas.LeafEdges.{edge_top}
use Rattle.mesh_model.proofs.TreeLemmas.Tests.{refuted}

pub kinds : (g : Grid) → Valid g → Kinds g
kinds g valid = kinds_of_tiles g valid.tiles valid.shape

pub tree : (g : Grid) → Valid g → TreeLike g
tree g valid = (kinds g valid).tree

-- leaf cells lie in the domain, and are not split
pub leaf_inside : (g : Grid) → Valid g → (c : CellAt) → is_leaf g c ≡ true → Inside g.shape c
leaf_inside g valid c t = (kinds g valid).leaf_range c t

pub leaf_whole : (g : Grid) → Valid g → (c : CellAt) → is_leaf g c ≡ true → is_split g c ≡ false
leaf_whole g valid c t = refuted _ (λ s. let n = (kinds g valid).one c s in cc)

pub deep_face : (g : Grid) → Valid g → (f : FaceAt) → is_split_face g f ≡ true → f.level < 10
deep_face g valid f s = let lt = face_top g (kinds g valid) f s in let top = valid.shape.max in omega arith

pub deep_edge : (g : Grid) → Valid g → (e : EdgeAt) → is_split_edge g e ≡ true → e.level < 10
deep_edge g valid e s = let lt = edge_top g (kinds g valid) e s in let top = valid.shape.max in omega arith
