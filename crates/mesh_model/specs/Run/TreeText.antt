-- The text of `print tree`.
use Rattle.std.specs.Prelude.{ℕ, suc, List, [], ◌∷◌, ◌++◌, map, codes, decimal}
use Rattle.std.specs.Fmt.{signed_decimal}
use Rattle.amr_num.specs.declared.BlockAt.{BlockAt}
use Rattle.mesh_model.specs.Tree.Order.{nodes}
use Rattle.mesh_model.specs.Tree.Kinds.{Grid}
use Rattle.mesh_model.specs.Run.Texts.{text_line}
use Rattle.mesh_model.specs.Tree.Reported.{all_across, parent_reported, type_of}

-- a node: its number, level and place, its type, its parent, and its neighbours of the same level across the six sides
abbrev pub node_text : Grid → ℕ → BlockAt → List ℕ
node_text g number b = text_line (
    codes "node" ∷ decimal number ∷ codes "level" ∷ decimal b.level ∷ codes "at" ∷ decimal b.x ∷ decimal b.y ∷ decimal b.z
    ∷ codes "type" ∷ decimal (type_of g b) ∷ codes "parent" ∷ signed_decimal (parent_reported g b)
    ∷ codes "faces" ∷ map signed_decimal (all_across g b))

-- nodes one after the other, the first with this number
abbrev pub nodes_text : Grid → ℕ → List BlockAt → List ℕ
nodes_text g number [] = []
nodes_text g number (b ∷ bs) = node_text g number b ++ nodes_text g (suc number) bs

unfoldable pub tree_text : Grid → List ℕ
tree_text g = nodes_text g 0 (nodes g.leaves)
