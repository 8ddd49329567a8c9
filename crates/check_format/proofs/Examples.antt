-- The image of the smallest mesh, worked by hand.
use Rattle.std.proofs.Common.{◌≡◌, [], ◌∷◌, refl}
use Rattle.amr_num.specs.declared.SideKind.TheVariants.{Periodic}
use Rattle.mesh_model.specs.declared.geometry.Shape.{Shape}
use Rattle.mesh_model.specs.Tree.Order.{nodes, begun_at}
use Rattle.mesh_model.specs.Tree.Kinds.{is_split_block}
use Rattle.mesh_model.specs.Fields.Start.{start_mesh}
use Rattle.mesh_model.specs.Tree.Start.{start_leaves}
use Rattle.mesh_model.specs.Fields.VariableNames.{no_names}
use Rattle.mesh_model.specs.Images.Image.{body}

small : Shape
small = record { rx = 1; ry = 1; rz = 1; n = 8; g = 2; min = 0; max = 3; sides = Periodic ∷ Periodic ∷ Periodic ∷ Periodic ∷ Periodic ∷ Periodic ∷ [] }

first_bytes : body (start_mesh small no_names) 0 ≡ 0x41 ∷ 0x4d ∷ 0x52 ∷ 0x43 ∷ 0x48 ∷ 0x4b ∷ 0x30 ∷ 0x31 ∷ 0 ∷ 8 ∷ 2 ∷ 1 ∷ 1 ∷ 1 ∷ 0 ∷ 3 ∷ 0 ∷ 0 ∷ 0 ∷ 0 ∷ 0 ∷ 0 ∷ 0 ∷ 0 ∷ 0 ∷ 1 ∷ 0 ∷ 0 ∷ 0 ∷ 0 ∷ []
unfolding body small start_leaves nodes begun_at is_split_block
first_bytes = refl
