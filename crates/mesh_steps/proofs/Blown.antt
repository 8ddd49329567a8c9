-- Work faces that hold the mesh's fluxes.
use Rattle.std.proofs.Common.{ℕ, ℤ, refl, subst, sym, ◌∙◌}
use Rattle.amr_num.specs.declared.FaceAt.{FaceAt}
use Rattle.rank_world.specs.Holding.{IsLeafNode}
use Rattle.amr_num.specs.declared.CellAt.{CellAt}
use Rattle.block_tree.specs.Numbered.{block_at}
use Rattle.flux_conserve.specs.Jumps.{jumped}
use Rattle.flux_conserve.specs.Work.{HasNoJump, IsJumpNode, OnlyWorkFaces, WorkHolds, WorkWithin}
use Rattle.flux_conserve.proofs.Fields.{fluxes_jumped}
use Rattle.mesh_model.specs.Fields.Advect.{Speeds, flux, leaf_flux}
use Rattle.mesh_model.specs.Fields.Ranks.{Told, WorldState}
use Rattle.mesh_model.specs.Tree.ValidGrid.{Valid}

-- the jumped fluxes of the leaves' own steps are the mesh's
pub fluxes_held : (w : WorldState) (content : CellAt → ℤ) (n : Speeds) → Valid w.told.grid → WorkHolds w (jumped w.told.grid (leaf_flux w.told.grid content n)) → WorkHolds w (flux w.told.grid content n)
fluxes_held w content n valid holds node a leaf = record {
  at = λ i j k hi hj hk. (holds node a leaf).at i j k hi hj hk ∙ sym (fluxes_jumped w.told.grid content n (block_at w.told.grid node) a valid leaf.own.leaf i j k hi hj hk);
}

-- where no leaf is at a jump there are no such work faces
module _ (w : WorldState) (none : HasNoJump w.told.grid) where
  no_jump : (node : ℕ) → IsJumpNode w.told.grid node → ⊥
  no_jump node jump = let at = jump.jump in let calm = none node jump.own in cc

  pub none_held : (field : FaceAt → ℤ) → WorkHolds w field
  none_held field node a jump = absurd (no_jump node jump)

  pub none_within : (most : ℕ) → WorkWithin w most
  none_within most node a jump = absurd (no_jump node jump)

-- work faces that stay, and that change once more
pub none_flowed : (w : WorldState) → OnlyWorkFaces w w
none_flowed w = record { told = refl; others = λ u k apart. refl }

pub then_corrected : (a b c : WorldState) → OnlyWorkFaces a b → OnlyWorkFaces b c → OnlyWorkFaces a c
then_corrected a b c ab bc = record {
  told = bc.told ∙ ab.told;
  others = λ u k apart. bc.others u k (λ d is leaf. apart d is (subst (λ (t : Told). IsLeafNode t.grid k) ab.told leaf)) ∙ ab.others u k apart;
}
