use Rattle.std.proofs.Common.{◌≡◌, ◌^◌, ◌<◌, List, ℤ, length, refl, sym, ap, subst, ◌∙◌, inl}
use Rattle.amr_num.specs.declared.Axis.TheVariants.{X}
use Rattle.mesh_model.specs.Fields.ArrayPlaces.{IsSize}
use Rattle.mesh_model.specs.Fields.Arrays.{HasVar, array_in, var_length}
use Rattle.mesh_model.specs.Fields.Ranks.{rank_at, world_with}
use Rattle.mesh_model.specs.Tree.Kinds.{Grid}
use Rattle.mesh_model.specs.Tree.Order.{nodes}
use Rattle.mesh_model.proofs.FieldLemmas.Worlds.{fit_after, has_array}
use Rattle.block_tree.specs.Numbered.{IsNode}
use Rattle.rank_world.specs.Holding.{face_var}
use Rattle.rank_world.specs.Puts.{IsPut}
use Rattle.flux_conserve.specs.FaceArrays.{FacesWithin}
use Rattle.flux_conserve.proofs.Puts.{has_one, put_small}
use Rattle.flux_conserve.proofs.tests.set_face.Goals as goal

size : IsSize 4 1
size = record { cells = inl refl; guards = inl refl }

pub returns-then-node-len-clause-fit : goal.returns-then-node-len-clause-fit
returns-then-node-len-clause-fit c =
    let w = c.args.world.now in
    let var = c.face_var.result in
    let there : IsNode w.told.grid c.args.node = subst (λ m. c.args.node < m) (c.len.ensures.value ∙ ap (λ (h : Grid). length (nodes h.leaves)) c.tree.ensures) c.if-node-len.true in
    fit_after w var c.args.node c.put.new.values c.requires.fit.one 4 1 size c.requires.fit (has_array 4 1 w var c.args.node c.requires.fit there (subst (HasVar w.told.counts) (sym c.face_var.ensures.value) (has_one c.args.work X w.told.counts c.requires.declared)))

pub returns-then-node-len-clause-small : goal.returns-then-node-len-clause-small
returns-then-node-len-clause-small c =
    let w = c.args.world.now in
    let work = c.args.work in
    let is : c.face_var.result ≡ face_var work X = c.face_var.ensures.value in
    let there : IsNode w.told.grid c.args.node = subst (λ m. c.args.node < m) (c.len.ensures.value ∙ ap (λ (h : Grid). length (nodes h.leaves)) c.tree.ensures) c.if-node-len.true in
    let long : length c.put.new.values ≡ var_length 4 1 (face_var work X) = c.put.ensures.size ∙ c.values_mut.ensures.whole ∙ ap (var_length 4 1) is in
    subst (λ v. FacesWithin work (world_with w 0 v c.args.node c.put.new.values) (2 ^ 56)) (sym is)
    (put_small work work 4 1 w X c.args.node c.put.new.values size c.requires.fit (has_one work X w.told.counts c.requires.declared) there long
    (subst (λ (xs : List ℤ). IsPut (2 ^ 56) xs c.put.new.values) (c.values_mut.ensures.value ∙ ap (λ v. array_in (rank_at w 0).own.values v c.args.node) is) c.put.ensures) c.requires.small)
