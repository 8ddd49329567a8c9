use Rattle.std.proofs.Common.{◌≡◌, ◌<◌, ◌^◌, ◌⊎◌, List, ℤ, length, ap, subst, ◌∙◌}
use Rattle.mesh_model.specs.declared.fields.values.Var.TheVariants.{Cell}
use Rattle.mesh_model.specs.Fields.ArrayPlaces.{IsSize}
use Rattle.mesh_model.specs.Fields.Arrays.{Counts, var_length}
use Rattle.mesh_model.specs.Tree.Kinds.{Grid}
use Rattle.mesh_model.specs.Tree.Order.{nodes}
use Rattle.mesh_model.proofs.FieldLemmas.Worlds.{fit_after, has_array}
use Rattle.block_tree.proofs.Facts.{known}
use Rattle.block_tree.specs.Numbered.{IsNode}
use Rattle.rank_world.specs.Puts.{IsPut}
use Rattle.mesh_model.specs.Tree.ValidGrid.{Valid}
use Rattle.regrid_move.proofs.Puts.{put_in_range}
use Rattle.regrid_move.proofs.tests.set_cell.Goals as goal

pub returns-then-layout-gt0 : goal.returns-then-layout-gt0
returns-then-layout-gt0 g c =
    let n = g.row.N in
    let e = g.row.G in
    let w = c.args.world.now in
    let valid : Valid w.told.grid = subst Valid c.tree.ensures (known c.tree.result.now).valid in
    let size : IsSize n e = record {
      cells = subst (λ m. (m ≡ 4) ⊎ (m ≡ 8)) c.requires.fit.sizes.cells valid.shape.cells;
      guards = subst (λ m. (m ≡ 1) ⊎ ((m ≡ 2) ⊎ (m ≡ 4))) c.requires.fit.sizes.guards valid.shape.guards;
    } in
    let there : IsNode w.told.grid c.args.node = subst (λ m. c.args.node < m) (c.len.ensures.value ∙ ap (λ (h : Grid). length (nodes h.leaves)) c.tree-2.ensures) c.if-node-len.true in
    let declared : 0 < w.told.counts.cells = subst (λ (x : Counts). 0 < x.cells) (c.layout-then-node-len.view_is ∙ c.layout.ensures) c.if-layout-gt0.true in
    let long : length c.put.new.values ≡ var_length n e (Cell 0) = c.put.ensures.size ∙ c.values_mut.ensures.whole in
    record {
      fit = fit_after w (Cell 0) c.args.node c.put.new.values c.requires.fit.one n e size c.requires.fit (has_array n e w (Cell 0) c.args.node c.requires.fit there declared);
      few = c.requires.few;
      cells = c.requires.cells;
      range = put_in_range n e w 0 c.args.node c.put.new.values size c.requires.fit declared there long (subst (λ (xs : List ℤ). IsPut (2 ^ 40) xs c.put.new.values) c.values_mut.ensures.value c.put.ensures) c.requires.range;
    }
