use Rattle.std.proofs.Common.{◌≡◌, ◌+◌, ◌*◌, List, ℤ, ap, flat_map, subst, sym, ◌∙◌, arith}
use Rattle.std.specs.List.{range_with_len}
use Rattle.amr_num.specs.declared.Axis.TheVariants.{Y}
use Rattle.block_tree.specs.Interior.{array_on, places_along}
use Rattle.block_tree.proofs.ByNumber.{flat_next}
use Rattle.check_format.specs.Written.{many}
use Rattle.mesh_model.specs.declared.geometry.Shape.{Shape}
use Rattle.mesh_model.specs.declared.fields.values.Var.{Var}
use Rattle.mesh_model.specs.Tree.Kinds.{Grid}
use Rattle.mesh_restore.specs.Filling.{plane_places, row_places}
use Rattle.mesh_restore.proofs.FillLemmas.{filled_as, filled_next, filled_to, plane_ends}
use Rattle.mesh_restore.proofs.filling.fill_plane.Goals as goal

pub loop-j-preserved : goal.loop-j-preserved
loop-j-preserved g c =
    let old = c.args.world.now in
    let now = c.loop-j.world in
    let new = c.fill_row-rest.new.world in
    let a = c.args.array in
    let j = c.loop-j.j in
    let k = c.args.k in
    record {
      fit = c.fill_row-rest.ensures.fit;
      filling = filled_as a.group a.axis a.node old.told.grid (256 * k) (16 * (j + 1) + 256 * k) (16 * (j + 1) + 256 * k) _ _ old new c.args.rest.now c.fill_row-rest.result.now
          (sym (flat_next (row_places old.told.grid a.group a.axis k) j)) (omega arith)
          (filled_next a.group a.axis a.node (256 * k) (16 * j + 256 * k) (16 * (j + 1) + 256 * k) (flat_map (row_places old.told.grid a.group a.axis k) (range_with_len 0 j)) (λ h. row_places h a.group a.axis k j) old now new c.args.rest.now c.loop-j.rest.now c.fill_row-rest.result.now
          c.loop-j.invariant.filling c.fill_row-rest.ensures.filling);
    }

pub returns-clause-filling : goal.returns-clause-filling
returns-clause-filling g c =
    let old = c.args.world.now in
    let h = old.told.grid in
    let a = c.args.array in
    let k = c.args.k in
    let shape : c.shape-n.result ≡ h.shape = c.shape-n.ensures.value ∙ ap (λ (t : Grid). t.shape) c.tree.ensures in
    let end : c.places_along-j-end.result ≡ many h a.group a.axis Y =
    c.places_along-j-end.ensures ∙ ap (λ (v : Var). places_along c.shape-n.result.n v Y) c.array_on.ensures ∙ ap (λ (s : Shape). places_along s.n (array_on a.group a.axis) Y) shape in
    let over = c.loop-j-test.false in
    let within = c.loop-j.auto.j-end in
    let last : c.loop-j.j ≡ many h a.group a.axis Y = omega (arith, end, over, within) in
    let m = many h a.group a.axis Y in
    filled_to h a.group a.axis a.node (256 * k) (16 * m + 256 * k) (256 * (k + 1)) (plane_places h a.group a.axis k) old c.loop-j.world c.args.rest.now c.loop-j.rest.now
    (filled_as a.group a.axis a.node h (256 * k) (16 * c.loop-j.j + 256 * k) (16 * m + 256 * k) (flat_map (row_places h a.group a.axis k) (range_with_len 0 c.loop-j.j)) (plane_places h a.group a.axis k) old c.loop-j.world c.args.rest.now c.loop-j.rest.now (ap (λ x. flat_map (row_places h a.group a.axis k) (range_with_len 0 x)) last) (ap (λ x. 16 * x + 256 * k) last) c.loop-j.invariant.filling)
    (plane_ends h c.requires.leaf.shape a.group a.axis k)
