use Rattle.std.proofs.Common.{◌≡◌, ◌+◌, ◌*◌, List, ℤ, ap, flat_map, subst, sym, ◌∙◌, arith}
use Rattle.std.specs.List.{range_with_len}
use Rattle.amr_num.specs.declared.Axis.TheVariants.{Z}
use Rattle.block_tree.specs.Interior.{array_on, places_along}
use Rattle.block_tree.proofs.ByNumber.{flat_next}
use Rattle.check_format.specs.Written.{many}
use Rattle.mesh_model.specs.declared.geometry.Shape.{Shape}
use Rattle.mesh_model.specs.declared.fields.values.Var.{Var}
use Rattle.mesh_model.specs.Tree.Kinds.{Grid}
use Rattle.mesh_restore.specs.Filling.{all_places, plane_places}
use Rattle.mesh_restore.proofs.FillLemmas.{array_ends, filled_as, filled_next, filled_to}
use Rattle.mesh_restore.proofs.filling.fill_array.Goals as goal

pub loop-k-preserved : goal.loop-k-preserved
loop-k-preserved g c =
    let old = c.args.world.now in
    let now = c.loop-k.world in
    let new = c.fill_plane-rest.new.world in
    let a = c.args.array in
    let k = c.loop-k.k in
    record {
      fit = c.fill_plane-rest.ensures.fit;
      filling = filled_as a.group a.axis a.node old.told.grid 0 (256 * (k + 1)) (256 * (k + 1)) _ _ old new c.args.rest.now c.fill_plane-rest.result.now
          (sym (flat_next (plane_places old.told.grid a.group a.axis) k)) (omega arith)
          (filled_next a.group a.axis a.node 0 (256 * k) (256 * (k + 1)) (flat_map (plane_places old.told.grid a.group a.axis) (range_with_len 0 k)) (λ h. plane_places h a.group a.axis k) old now new c.args.rest.now c.loop-k.rest.now c.fill_plane-rest.result.now
          c.loop-k.invariant.filling c.fill_plane-rest.ensures.filling);
    }

pub returns-clause-filling : goal.returns-clause-filling
returns-clause-filling g c =
    let old = c.args.world.now in
    let h = old.told.grid in
    let a = c.args.array in
    let shape : c.shape-n.result ≡ h.shape = c.shape-n.ensures.value ∙ ap (λ (t : Grid). t.shape) c.tree.ensures in
    let end : c.places_along-k-end.result ≡ many h a.group a.axis Z =
    c.places_along-k-end.ensures ∙ ap (λ (v : Var). places_along c.shape-n.result.n v Z) c.array_on.ensures ∙ ap (λ (s : Shape). places_along s.n (array_on a.group a.axis) Z) shape in
    let over = c.loop-k-test.false in
    let within = c.loop-k.auto.k-end in
    let last : c.loop-k.k ≡ many h a.group a.axis Z = omega (arith, end, over, within) in
    let m = many h a.group a.axis Z in
    filled_to h a.group a.axis a.node 0 (256 * m) 4096 (all_places h a.group a.axis) old c.loop-k.world c.args.rest.now c.loop-k.rest.now
    (filled_as a.group a.axis a.node h 0 (256 * c.loop-k.k) (256 * m) (flat_map (plane_places h a.group a.axis) (range_with_len 0 c.loop-k.k)) (all_places h a.group a.axis) old c.loop-k.world c.args.rest.now c.loop-k.rest.now (ap (λ x. flat_map (plane_places h a.group a.axis) (range_with_len 0 x)) last) (ap (λ x. 256 * x) last) c.loop-k.invariant.filling)
    (array_ends h c.requires.leaf.shape a.group a.axis)
