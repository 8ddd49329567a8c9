use Rattle.std.proofs.Common.{◌≡◌, ◌+◌, ◌*◌, ◌∷◌, [], List, ℤ, ap, refl, subst, sym, ◌∙◌, arith}
use Rattle.amr_num.specs.declared.Axis.TheVariants.{X}
use Rattle.block_tree.specs.Interior.{array_on, places_along}
use Rattle.check_format.specs.Own.{place}
use Rattle.check_format.specs.Written.{many}
use Rattle.mesh_model.specs.declared.geometry.Shape.{Shape}
use Rattle.mesh_model.specs.declared.fields.values.Var.{Var}
use Rattle.mesh_model.specs.Tree.Kinds.{Grid}
use Rattle.mesh_restore.specs.Filling.{first_places, order_of, row_places}
use Rattle.mesh_restore.proofs.FillLemmas.{filled_as, filled_next, filled_to, map_next, row_ends}
use Rattle.mesh_restore.proofs.filling.fill_row.Goals as goal

pub loop-i-preserved : goal.loop-i-preserved
loop-i-preserved g c =
    let old = c.args.world.now in
    let now = c.loop-i.world in
    let new = c.fill_place-rest.new.world in
    let a = c.args.array in
    let i = c.loop-i.i in
    let j = c.args.j in
    let k = c.args.k in
    let p = place i j k in
    record {
      fit = c.fill_place-rest.ensures.fit;
      filling = filled_as a.group a.axis a.node old.told.grid (16 * j + 256 * k) (order_of p + 1) (order_of (place (i + 1) j k)) _ _ old new c.args.rest.now c.fill_place-rest.result.now
          (sym (map_next (λ x. place x j k) i)) (omega arith)
          (filled_next a.group a.axis a.node (16 * j + 256 * k) (order_of p) (order_of p + 1) (first_places k j i) (λ h. p ∷ []) old now new c.args.rest.now c.loop-i.rest.now c.fill_place-rest.result.now c.loop-i.invariant.filling c.fill_place-rest.ensures.filling);
    }

pub returns-clause-filling : goal.returns-clause-filling
returns-clause-filling g c =
    let old = c.args.world.now in
    let h = old.told.grid in
    let a = c.args.array in
    let j = c.args.j in
    let k = c.args.k in
    let shape : c.shape-n.result ≡ h.shape = c.shape-n.ensures.value ∙ ap (λ (t : Grid). t.shape) c.tree.ensures in
    let end : c.places_along-i-end.result ≡ many h a.group a.axis X =
    c.places_along-i-end.ensures ∙ ap (λ (v : Var). places_along c.shape-n.result.n v X) c.array_on.ensures ∙ ap (λ (s : Shape). places_along s.n (array_on a.group a.axis) X) shape in
    let over = c.loop-i-test.false in
    let within = c.loop-i.auto.i-end in
    let last : c.loop-i.i ≡ many h a.group a.axis X = omega (arith, end, over, within) in
    let m = many h a.group a.axis X in
    filled_to h a.group a.axis a.node (16 * j + 256 * k) (m + (16 * j + 256 * k)) (16 * (j + 1) + 256 * k) (row_places h a.group a.axis k j) old c.loop-i.world c.args.rest.now c.loop-i.rest.now
    (filled_as a.group a.axis a.node h (16 * j + 256 * k) (order_of (place c.loop-i.i j k)) (m + (16 * j + 256 * k)) (first_places k j c.loop-i.i) (row_places h a.group a.axis k j) old c.loop-i.world c.args.rest.now c.loop-i.rest.now (ap (λ x. first_places k j x) last) (ap (λ x. x + (16 * j + 256 * k)) last) c.loop-i.invariant.filling)
    (row_ends h c.requires.leaf.shape a.group a.axis j k)
