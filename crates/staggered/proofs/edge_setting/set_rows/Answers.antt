use Rattle.std.proofs.Common.{◌≡◌, ◌*◌, ◌/◌, ◌%◌, ◌<◌, ℕ, ℤ, rules, subst}
use Rattle.amr_num.specs.declared.Axis.TheVariants.{X, Y, Z}
use Rattle.mesh_model.specs.Geometry.Places.{longer_across}
use Rattle.mesh_model.specs.Fields.ArrayPlaces.{edge_extents, row_of}
use Rattle.mesh_model.specs.Fields.EdgeSplits.{edge_box}
use Rattle.mesh_model.proofs.FieldLemmas.BlockPlaces.{one_more_row}
use Rattle.staggered.specs.EdgeSetting.{edges_set}
use Rattle.staggered.proofs.EdgeSet.{edges_fit, row_as, row_waits}
use Rattle.staggered.proofs.edge_setting.set_rows.Goals as goal

pub loop-m-preserved : goal.loop-m-preserved
loop-m-preserved c =
    let n = c.args.array.n in
    let g = c.args.array.g in
    let at = c.args.target.now.edge in
    let value = c.args.target.now.value in
    let a = at.axis in
    let m = c.loop-m.m in
    let e = edge_extents n g a in
    let b = edge_box n g a in
    let h = longer_across a Y n in
    let old = c.args.values.now in
    let now = c.loop-m.values in
    let new = c.set_row.new.values in
    let hy : c.many.inside.y ≡ h = search rules in
    let hz : c.many.inside.z ≡ longer_across a Z n = search rules in
    let within : m < h * longer_across a Z n = subst (λ w. m < w * longer_across a Z n) hy (subst (λ w. m < c.many.inside.y * w) hz c.loop-m-test.true) in
    let wanted : ℕ → ℕ → ℕ → ℤ = edges_set n g c.args.shape.now a c.args.array.block at value old in
    let meant : ℕ → ℕ → ℕ → ℤ = edges_set n g c.args.shape.now a c.args.array.block at value now in
    one_more_row e b (edges_fit n g a) m wanted old now new within c.loop-m.invariant
    (row_as (row_of e b m) (longer_across a X n) (λ t. meant t (m % h) (m / h)) (λ t. wanted t (m % h) (m / h)) now new
    (row_waits n g c.args.shape.now a c.args.array.block at value old now m c.loop-m.invariant within) c.set_row.ensures)
