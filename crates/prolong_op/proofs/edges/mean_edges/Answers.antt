use Rattle.std.proofs.Common.{◌≡◌, ◌+◌, ◌*◌, ◌/◌, ◌%◌, ◌<◌, ℕ, ℤ, rules, subst, sym}
use Rattle.amr_num.specs.declared.Axis.TheVariants.{X, Y, Z}
use Rattle.amr_num.specs.Numbers.{Within, number_range}
use Rattle.mesh_model.specs.Geometry.Places.{longer_across}
use Rattle.mesh_model.specs.Fields.ArrayPlaces.{IsRowWritten, edge_extents, number_at, place_in, row_of}
use Rattle.mesh_model.specs.Fields.EdgeSplits.{edge_box}
use Rattle.mesh_model.proofs.FieldLemmas.BlockPlaces.{one_more_row}
use Rattle.prolong_op.specs.EdgeSplitting.{mean_or_old}
use Rattle.prolong_op.proofs.EdgeMeans.{evens_wait, row_of_means}
use Rattle.prolong_op.proofs.Lines.{block_fits, edge_lines, edges_of, row_as}
use Rattle.prolong_op.proofs.edges.mean_edges.Goals as goal

pub mean_row-requires-clause-small : goal.mean_row-requires-clause-small
mean_row-requires-clause-small c =
    let s = c.args.split in
    record {
      at = λ i j k hi hj hk even.
          subst (Within number_range) (sym (evens_wait s.n s.g s.kept c.requires.size c.args.axis c.args.child.now c.loop-m.child c.loop-m.m c.loop-m.invariant i j k hi hj hk even))
          (c.requires.small.at i j k hi hj hk even);
    }

pub loop-m-preserved : goal.loop-m-preserved
loop-m-preserved c =
    let s = c.args.split in
    let a = c.args.axis in
    let n = s.n in
    let g = s.g in
    let m = c.loop-m.m in
    let e = edge_extents n g a in
    let b = edge_box n g a in
    let fits = block_fits n g c.requires.size e (edges_of n a) (edge_lines n g a) in
    let old = c.args.child.now in
    let now = c.loop-m.child in
    let new = c.mean_row.new.child in
    let h = longer_across a Y n in
    let hy : c.along.inside.y ≡ h = search rules in
    let hz : c.along.inside.z ≡ longer_across a Z n = search rules in
    let within : m < h * longer_across a Z n = subst (λ w. m < w * longer_across a Z n) hy (subst (λ w. m < c.along.inside.y * w) hz c.loop-m-test.true) in
    let so_far = c.loop-m.invariant in
    let wanted : ℕ → ℕ → ℕ → ℤ = mean_or_old n g s.kept a (number_at e old) in
    let meant : ℕ → ℕ → ℕ → ℤ = mean_or_old n g s.kept a (number_at e now) in
    let row : IsRowWritten (row_of e b m) (longer_across a X n) (λ t. meant t (m % h) (m / h)) now new =
    subst (λ w. IsRowWritten (place_in e g (g + m % w) (g + m / w)) (longer_across a X n) (λ t. meant t (m % w) (m / w)) now new) hy c.mean_row.ensures in
    one_more_row e b fits m wanted old now new within so_far
    (row_as (row_of e b m) (longer_across a X n) (λ t. meant t (m % h) (m / h)) (λ t. wanted t (m % h) (m / h)) now new (row_of_means n g s.kept c.requires.size a old now m so_far within) row)
