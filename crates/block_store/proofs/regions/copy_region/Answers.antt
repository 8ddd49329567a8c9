use Rattle.std.proofs.Common.{◌+◌, ℕ, ℤ, arith}
use Rattle.mesh_model.specs.Fields.ArrayPlaces.{number_at}
use Rattle.block_store.proofs.BoxRows.{all_planes, no_more_row, no_plane, one_more_at, one_more_plane}
use Rattle.block_store.specs.Regions.{box_of}
use Rattle.block_store.proofs.regions.copy_region.Goals as goal

pub loop-k-init : goal.loop-k-init
loop-k-init c =
    let wanted : ℕ → ℕ → ℕ → ℤ = λ i j k. number_at c.args.extents c.args.from.now (c.args.at.x + i) (c.args.at.y + j) (c.args.at.z + k) in
    no_plane c.args.extents (box_of c.args.region) c.requires.fits wanted c.args.to.now

pub loop-j-init : goal.loop-j-init
loop-j-init c =
    let wanted : ℕ → ℕ → ℕ → ℤ = λ i j k. number_at c.args.extents c.args.from.now (c.args.at.x + i) (c.args.at.y + j) (c.args.at.z + k) in
    no_more_row c.args.extents (box_of c.args.region) c.requires.fits wanted c.args.to.now c.loop-k.k c.loop-k.to c.loop-k.invariant

pub loop-j-preserved : goal.loop-j-preserved
loop-j-preserved c =
    let wanted : ℕ → ℕ → ℕ → ℤ = λ i j k. number_at c.args.extents c.args.from.now (c.args.at.x + i) (c.args.at.y + j) (c.args.at.z + k) in
    one_more_at c.args.extents (box_of c.args.region) c.requires.fits wanted c.args.to.now c.loop-j.j c.loop-k.k c.loop-j.to c.copy_row.new.to
    c.loop-j-test.true c.loop-k-test.true c.loop-j.invariant c.copy_row.ensures

pub loop-k-preserved : goal.loop-k-preserved
loop-k-preserved c =
    let wanted : ℕ → ℕ → ℕ → ℤ = λ i j k. number_at c.args.extents c.args.from.now (c.args.at.x + i) (c.args.at.y + j) (c.args.at.z + k) in
    one_more_plane c.args.extents (box_of c.args.region) c.requires.fits wanted c.args.to.now c.loop-j.j c.loop-k.k c.loop-j.to (omega arith) c.loop-j.invariant

pub returns : goal.returns
returns c =
    let wanted : ℕ → ℕ → ℕ → ℤ = λ i j k. number_at c.args.extents c.args.from.now (c.args.at.x + i) (c.args.at.y + j) (c.args.at.z + k) in
    all_planes c.args.extents (box_of c.args.region) c.requires.fits wanted c.args.to.now c.loop-k.k c.loop-k.to (omega arith) c.loop-k.invariant
