use Rattle.std.proofs.Common.{◌≡◌, ◌*◌, ◌/◌, ◌%◌, ap, arith, subst, ◌∙◌}
use Rattle.std.specs.Prelude.{if◌then◌else◌}
use Rattle.mesh_model.specs.Fields.ArrayPlaces.{AreRowsWritten, cell_extents, interior}
use Rattle.mesh_model.specs.Geometry.Places.{in_block}
use Rattle.mesh_model.proofs.FieldLemmas.BlockPlaces.{all_rows, interior_fits, next_row, one_more_row}
use Rattle.amr_engine.specs.Filling.{filled_cell}
use Rattle.amr_engine.specs.Regions.{covers}
use Rattle.amr_engine.proofs.filling.fill_block.Goals as goal

pub loop-m-preserved : goal.loop-m-preserved
loop-m-preserved c =
    let n = c.args.n in
    let g = c.args.g in
    let m = c.loop-m.m in
    let e = cell_extents n g in
    let b = interior n g in
    let old = c.args.values.now in
    let wanted = filled_cell n g old c.args.block c.args.fill in
    let row = c.fill_row_of.ensures in
    one_more_row e b (interior_fits n g) m wanted old c.loop-m.values c.fill_row_of.new.values c.loop-m-test.true c.loop-m.invariant (record {
      size = row.size;
      here = λ t h. row.here t h
          ∙ ap (λ x. if covers c.args.fill.region (in_block n c.args.block t (m % n) (m / n)) then c.args.fill.value else x)
          (next_row e b (interior_fits n g) m wanted old c.loop-m.values c.loop-m-test.true c.loop-m.invariant t h);
      below = row.below;
      above = row.above;
    })

pub returns : goal.returns
returns c =
    let e = cell_extents c.args.n c.args.g in
    let b = interior c.args.n c.args.g in
    let old = c.args.values.now in
    let wanted = filled_cell c.args.n c.args.g old c.args.block c.args.fill in
    let last : c.loop-m.m ≡ c.args.n * c.args.n = omega arith in
    all_rows e b (interior_fits c.args.n c.args.g) wanted old c.loop-m.values (subst (λ m. AreRowsWritten m e b wanted old c.loop-m.values) last c.loop-m.invariant)
