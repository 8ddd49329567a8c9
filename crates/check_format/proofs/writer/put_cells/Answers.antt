use Rattle.std.proofs.Common.{◌<◌, ◌/◌, ◌%◌, length, pos, slice_index_or, subst, sym, arith}
use Rattle.std.proofs.Math.Nat.{div-lt_iff_lt-mul}
use Rattle.block_tree.specs.GridOf.{grid_of}
use Rattle.mesh_model.specs.declared.fields.values.Group.TheVariants.{Cell}
use Rattle.mesh_model.specs.Images.Image.{out_bytes}
use Rattle.check_format.specs.Numbered.{IsPut, one_piece}
use Rattle.check_format.specs.Written as written
use Rattle.check_format.proofs.Pieces.{in_first}
use Rattle.check_format.proofs.writer.put_cells.Goals as goal

pub returns-then-place-lt1-clause-put : goal.returns-then-place-lt1-clause-put
returns-then-place-lt1-clause-put g c =
    let grid = grid_of c.args.tree.now in
    let many = written.variable_count grid in
    let same = c.variable_count-many.ensures.value in
    let out = slice_index_or c.args.outs.now (c.args.number / many) (pos 0) in
    let first = in_first (one_piece (out_bytes out)) (written.group_pieces grid (g.V.BlockValues.number c.args.values.now) (Cell (c.args.number / many))) (c.args.number % many) (subst (λ m. c.args.number % m < 1) same c.if-place-lt1.true) in
    subst (λ u. IsPut u c.put_out.result c.args.buf.now c.put_out.new.buf) (sym first)
    (subst (λ m. IsPut (out_bytes (slice_index_or c.args.outs.now (c.args.number / m) (pos 0))) c.put_out.result c.args.buf.now c.put_out.new.buf) same c.put_out.ensures.put)

pub put_group-requires-clause-there : goal.put_group-requires-clause-there
put_group-requires-clause-there g c =
    let same = c.variable_count-many.ensures.value in
    let below : c.args.number / written.variable_count (grid_of c.args.tree.now) < length c.args.names.now.cells = (div-lt_iff_lt-mul (omega arith)).1 c.requires.number in
    c.requires.there.cells (c.args.number / c.variable_count-many.result) (subst (λ m. c.args.number / m < length c.args.names.now.cells) (sym same) below)
