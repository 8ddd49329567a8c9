use Rattle.std.proofs.Common.{subst, sym}
use Rattle.block_tree.specs.GridOf.{grid_of}
use Rattle.check_format.specs.Numbered.{IsPut}
use Rattle.check_format.proofs.NumberPieces.{of_cells, of_edges, of_faces}
use Rattle.check_format.proofs.writer.put_numbers.Goals as goal

pub put_cells-requires-clause-number : goal.put_cells-requires-clause-number
put_cells-requires-clause-number g c =
    let number = g.V.BlockValues.number c.args.values.now in
    (of_cells (grid_of c.args.tree.now) c.args.names.now c.args.outs.now number c.args.number c.cell_count-cells.result (c.cell_count-cells.ensures.value c.args.outs.now number) c.if-number-cells.true).0

pub returns-then-number-cells-clause-put : goal.returns-then-number-cells-clause-put
returns-then-number-cells-clause-put g c =
    let number = g.V.BlockValues.number c.args.values.now in
    let is = of_cells (grid_of c.args.tree.now) c.args.names.now c.args.outs.now number c.args.number c.cell_count-cells.result (c.cell_count-cells.ensures.value c.args.outs.now number) c.if-number-cells.true in
    subst (λ u. IsPut u c.put_cells.result c.args.buf.now c.put_cells.new.buf) (sym is.1) c.put_cells.ensures.put

pub returns-then-number-faces-clause-put : goal.returns-then-number-faces-clause-put
returns-then-number-faces-clause-put g c =
    let number = g.V.BlockValues.number c.args.values.now in
    let is = of_faces (grid_of c.args.tree.now) c.args.names.now c.args.outs.now number c.args.number c.cell_count-cells.result c.face_count-faces.result (c.cell_count-cells.ensures.value c.args.outs.now number) (c.face_count-faces.ensures.value number) c.if-number-cells.false c.if-number-faces.true in
    subst (λ u. IsPut u c.put_group.result c.args.buf.now c.put_group.new.buf) (sym is.2) c.put_group.ensures.put

pub put_group-requires-else-number-faces-clause-there : goal.put_group-requires-else-number-faces-clause-there
put_group-requires-else-number-faces-clause-there g c =
    let number = g.V.BlockValues.number c.args.values.now in
    let is = of_edges (grid_of c.args.tree.now) c.args.names.now c.args.outs.now number c.args.number c.cell_count-cells.result c.face_count-faces.result (c.cell_count-cells.ensures.value c.args.outs.now number) (c.face_count-faces.ensures.value number) c.requires.number c.if-number-cells.false c.if-number-faces.false in
    c.requires.there.edge is.0

pub put_group-requires-else-number-faces-clause-number : goal.put_group-requires-else-number-faces-clause-number
put_group-requires-else-number-faces-clause-number g c =
    let number = g.V.BlockValues.number c.args.values.now in
    let is = of_edges (grid_of c.args.tree.now) c.args.names.now c.args.outs.now number c.args.number c.cell_count-cells.result c.face_count-faces.result (c.cell_count-cells.ensures.value c.args.outs.now number) (c.face_count-faces.ensures.value number) c.requires.number c.if-number-cells.false c.if-number-faces.false in
    is.1

pub returns-else-number-faces-clause-put : goal.returns-else-number-faces-clause-put
returns-else-number-faces-clause-put g c =
    let number = g.V.BlockValues.number c.args.values.now in
    let is = of_edges (grid_of c.args.tree.now) c.args.names.now c.args.outs.now number c.args.number c.cell_count-cells.result c.face_count-faces.result (c.cell_count-cells.ensures.value c.args.outs.now number) (c.face_count-faces.ensures.value number) c.requires.number c.if-number-cells.false c.if-number-faces.false in
    let r = c.put_group-else-number-faces in
    subst (λ u. IsPut u r.result c.args.buf.now r.new.buf) (sym is.2) r.ensures.put
