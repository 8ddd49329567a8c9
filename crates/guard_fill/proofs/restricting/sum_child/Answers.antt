use Rattle.std.proofs.Common.{subst, sym}
use Rattle.mesh_model.specs.Fields.FinePlaces.{IsSummed}
use Rattle.guard_fill.proofs.SumsOfVar.{Few, cells_summed, few_cells, few_work, few_work_edges, few_work_faces, work_edges_summed, work_faces_summed, work_summed}
use Rattle.guard_fill.proofs.restricting.sum_child.Goals as goal

pub restrict_cells-requires-clause-few : goal.restrict_cells-requires-clause-few
restrict_cells-requires-clause-few g c =
    let xs = c.args.child.now in
    few_cells g.row.N g.row.G c.args.octant xs xs xs c.in-Cell.field-0 (subst (Few g.row.N g.row.G c.args.octant xs xs xs) c.in-Cell.is c.requires.few)

pub restrict_cells-requires-in-CellWork-clause-few : goal.restrict_cells-requires-in-CellWork-clause-few
restrict_cells-requires-in-CellWork-clause-few g c =
    let xs = c.args.child.now in
    few_work g.row.N g.row.G c.args.octant xs xs xs (subst (Few g.row.N g.row.G c.args.octant xs xs xs) c.in-CellWork.is c.requires.few)

pub restrict_faces-requires-in-FaceWork-clause-few : goal.restrict_faces-requires-in-FaceWork-clause-few
restrict_faces-requires-in-FaceWork-clause-few g c =
    let xs = c.args.child.now in
    few_work_faces g.row.N g.row.G c.args.octant xs xs xs c.in-FaceWork.axis (subst (Few g.row.N g.row.G c.args.octant xs xs xs) c.in-FaceWork.is c.requires.few)

pub restrict_edges-requires-in-EdgeWork-clause-few : goal.restrict_edges-requires-in-EdgeWork-clause-few
restrict_edges-requires-in-EdgeWork-clause-few g c =
    let xs = c.args.child.now in
    few_work_edges g.row.N g.row.G c.args.octant xs xs xs c.in-EdgeWork.axis (subst (Few g.row.N g.row.G c.args.octant xs xs xs) c.in-EdgeWork.is c.requires.few)

pub returns-in-Cell : goal.returns-in-Cell
returns-in-Cell g c =
    let xs = c.args.child.now in
    let new = c.restrict_cells.new.parent in
    subst (λ u. IsSummed g.row.N g.row.G u c.args.octant xs c.args.parent.now new) (sym c.in-Cell.is) (cells_summed g.row.N g.row.G c.args.octant xs c.args.parent.now new c.in-Cell.field-0 c.restrict_cells.ensures)

pub returns-in-CellWork : goal.returns-in-CellWork
returns-in-CellWork g c =
    let xs = c.args.child.now in
    let new = c.restrict_cells-in-CellWork.new.parent in
    subst (λ u. IsSummed g.row.N g.row.G u c.args.octant xs c.args.parent.now new) (sym c.in-CellWork.is) (work_summed g.row.N g.row.G c.args.octant xs c.args.parent.now new c.restrict_cells-in-CellWork.ensures)

pub returns-in-FaceWork : goal.returns-in-FaceWork
returns-in-FaceWork g c =
    let xs = c.args.child.now in
    let new = c.restrict_faces-in-FaceWork.new.parent in
    subst (λ u. IsSummed g.row.N g.row.G u c.args.octant xs c.args.parent.now new) (sym c.in-FaceWork.is) (work_faces_summed g.row.N g.row.G c.args.octant xs c.args.parent.now new c.in-FaceWork.axis c.restrict_faces-in-FaceWork.ensures)

pub returns-in-EdgeWork : goal.returns-in-EdgeWork
returns-in-EdgeWork g c =
    let xs = c.args.child.now in
    let new = c.restrict_edges-in-EdgeWork.new.parent in
    subst (λ u. IsSummed g.row.N g.row.G u c.args.octant xs c.args.parent.now new) (sym c.in-EdgeWork.is) (work_edges_summed g.row.N g.row.G c.args.octant xs c.args.parent.now new c.in-EdgeWork.axis c.restrict_edges-in-EdgeWork.ensures)
