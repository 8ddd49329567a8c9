use Rattle.std.proofs.Common.{List, ℤ}
use Rattle.amr_num.specs.declared.Axis.{Axis}
use Rattle.mesh_model.specs.Fields.ArrayPlaces.{IsWritten, face_extents, number_at}
use Rattle.mesh_model.specs.Fields.FaceSplits.{by_axis, face_box}
use Rattle.mesh_model.proofs.FieldLemmas.Beside.{three}
use Rattle.prolong_op.specs.Splitting.{part_or_old}
use Rattle.prolong_op.proofs.FaceSplit.{even_small, split_done}
use Rattle.prolong_op.proofs.faces.split_all.Goals as goal

pub fill_cells-requires-clause-small : goal.fill_cells-requires-clause-small
fill_cells-requires-clause-small c =
    let s = c.args.split in
    let parent : Axis → List ℤ = by_axis c.args.px.now c.args.py.now c.args.pz.now in
    let old : Axis → List ℤ = by_axis c.args.cx.now c.args.cy.now c.args.cz.now in
    let mid : Axis → List ℤ = by_axis c.part_faces.new.child c.part_faces-2.new.child c.part_faces-3.new.child in
    even_small s.n s.g s.q s.kept c.requires.size parent old mid
    (three (λ a. IsWritten (face_extents s.n s.g a) (face_box s.n s.g a) (part_or_old s.n s.g s.q s.kept a (number_at (face_extents s.n s.g a) (parent a)) (number_at (face_extents s.n s.g a) (old a))) (old a) (mid a))
    c.part_faces.ensures c.part_faces-2.ensures c.part_faces-3.ensures)
    c.requires.small

pub returns : goal.returns
returns c =
    let s = c.args.split in
    let parent : Axis → List ℤ = by_axis c.args.px.now c.args.py.now c.args.pz.now in
    let old : Axis → List ℤ = by_axis c.args.cx.now c.args.cy.now c.args.cz.now in
    let mid : Axis → List ℤ = by_axis c.part_faces.new.child c.part_faces-2.new.child c.part_faces-3.new.child in
    let new : Axis → List ℤ = by_axis c.fill_cells.new.cx c.fill_cells.new.cy c.fill_cells.new.cz in
    split_done s.n s.g s.q s.kept c.requires.size parent old mid
    (three (λ a. IsWritten (face_extents s.n s.g a) (face_box s.n s.g a) (part_or_old s.n s.g s.q s.kept a (number_at (face_extents s.n s.g a) (parent a)) (number_at (face_extents s.n s.g a) (old a))) (old a) (mid a))
    c.part_faces.ensures c.part_faces-2.ensures c.part_faces-3.ensures)
    new c.fill_cells.ensures
