use Rattle.std.proofs.Common.{◌≡◌, Option, Some, None, ap, subst, sym, ◌∙◌}
use Rattle.std.specs.Option.{option_map}
use Rattle.mesh_model.specs.declared.fields.spot.RangeStop.{RangeStop}
use Rattle.block_tree.specs.Numbered.{block_at}
use Rattle.regrid_move.specs.AxisMoves.{FieldOf, HasAxes, edge_range, face_range, first_stop}
use Rattle.regrid_move.proofs.ranging.leaf_stop.Goals as goal

pub returns-in-None : goal.returns-in-None
returns-in-None g c =
    let w = c.args.world.now in
    let none : Option RangeStop = None in
    subst (λ k. (field : FieldOf k) → HasAxes k w field c.args.node → none ≡ first_stop k w.told.grid field (block_at w.told.grid c.args.node)) (sym c.in-Faces.is)
    (λ field has. ap (option_map face_range) (sym c.in-None.is ∙ c.first_face_above.ensures field has))

pub returns-in-Some : goal.returns-in-Some
returns-in-Some g c =
    let w = c.args.world.now in
    let some : Option RangeStop = Some c.face_stop.result in
    subst (λ k. (field : FieldOf k) → HasAxes k w field c.args.node → some ≡ first_stop k w.told.grid field (block_at w.told.grid c.args.node)) (sym c.in-Faces.is)
    (λ field has. ap Some c.face_stop.ensures ∙ ap (option_map face_range) (sym c.in-Some.is ∙ c.first_face_above.ensures field has))

pub returns-in-None-first_edge_above : goal.returns-in-None-first_edge_above
returns-in-None-first_edge_above g c =
    let w = c.args.world.now in
    let none : Option RangeStop = None in
    subst (λ k. (field : FieldOf k) → HasAxes k w field c.args.node → none ≡ first_stop k w.told.grid field (block_at w.told.grid c.args.node)) (sym c.in-Edges.is)
    (λ field has. ap (option_map edge_range) (sym c.in-None-first_edge_above.is ∙ c.first_edge_above.ensures field has))

pub returns-in-Some-first_edge_above : goal.returns-in-Some-first_edge_above
returns-in-Some-first_edge_above g c =
    let w = c.args.world.now in
    let some : Option RangeStop = Some c.edge_stop.result in
    subst (λ k. (field : FieldOf k) → HasAxes k w field c.args.node → some ≡ first_stop k w.told.grid field (block_at w.told.grid c.args.node)) (sym c.in-Edges.is)
    (λ field has. ap Some c.edge_stop.ensures ∙ ap (option_map edge_range) (sym c.in-Some-first_edge_above.is ∙ c.first_edge_above.ensures field has))
