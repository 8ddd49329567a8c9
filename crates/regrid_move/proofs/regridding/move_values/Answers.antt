use Rattle.std.proofs.Common.{◌≡◌, None, ap, sym, ◌∙◌}
use Rattle.std.specs.Option.{option_or}
use Rattle.mesh_model.specs.Fields.Ranks.{Told}
use Rattle.rank_world.proofs.Found.{first_of}
use Rattle.regrid_move.specs.AxisMoves.{declared_stop, var_of}
use Rattle.regrid_move.specs.Near.{all_stop}
use Rattle.regrid_move.specs.declared.kinds.Staggered.TheVariants.{Edges, Faces}
use Rattle.regrid_move.proofs.AxisMoved.{kind_stays}
use Rattle.regrid_move.proofs.Steps.{none_is}
use Rattle.regrid_move.proofs.regridding.move_values.Goals as goal

pub returns-then-is_some-2-clause-stop : goal.returns-then-is_some-2-clause-stop
returns-then-is_some-2-clause-stop g c contents on_faces on_edges of_cells of_faces of_edges =
    let old = c.args.old.now.told.grid in
    let counts = c.args.old.now.told.counts in
    let moved = c.move_declared-faces in
    let new = moved.new.new.told.grid in
    let no_cells : all_stop old new contents counts.cells ≡ None =
    ap (λ (t : Told). all_stop old t.grid contents counts.cells) moved.ensures.only.told ∙ sym (c.move_all-cells.ensures.stop contents of_cells) ∙ none_is c.move_all-cells.result (sym c.is_some.ensures ∙ c.if-is_some.false) in
    first_of moved.result (declared_stop Edges old new on_edges counts) (sym c.is_some-2.ensures ∙ c.if-is_some-2.true)
    ∙ ap (λ p. option_or p (declared_stop Edges old new on_edges counts)) (moved.ensures.stop on_faces of_faces)
    ∙ ap (λ p. option_or p (option_or (declared_stop Faces old new on_faces counts) (declared_stop Edges old new on_edges counts))) (sym no_cells)

pub returns-clause-faces : goal.returns-clause-faces
returns-clause-faces g c none declared field holds =
    let moved = c.move_declared-faces in
    kind_stays Faces (var_of Edges) c.args.old.now moved.new.new c.move_declared.new.new field c.move_declared.ensures.only (λ a x is. absurd cc)
    (moved.ensures.views (none_is moved.result (sym c.is_some-2.ensures ∙ c.if-is_some-2.false)) declared field holds)

pub returns-clause-stop : goal.returns-clause-stop
returns-clause-stop g c contents on_faces on_edges of_cells of_faces of_edges =
    let old = c.args.old.now.told.grid in
    let counts = c.args.old.now.told.counts in
    let moved = c.move_declared-faces in
    let last = c.move_declared in
    let new = last.new.new.told.grid in
    let no_cells : all_stop old new contents counts.cells ≡ None =
    ap (λ (t : Told). all_stop old t.grid contents counts.cells) (last.ensures.only.told ∙ moved.ensures.only.told) ∙ sym (c.move_all-cells.ensures.stop contents of_cells)
    ∙ none_is c.move_all-cells.result (sym c.is_some.ensures ∙ c.if-is_some.false) in
    let no_faces : declared_stop Faces old new on_faces counts ≡ None =
    ap (λ (t : Told). declared_stop Faces old t.grid on_faces counts) last.ensures.only.told ∙ sym (moved.ensures.stop on_faces of_faces) ∙ none_is moved.result (sym c.is_some-2.ensures ∙ c.if-is_some-2.false) in
    last.ensures.stop on_edges of_edges
    ∙ ap (λ p. option_or p (declared_stop Edges old new on_edges counts)) (sym no_faces)
    ∙ ap (λ p. option_or p (option_or (declared_stop Faces old new on_faces counts) (declared_stop Edges old new on_edges counts))) (sym no_cells)
