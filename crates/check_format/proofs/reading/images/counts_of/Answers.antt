use Rattle.std.proofs.Common.{◌≡◌, Bool, ℕ, List, Option, is_some, if◌then◌else◌, sym, ap, ◌∙◌}
use Rattle.std.specs.Option.{option_copied}
use Rattle.block_tree.specs.GridOf.{grid_of}
use Rattle.block_tree.proofs.Facts.{known}
use Rattle.check_format.proofs.Counting.{cells_counted, edges_counted, faces_counted, if_declared}
use Rattle.check_format.specs.Counts.{number_count}
use Rattle.mesh_model.specs.declared.fields.values.Group.TheVariants.{Edge, Face}
use Rattle.mesh_model.specs.Images.Image.{leaf_edges, leaf_faces}
use Rattle.check_format.proofs.Counting.{copied_some}
use Rattle.check_format.proofs.reading.images.counts_of.Goals as goal

pub returns : goal.returns
returns c =
    let t = c.args.tree.now in
    let g = grid_of t in
    let tree = known t in
    let face = c.is_some.ensures ∙ sym (copied_some c.face.result) ∙ ap is_some c.face.ensures.name in
    let edge = c.is_some-2.ensures ∙ sym (copied_some c.edge.result) ∙ ap is_some c.edge.ensures.name in
    record {
      variables = c.cells.ensures.count;
      cells = c.number_count.ensures ∙ cells_counted g 0;
      faces = c.declared_count.ensures ∙ ap (λ u. if u then number_count Face g else 0) face ∙ if_declared (is_some c.args.names.now.face) (number_count Face g) (leaf_faces g) (faces_counted g tree.valid tree.order);
      edges = c.declared_count-2.ensures ∙ ap (λ u. if u then number_count Edge g else 0) edge ∙ if_declared (is_some c.args.names.now.edge) (number_count Edge g) (leaf_edges g) (edges_counted g tree.valid tree.order);
    }
