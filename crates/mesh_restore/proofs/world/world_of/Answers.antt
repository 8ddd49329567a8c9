use Rattle.std.proofs.Common.{◌≡◌, ◌<◌, ap, length, map, rules, subst, sym, ◌∙◌}
use Rattle.block_store.specs.Held.{numbers}
use Rattle.block_tree.specs.GridOf.{grid_of}
use Rattle.mesh_model.specs.Fields.Arrays.{Counts}
use Rattle.mesh_model.specs.Fields.RangeWalk.{cells_walked}
use Rattle.mesh_model.specs.Fields.Ranks.{Told}
use Rattle.mesh_model.specs.Images.Image.{leaf_edges, leaf_faces}
use Rattle.mesh_model.specs.declared.fields.values.Var.TheVariants as vars
use Rattle.mesh_restore.proofs.WorldLemmas.{cells_stay, cells_stored, edges_small, edges_stored, faces_small, faces_stay, faces_stored, world_is}
use Rattle.mesh_restore.proofs.world.world_of.Goals as goal

pub fill_faces-requires : goal.fill_faces-requires
fill_faces-requires g c =
    let small = faces_small g.row.N g.row.G (grid_of c.args.tree) c.args.layout c.in_ok-world.world c.fill_cells.new.world c.in_ok-world.ensures c.fill_cells.ensures.only in
    (search rules, (c.fill_cells.ensures.fit, (small, c.requires.faces)))

pub fill_edges-requires : goal.fill_edges-requires
fill_edges-requires g c =
    let small = edges_small g.row.N g.row.G (grid_of c.args.tree) c.args.layout c.in_ok-world.world c.fill_cells.new.world c.in_ok-world.ensures c.fill_cells.ensures.only c.fill_faces.new.world c.fill_faces.ensures.only in
    (search rules, (c.fill_faces.ensures.fit, (small, c.requires.edges)))

pub returns-clause-mesh : goal.returns-clause-mesh
returns-clause-mesh g c = λ m valid is.
    let grid = grid_of c.args.tree in
    let counts = c.args.layout in
    let lists = numbers c.args.cells.now in
    let new = c.in_ok-world.ensures in
    let now = c.fill_cells.new.world in
    let later = c.fill_faces.new.world in
    let last = c.fill_edges.new.world in
    let cells = c.fill_cells.ensures in
    let faces = c.fill_faces.ensures in
    let edges = c.fill_edges.ensures in
    let now_grid : now.told.grid ≡ grid = ap (λ (t : Told). t.grid) cells.only.told ∙ new.grid_is in
    let now_counts : now.told.counts ≡ counts = ap (λ (t : Told). t.counts) cells.only.told ∙ new.counts_are in
    let later_grid : later.told.grid ≡ grid = ap (λ (t : Told). t.grid) faces.only.told ∙ now_grid in
    let later_counts : later.told.counts ≡ counts = ap (λ (t : Told). t.counts) faces.only.told ∙ now_counts in
    world_is m grid counts lists c.args.faces.now c.args.edges.now is last
    (ap (λ (t : Told). t.grid) edges.only.told ∙ later_grid)
    (ap (λ (t : Told). t.counts) edges.only.told ∙ later_counts)
    (λ v few.
    cells_stay now last v (m.cells v) (edges.only.told ∙ faces.only.told)
    (λ node. edges.only.others (vars.Cell v) node (λ a e. cc) ∙ faces.only.others (vars.Cell v) node (λ a e. cc))
    (cells.contents v (m.cells v) (subst (λ k. v < k) (sym c.requires.cells) few)
    (cells_stored m grid counts lists c.args.faces.now c.args.edges.now is v few ∙ ap (λ h. map (m.cells v) (cells_walked h)) (sym new.grid_is))))
    (λ some.
    faces_stay later last m.faces edges.only.told (λ a node. edges.only.others (vars.Face a) node (λ b e. cc))
    (faces.holds (subst (λ (n : Counts). 0 < n.faces) (sym now_counts) some) m.faces
    (faces_stored m grid counts lists c.args.faces.now c.args.edges.now is some ∙ ap (λ h. map m.faces (leaf_faces h)) (sym now_grid))))
    (λ some.
    edges.holds (subst (λ (n : Counts). 0 < n.edges) (sym later_counts) some) m.edges
    (edges_stored m grid counts lists c.args.faces.now c.args.edges.now is some ∙ ap (λ h. map m.edges (leaf_edges h)) (sym later_grid)))
