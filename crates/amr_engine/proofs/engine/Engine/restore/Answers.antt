use Rattle.std.proofs.Common.{length, sym, subst, ap, ◌∙◌, arith}
use Rattle.block_store.specs.Held.{numbers}
use Rattle.mesh_model.specs.Fields.Arrays.{Counts}
use Rattle.mesh_model.specs.Fields.Ranks.{IsSized}
use Rattle.mesh_model.specs.Images.Image.{mesh_of}
use Rattle.mesh_restore.specs.Filling.{AreWithin}
use Rattle.mesh_restore.specs.Restoring.{IsStoredOf}
use Rattle.mesh_restore.proofs.WorldLemmas.{stored_edges, stored_faces}
use Rattle.block_tree.specs.GridOf.{grid_of}
use Rattle.check_format.specs.ReadImages.{stored_in}
use Rattle.amr_engine.proofs.Restored.{read_lists, read_names, read_valid, restored_is, restored_laid, restored_shape, restored_valid}
use Rattle.amr_engine.proofs.engine.Engine.restore.Goals as goal

pub world_of-requires : goal.world_of-requires
world_of-requires g c =
    let im = c.args.image in
    let was = c.requires.read in
    let n : Counts = record { cells = c.cells.result; faces = c.face_variables.result; edges = c.edge_variables.result } in
    let lists = read_lists im was n c.cells.ensures.count c.face_variables.ensures.any c.edge_variables.ensures.any in
    let m = mesh_of (stored_in im) in (
      omega arith,
      (
        subst (IsSized _ _) (sym was.whole.shape) c.requires.sizes,
        (
          (let many = ap (λ xs. length xs) c.deref.ensures.value in let all = was.whole.cells in let count = c.cells.ensures.count in omega (arith, many, all, count)),
          (
            subst (AreWithin _) (sym c.deref-2.ensures.value) (stored_faces m (grid_of im.tree) n (numbers im.cells.items) im.faces.items im.edges.items (read_valid im was) lists),
            subst (AreWithin _) (sym c.deref-3.ensures.value) (stored_edges m (grid_of im.tree) n (numbers im.cells.items) im.faces.items im.edges.items (read_valid im was) lists),
          ),
        ),
      ),
    )

pub invariant_of-result : goal.invariant_of-result
invariant_of-result g c =
    let im = c.args.image in
    let was = c.requires.read in
    let n : Counts = record { cells = c.cells.result; faces = c.face_variables.result; edges = c.edge_variables.result } in
    let lists = read_lists im was n c.cells.ensures.count c.face_variables.ensures.any c.edge_variables.ensures.any in
    let m = mesh_of (stored_in im) in
    let handed =
    subst (λ xs. IsStoredOf m (grid_of im.tree) n (numbers c.deref.result.now) c.deref-2.result.now xs) (sym c.deref-3.ensures.value)
    (subst (λ xs. IsStoredOf m (grid_of im.tree) n (numbers c.deref.result.now) xs im.edges.items) (sym c.deref-2.ensures.value) (subst (λ xs. IsStoredOf m (grid_of im.tree) n (numbers xs) im.faces.items im.edges.items) (sym c.deref.ensures.value) lists)) in
    let of = c.in_ok-world.ensures.mesh m (read_valid im was) handed in
    record {
      room = c.in_ok-piece.ensures;
      named = read_names im was;
      fit = c.in_ok-world.ensures.fit;
      laid_out = restored_laid im was c.in_ok-world.world of;
      valid = ∣ restored_valid im was c.in_ok-world.world of ∣₁;
    }

pub returns-clause-mesh : goal.returns-clause-mesh
returns-clause-mesh g c =
    let im = c.args.image in
    let was = c.requires.read in
    let n : Counts = record { cells = c.cells.result; faces = c.face_variables.result; edges = c.edge_variables.result } in
    let lists = read_lists im was n c.cells.ensures.count c.face_variables.ensures.any c.edge_variables.ensures.any in
    let m = mesh_of (stored_in im) in
    let handed =
    subst (λ xs. IsStoredOf m (grid_of im.tree) n (numbers c.deref.result.now) c.deref-2.result.now xs) (sym c.deref-3.ensures.value)
    (subst (λ xs. IsStoredOf m (grid_of im.tree) n (numbers c.deref.result.now) xs im.edges.items) (sym c.deref-2.ensures.value) (subst (λ xs. IsStoredOf m (grid_of im.tree) n (numbers xs) im.faces.items im.edges.items) (sym c.deref.ensures.value) lists)) in
    restored_is im was c.in_ok-world.world (c.in_ok-world.ensures.mesh m (read_valid im was) handed)
