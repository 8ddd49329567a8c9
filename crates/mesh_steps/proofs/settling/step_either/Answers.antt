use Rattle.std.proofs.Common.{◌≡◌, ℕ, Bool, ap, arith, subst, sym, ◌∙◌}
use Rattle.amr_num.specs.declared.Axis.TheVariants.{X, Y, Z}
use Rattle.mesh_model.specs.Fields.Advect.{three}
use Rattle.mesh_model.specs.Fields.ArrayPlaces.{IsSize}
use Rattle.mesh_model.specs.Geometry.Limits.{IsShape}
use Rattle.mesh_model.specs.Tree.Kinds.{Grid}
use Rattle.block_tree.specs.GridOf.{grid_of}
use Rattle.block_tree.specs.Numbered.{block_at}
use Rattle.flux_conserve.specs.Jumps.{is_at_jump}
use Rattle.flux_conserve.specs.Work.{HasNoJump, IsJumpNode, work_array}
use Rattle.rank_world.specs.Holding.{IsLeafNode, cell_array}
use Rattle.staggered.proofs.Blocks.{size_by}
use Rattle.mesh_steps.proofs.Stepped.{jump_flows, out_small, work_faces}
use Rattle.mesh_steps.proofs.settling.step_either.Goals as goal

-- whether a node is at a jump, by what was found in the tree
at_jump : (h g : Grid) (node : ℕ) (found : Bool) → h ≡ g → found ≡ is_at_jump h (block_at h node) → is_at_jump g (block_at g node) ≡ found
at_jump h g node found same told = sym (told ∙ ap (λ u. is_at_jump u (block_at u node)) same)

pub step_leaf-requires : goal.step_leaf-requires
step_leaf-requires g c = (
  omega arith,
  (
    c.requires.may,
    record {
      own = c.requires.leaf;
      jump = at_jump (grid_of c.tree-tree.result.now) c.args.world.now.told.grid c.args.node c.is_jump_leaf.result c.tree-tree.ensures c.is_jump_leaf.ensures ∙ c.if-is_jump_leaf.true;
    },
  ),
)

pub step_calm-requires : goal.step_calm-requires
step_calm-requires g c =
    let calm = at_jump (grid_of c.tree-tree.result.now) c.args.world.now.told.grid c.args.node c.is_jump_leaf.result c.tree-tree.ensures c.is_jump_leaf.ensures ∙ c.if-is_jump_leaf.false in
    (omega arith, (c.requires.may, (c.requires.ready, (c.requires.speeds, (c.requires.leaf, (calm, (c.requires.x, (c.requires.y, c.requires.z))))))))

pub is_jump_leaf-requires : goal.is_jump_leaf-requires
is_jump_leaf-requires g c =
    let same = sym c.tree-tree.ensures in
    record { leaf = subst (λ (h : Grid). IsLeafNode h c.args.node) same c.requires.leaf; calm = λ none. subst HasNoJump same (c.requires.calm none) }

pub returns-then-is_jump_leaf-clause-stepped : goal.returns-then-is_jump_leaf-clause-stepped
returns-then-is_jump_leaf-clause-stepped g c =
    let w = c.args.world.now in
    let v = c.args.v in
    let node = c.args.node in
    let jump : IsJumpNode w.told.grid node = record {
      own = c.requires.leaf;
      jump = at_jump (grid_of c.tree-tree.result.now) w.told.grid node c.is_jump_leaf.result c.tree-tree.ensures c.is_jump_leaf.ensures ∙ c.if-is_jump_leaf.true;
    } in
    let size : IsSize g.row.N g.row.G = size_by g.row.N g.row.G w.told.grid.shape (subst IsShape (c.shape-shape.ensures.value ∙ ap (λ (h : Grid). h.shape) c.tree-tree.ensures) c.shape-shape.ensures.limits) c.requires.may.fit.sizes in
    record {
      x = work_array w X node;
      y = work_array w Y node;
      z = work_array w Z node;
      held = λ content are. jump_flows w v node content (three c.args.speeds) jump are;
      few = out_small g.row.N g.row.G (cell_array w v node) (work_array w X node) (work_array w Y node) (work_array w Z node) c.args.outer size (work_faces g.row.N g.row.G w v node size c.requires.may jump);
      left = c.step_leaf.ensures.left;
      in_range = c.step_leaf.ensures.in_range;
      flown = c.step_leaf.ensures.flown;
      refused = c.step_leaf.ensures.refused;
    }
