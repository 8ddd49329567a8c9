use Rattle.std.proofs.Common.{◌≡◌, true, ◌<◌, length, slice_set, arith}
use Rattle.std.proofs.Math.ListN.{length-set}
use Rattle.mesh_model.specs.Tree.Kinds.{is_leaf_block}
use Rattle.block_tree.specs.GridOf.{grid_of}
use Rattle.block_tree.specs.Numbered.{flag_in}
use Rattle.block_tree.proofs.Flags.{set_put, put_keeps, flag_put, flag_kept}
use Rattle.block_tree.proofs.marks.Marks.put.Goals as goal

pub returns-clause-refine : goal.returns-clause-refine
returns-clause-refine c =
    let flags = c.args.self.now.refine.items in
    let node = c.args.node in
    let room = c.requires.marks.room in
    let here : node < length flags = let there = c.requires.node in omega arith in
    set_put c.args.tree.now (flag_in flags) (flag_in (slice_set flags node c.args.refine)) node c.args.refine c.requires.node (flag_put flags node c.args.refine here) (λ i other. flag_kept flags node i c.args.refine other)

pub returns-clause-derefine : goal.returns-clause-derefine
returns-clause-derefine c =
    let flags = c.args.self.now.derefine.items in
    let node = c.args.node in
    let room = c.requires.marks.room in
    let same = c.args.self.now.same_room in
    let here : node < length flags = let there = c.requires.node in omega arith in
    set_put c.args.tree.now (flag_in flags) (flag_in (slice_set flags node c.args.derefine)) node c.args.derefine c.requires.node (flag_put flags node c.args.derefine here) (λ i other. flag_kept flags node i c.args.derefine other)

pub returns-clause-marks : goal.returns-clause-marks
returns-clause-marks c =
    let g = grid_of c.args.tree.now in
    let refine = c.args.self.now.refine.items in
    let derefine = c.args.self.now.derefine.items in
    let node = c.args.node in
    let room = c.requires.marks.room in
    let same = c.args.self.now.same_room in
    let there = c.requires.node in
    let here : node < length refine = omega arith in
    let here2 : node < length derefine = omega arith in
    record {
      room = let size = length-set refine node c.args.refine in omega arith;
      fit = record {
        refine = put_keeps c.args.tree.now (λ b. (is_leaf_block g b ≡ true) × (b.level < g.shape.max)) (flag_in refine) (flag_in (slice_set refine node c.args.refine)) node c.args.refine c.requires.node (flag_put refine node c.args.refine here) (λ i other. flag_kept refine node i c.args.refine other) c.requires.marks.fit.refine
            (λ up. c.requires.refine up);
        derefine = put_keeps c.args.tree.now (λ b. (is_leaf_block g b ≡ true) × (g.shape.min < b.level)) (flag_in derefine) (flag_in (slice_set derefine node c.args.derefine)) node c.args.derefine c.requires.node (flag_put derefine node c.args.derefine here2) (λ i other. flag_kept derefine node i c.args.derefine other) c.requires.marks.fit.derefine
            (λ up. c.requires.derefine up);
      };
    }
