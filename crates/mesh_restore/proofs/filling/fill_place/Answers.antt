use Rattle.std.proofs.Common.{◌≡◌, ◌+◌, [], ◌∷◌, List, ℤ, ap, subst, sym, ◌∙◌, rules, to_z, of_z, w64}
use Rattle.block_tree.specs.Numbered.{block_at}
use Rattle.check_format.specs.Own.{place}
use Rattle.mesh_model.specs.declared.geometry.Shape.{Shape}
use Rattle.mesh_model.specs.Tree.Kinds.{Grid}
use Rattle.mesh_restore.specs.Filling.{IsBeside, IsFilling, order_of}
use Rattle.mesh_restore.proofs.FillLemmas.{beside_filled, own_filled}
use Rattle.mesh_restore.proofs.filling.fill_place.Goals as goal

pub returns-then-is_own-clause-filling : goal.returns-then-is_own-clause-filling
returns-then-is_own-clause-filling g c =
    let h = c.args.world.now.told.grid in
    let a = c.args.array in
    let p = place c.args.i c.args.j c.args.k in
    let n = ap (λ (s : Shape). s.n) (c.shape-n.ensures.value ∙ ap (λ (t : Grid). t.shape) c.tree.ensures) in
    let kept : to_z w64 (of_z w64 c.first_of-number.result) ≡ c.first_of-number.result = search rules in
    let own = sym (c.is_own.ensures h (block_at h a.node) c.requires.leaf.own n) ∙ c.if-is_own.true in
    subst (λ (xs : List ℤ). IsFilling h a.group a.axis a.node (order_of p) (order_of p + 1) (p ∷ []) c.args.world.now c.put.new.world c.args.rest.now xs) (sym c.after_first.ensures)
    (own_filled h c.requires.leaf.shape a.group a.axis a.node p c.requires.inside (to_z w64 (of_z w64 c.first_of-number.result)) c.args.world.now c.put.new.world c.put.ensures.put c.args.rest.now own (kept ∙ c.first_of-number.ensures))

pub returns-clause-filling : goal.returns-clause-filling
returns-clause-filling g c =
    let h = c.args.world.now.told.grid in
    let a = c.args.array in
    let p = place c.args.i c.args.j c.args.k in
    let n = ap (λ (s : Shape). s.n) (c.shape-n.ensures.value ∙ ap (λ (t : Grid). t.shape) c.tree.ensures) in
    let kept : to_z w64 (of_z w64 c.number_beside-number.result) ≡ c.number_beside-number.result = search rules in
    let other = sym (c.is_own.ensures h (block_at h a.node) c.requires.leaf.own n) ∙ c.if-is_own.false in
    beside_filled h c.requires.leaf.shape a.group a.axis a.node p c.requires.inside (to_z w64 (of_z w64 c.number_beside-number.result)) c.args.world.now c.put-2.new.world c.put-2.ensures.put c.args.rest.now other
    (subst (IsBeside h c.args.world.now a.group a.axis a.node p) (sym kept) c.number_beside-number.ensures)
