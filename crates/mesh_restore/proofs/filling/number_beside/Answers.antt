use Rattle.std.proofs.Common.{◌≡◌, ap, subst, sym, ◌∙◌, rules, to_z, of_z, w64}
use Rattle.block_tree.specs.declared.directions.Direction.{Direction}
use Rattle.check_format.specs.Own.{place}
use Rattle.mesh_model.specs.declared.geometry.Shape.{Shape}
use Rattle.mesh_model.specs.Tree.Kinds.{Grid}
use Rattle.mesh_restore.specs.Filling.{IsBeside, part_of}
use Rattle.mesh_restore.specs.Sources.{HasNoSource, IsChoice}
use Rattle.mesh_restore.proofs.FillLemmas.{none_beside, some_beside}
use Rattle.mesh_restore.proofs.PlaceLemmas.{seen_there}
use Rattle.mesh_restore.proofs.filling.number_beside.Goals as goal

pub number_of_source-requires : goal.number_of_source-requires
number_of_source-requires g c =
    let h = c.args.world.now.told.grid in
    let p = place c.args.i c.args.j c.args.k in
    let shape : c.shape-n.result ≡ h.shape = c.shape-n.ensures.value ∙ ap (λ (t : Grid). t.shape) c.tree.ensures in
    let part : c.part_of-part.result ≡ part_of h.shape.n c.args.array.group c.args.array.axis p = c.part_of-part.ensures.value ∙ ap (λ (s : Shape). part_of s.n c.args.array.group c.args.array.axis p) shape in
    let found = c.in-Some.ensures h c.args.array.node c.requires.leaf.sources in
    let inside = seen_there h c.requires.leaf.shape c.args.array.group c.args.array.axis p c.in-Some.source.toward c.requires.inside (subst (λ (t : Direction). IsChoice c.in-Some.source.toward t) part found.1) in
    (search rules, (c.requires.fit, (c.requires.declared, (found.0.leaf.there, inside))))

pub returns-in-None : goal.returns-in-None
returns-in-None g c =
    let h = c.args.world.now.told.grid in
    let p = place c.args.i c.args.j c.args.k in
    let shape : c.shape-n.result ≡ h.shape = c.shape-n.ensures.value ∙ ap (λ (t : Grid). t.shape) c.tree.ensures in
    let part : c.part_of-part.result ≡ part_of h.shape.n c.args.array.group c.args.array.axis p = c.part_of-part.ensures.value ∙ ap (λ (s : Shape). part_of s.n c.args.array.group c.args.array.axis p) shape in
    none_beside h c.requires.leaf.shape c.args.world.now c.args.array.group c.args.array.axis c.args.array.node c.requires.leaf.leaf p c.requires.inside
    (subst (λ (t : Direction). (d : Direction) → IsChoice d t → HasNoSource h c.args.array.node d) part (c.in-None.ensures h c.args.array.node c.requires.leaf.sources))

pub returns-in-Some : goal.returns-in-Some
returns-in-Some g c =
    let h = c.args.world.now.told.grid in
    let p = place c.args.i c.args.j c.args.k in
    let kept : to_z w64 (of_z w64 c.number_of_source.result) ≡ c.number_of_source.result = search rules in
    let shape : c.shape-n.result ≡ h.shape = c.shape-n.ensures.value ∙ ap (λ (t : Grid). t.shape) c.tree.ensures in
    let part : c.part_of-part.result ≡ part_of h.shape.n c.args.array.group c.args.array.axis p = c.part_of-part.ensures.value ∙ ap (λ (s : Shape). part_of s.n c.args.array.group c.args.array.axis p) shape in
    let found = c.in-Some.ensures h c.args.array.node c.requires.leaf.sources in
    some_beside h c.requires.leaf.shape c.args.world.now c.args.array.group c.args.array.axis c.args.array.node c.requires.leaf.leaf p c.requires.inside c.in-Some.source found.0
    (subst (λ (t : Direction). IsChoice c.in-Some.source.toward t) part found.1) _ (kept ∙ c.number_of_source.ensures)
