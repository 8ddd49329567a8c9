use Rattle.std.proofs.Common.{◌≡◌, true, refl, sym, subst, ap, ◌∙◌}
use Rattle.block_tree.specs.GridOf.{grid_of}
use Rattle.block_tree.specs.Numbered.{IsNode, block_at}
use Rattle.mesh_model.specs.declared.language.script.Command.TheVariants.{PrintGuards}
use Rattle.mesh_model.specs.declared.language.script.Declared.{Declared}
use Rattle.mesh_model.specs.declared.run.stops.Refusal.TheVariants as refusals
use Rattle.mesh_model.specs.Fields.Plain.{Mesh}
use Rattle.mesh_model.specs.Fields.Ranks.{Told}
use Rattle.mesh_model.specs.Language.Commands.{IsGroup}
use Rattle.mesh_model.specs.Run.Stops.{refusal}
use Rattle.mesh_model.specs.Run.Texts.{group_name, guards_text}
use Rattle.mesh_model.specs.Tree.Kinds.{is_leaf_block}
use Rattle.amr_report.specs.Printing.{Prints}
use Rattle.amr_engine.specs.EngineMesh.{mesh_of}
use Rattle.amr_engine.specs.Plain.{plain}
use Rattle.amr_engine.specs.Stopping.{Written}
use Rattle.amr_engine.specs.declared.cause.Cause.TheVariants as causes
use Rattle.amr_engine.proofs.Acted.{acts_printing, acts_refused}
use Rattle.amr_engine.proofs.Made.{grid_is, group_counted, named_now}
use Rattle.amr_engine.proofs.Printed.{guards_there, whole_there}
use Rattle.amr_engine.proofs.ValidOut.{mesh_out}
use Rattle.amr_engine.proofs.engine.Engine.print_guards.Goals as goal

pub returns-in-None-clause-acts : goal.returns-in-None-clause-acts
unfolding refusal
returns-in-None-clause-acts g c =
    let self = c.args.self.now in
    let m = mesh_of self.names self.world self.outs.items self.marks in
    let valid = mesh_out m self.valid in
    let grid = grid_is self.names self.world self.outs.items self.marks self.laid_out valid ∙ sym c.tree.ensures in
    let none = ap (λ h. is_leaf_block h c.args.at) grid ∙ c.in-None.ensures in
    acts_refused (causes.PlaceBlock c.args.at) (refusals.PlaceBlock c.args.at) m (PrintGuards c.args.group c.args.at) (PrintGuards c.args.group c.args.at) (g.K.Sink.taken c.args.sink.now) (g.K.Sink.faults c.args.sink.now) refl refl (rw none refl)

pub name_of-name-requires : goal.name_of-name-requires
name_of-name-requires g c = subst (λ (d : Declared). IsGroup d.names c.args.group) (sym c.fill_guards.ensures.declared) c.requires.group

pub print_guards-requires : goal.print_guards-requires
print_guards-requires g c =
    let new = c.fill_guards.new.self in
    let node = c.in-Some.node in
    let group = c.args.group in
    let valid = mesh_out (mesh_of new.names new.world new.outs.items new.marks) new.valid in
    let told = c.fill_guards.ensures.told in
    let grid : grid_of c.tree.result.now ≡ grid_of c.tree-tree.result.now = c.tree.ensures ∙ sym (ap (λ (t : Told). t.grid) told) ∙ sym c.tree-tree.ensures in
    let is : IsNode (grid_of c.tree-tree.result.now) node = subst (λ h. IsNode h node) grid c.in-Some.ensures.1.there in
    let leaf : is_leaf_block (grid_of c.tree-tree.result.now) (block_at (grid_of c.tree-tree.result.now) node) ≡ true =
    subst (λ h. is_leaf_block h (block_at h node) ≡ true) grid (ap (is_leaf_block (grid_of c.tree.result.now)) c.in-Some.ensures.1.block ∙ c.in-Some.ensures.0) in
    let there = group_counted new.names new.world new.outs.items new.marks new.laid_out valid group (subst (λ (d : Declared). IsGroup d.names group) (sym c.fill_guards.ensures.declared) c.requires.group) in
    record { name = c.name_of-name.ensures.short; node = is; leaf = leaf; there = whole_there g.row.N g.row.G new.world new.fit (grid_of c.tree-tree.result.now) c.tree-tree.ensures group there node is }

pub returns-clause-acts : goal.returns-clause-acts
unfolding refusal
returns-clause-acts g c =
    let self = c.args.self.now in
    let at = c.args.at in
    let group = c.args.group in
    let node = c.in-Some.node in
    let m = mesh_of self.names self.world self.outs.items self.marks in
    let valid = mesh_out m self.valid in
    let new = c.fill_guards.new.self in
    let grid = grid_is self.names self.world self.outs.items self.marks self.laid_out valid ∙ sym c.tree.ensures in
    let same : m.grid ≡ new.world.told.grid = ap (λ (k : Mesh). k.grid) (sym c.fill_guards.ensures.mesh) ∙ grid_is new.names new.world new.outs.items new.marks new.laid_out (mesh_out (mesh_of new.names new.world new.outs.items new.marks) new.valid) in
    let whole : m.grid ≡ grid_of c.tree-tree.result.now = same ∙ sym c.tree-tree.ensures in
    let leaf : is_leaf_block m.grid at ≡ true = ap (λ h. is_leaf_block h at) grid ∙ c.in-Some.ensures.0 in
    let is : IsNode m.grid node = subst (λ h. IsNode h node) (sym grid) c.in-Some.ensures.1.there in
    let block : block_at m.grid node ≡ at = ap (λ h. block_at h node) grid ∙ c.in-Some.ensures.1.block in
    let guards = guards_there g.row.N g.row.G new.world new.fit m (sym same) group c.fill_guards.ensures.guards node is (ap (is_leaf_block m.grid) block ∙ leaf) in
    let w : Written = record { before = g.K.Sink.taken c.args.sink.now; after = g.K.Sink.taken c.print_guards.new.sink; faults = g.K.Sink.faults c.args.sink.now; new_faults = g.K.Sink.faults c.print_guards.new.sink } in
    let name : group_name m.names group ≡ c.name_of-name.result.now =
    named_now self.names self.world self.outs.items self.marks self.laid_out valid group ∙ ap (λ (d : Declared). group_name d.names group) (sym c.fill_guards.ensures.declared) ∙ sym c.name_of-name.ensures.name in
    let printed = subst (λ b. Prints c.print_guards.result w.before (guards_text m group b) w.after w.faults w.new_faults) block (c.print_guards.ensures m whole name guards) in
    acts_printing c.print_guards.result c.written.result m (plain new) (PrintGuards group at) (PrintGuards group at) w refl refl (rw leaf refl) refl printed c.written.ensures c.fill_guards.ensures.mesh
