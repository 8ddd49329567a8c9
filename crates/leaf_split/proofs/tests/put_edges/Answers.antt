use Rattle.std.proofs.Common.{◌≡◌, length, sym, ◌∙◌}
use Rattle.mesh_model.specs.declared.fields.values.Var.TheVariants.{Edge}
use Rattle.mesh_model.specs.Fields.Arrays.{var_length}
use Rattle.mesh_model.proofs.FieldLemmas.Worlds.{fit_after, has_array, only_of, written_in}
use Rattle.leaf_split.proofs.tests.put_edges.Goals as goal

pub returns-clause-only : goal.returns-clause-only
returns-clause-only c = only_of c.args.world.now (Edge c.args.axis) 0 c.copy_from_slice.new.self c.requires.fit.one

pub returns-clause-fit : goal.returns-clause-fit
returns-clause-fit c =
    let has = has_array 4 1 c.args.world.now (Edge c.args.axis) 0 c.requires.fit c.requires.node c.requires.declared in
    fit_after c.args.world.now (Edge c.args.axis) 0 c.copy_from_slice.new.self c.requires.fit.one 4 1 c.values-size.ensures.size c.requires.fit has

pub returns-clause-value : goal.returns-clause-value
returns-clause-value c =
    let has = has_array 4 1 c.args.world.now (Edge c.args.axis) 0 c.requires.fit c.requires.node c.requires.declared in
    let long : length c.copy_from_slice.new.self ≡ var_length 4 1 (Edge c.args.axis) = c.copy_from_slice.ensures.len ∙ c.values_mut.ensures.whole in
    written_in c.args.world.now (Edge c.args.axis) 0 c.copy_from_slice.new.self c.requires.fit.one 4 1 c.values-size.ensures.size c.requires.fit has long ∙ c.copy_from_slice.ensures.after
